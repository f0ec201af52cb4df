-- No version is marked, or those are that no symbol has any more.
use Rattle.std.proofs.Common.{List, Bool, sym, ap, ◌∙◌}
use Rattle.std.specs.Prelude.{◌&&◌, not}
use Rattle.elf_format.specs.Views.{NamedSymbol}
use Rattle.elf_layout_plan.specs.Needs.{is_version_used}
use Rattle.elf_layout_plan.specs.Staying.{unmarked_needs}
use Rattle.elf_layout_plan.proofs.NeedSteps.{at_read, unmarked_all, written_marked}
use Rattle.elf_layout_plan.proofs.staying.marks_of.Goals as goal

pub returns-then-do_all_stay : goal.returns-then-do_all_stay
returns-then-do_all_stay c =
    ap (λ (m : List Bool). unmarked_needs m c.args.image.now.needs) c.new.ensures.items
    ∙ unmarked_all c.args.image.now.needs
    ∙ sym (c.do_all_stay.ensures.stay c.if-do_all_stay.true c.args.read.now (at_read c.args.image.now c.args.read.now c.source-source.ensures.edited c.requires))

pub returns : goal.returns
returns c =
    written_marked c.args.read.now c.args.image.now c.in_ok-marks.marks.items (λ index. c.in_ok-marks.ensures index
    ∙ ap (λ (l : List NamedSymbol). is_version_used l index && not (is_version_used c.dynamic_symbols-2.result.edited.now.symbols index)) c.dynamic_symbols.ensures.symbols
    ∙ ap (λ (l : List NamedSymbol). is_version_used c.args.read.now.dynamic_symbols index && not (is_version_used l index)) c.dynamic_symbols-2.ensures.symbols)
    (c.do_all_stay.ensures.leads c.if-do_all_stay.false)
