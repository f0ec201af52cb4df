-- One more symbol's name is taken out of the set.
use Rattle.std.proofs.Common.{◌∙◌, arith, not, sym, ap, take}
use Rattle.std.specs.Prelude.{◌&&◌}
use Rattle.std.specs.HashSet.{keys}
use Rattle.elf_edits.specs.Changes.{has_name}
use Rattle.elf_edits.specs.Symbols.{names_behind_first}
use Rattle.elf_edits.specs.Texts.{is_among}
use Rattle.elf_image_symbols.specs.Loan.{symbols_now}
use Rattle.elf_notes.proofs.NameSteps.{all_there, take_out_last}
use Rattle.elf_notes.proofs.SymbolSteps.{named_more, none_has, none_left, none_named}
use Rattle.elf_notes.proofs.symbols.leave_out_symbols.Goals as goal

pub loop-i-init : goal.loop-i-init
loop-i-init c = λ name.
    all_there (has_name (keys c.args.set.now) name) ∙ ap (λ l. has_name (keys c.args.set.now) name && not (is_among l name)) (sym (none_named (symbols_now c.args.symbols.now)))

pub loop-i-preserved : goal.loop-i-preserved
loop-i-preserved c = λ name.
    take_out_last (names_behind_first (take c.loop-i.i (symbols_now c.args.symbols.now))) c.name.result.now (has_name (keys c.args.set.now) name) (keys c.loop-i.set) (keys c.remove.new.self) name
    (c.loop-i.invariant name) (c.remove.ensures.updates.0 (record { ref_ptr = (0, 0); now = name }))
    ∙ ap (λ l. has_name (keys c.args.set.now) name && not (is_among l name)) (sym (named_more (symbols_now c.args.symbols.now) c.loop-i.i c.name.result.now (omega arith) (omega arith) c.name.ensures))

pub returns-then-is_empty : goal.returns-then-is_empty
returns-then-is_empty c = λ name.
    none_left (symbols_now c.args.symbols.now) c.loop-i.i (has_name (keys c.args.set.now) name) (has_name (keys c.loop-i.set) name) name (omega arith)
    (none_has (keys c.loop-i.set) name (c.is_empty.ensures.0 c.if-is_empty.true)) (c.loop-i.invariant name)
