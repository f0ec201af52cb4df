-- One symbol after another.
use Rattle.std.proofs.Common.{◌∙◌, drop}
use Rattle.std.specs.Prelude.{slice_get}
use Rattle.std.specs.List.{list_any}
use Rattle.elf_image_symbols.specs.Loan.{symbols_now}
use Rattle.elf_notes.specs.Notes.{stands_in}
use Rattle.elf_notes.proofs.SymbolSteps.{any_ends, any_goes, with_part}
use Rattle.elf_notes.proofs.notes.do_any_stand_in.Goals as goal

pub returns-then-stands_in : goal.returns-then-stands_in
returns-then-stands_in c =
    let (y, at, told) = with_part stands_in (slice_get (symbols_now c.args.symbols) c.loop-i.i) c.stands_in.result c.stands_in.ensures in
    any_ends stands_in (symbols_now c.args.symbols) c.loop-i.i y (list_any stands_in (drop 1 (symbols_now c.args.symbols))) at (told ∙ c.if-stands_in.true) c.loop-i.invariant

pub loop-i-preserved : goal.loop-i-preserved
loop-i-preserved c =
    let (y, at, told) = with_part stands_in (slice_get (symbols_now c.args.symbols) c.loop-i.i) c.stands_in.result c.stands_in.ensures in
    any_goes stands_in (symbols_now c.args.symbols) c.loop-i.i y (list_any stands_in (drop 1 (symbols_now c.args.symbols))) at (told ∙ c.if-stands_in.false) c.loop-i.invariant
