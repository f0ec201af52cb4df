-- One symbol after another.
use Rattle.std.proofs.Common.{◌∙◌, arith, drop, take}
use Rattle.std.specs.Prelude.{slice_get}
use Rattle.std.specs.List.{list_any}
use Rattle.elf_hashes.specs.Found.{is_found}
use Rattle.elf_image_symbols.specs.Loan.{symbols_now}
use Rattle.elf_notes.proofs.SymbolSteps.{any_ends, any_goes, with_part, within}
use Rattle.elf_notes.proofs.notes.is_any_found.Goals as goal

pub returns-then-is_found : goal.returns-then-is_found
returns-then-is_found c =
    let (y, at, told) = with_part is_found (slice_get (symbols_now c.args.symbols.now) c.loop-i.i) c.is_found.result c.is_found.ensures in
    any_ends is_found (take c.args.end (symbols_now c.args.symbols.now)) c.loop-i.i y (list_any is_found (drop 1 (take c.args.end (symbols_now c.args.symbols.now))))
    (within (symbols_now c.args.symbols.now) c.args.end c.loop-i.i y (omega arith) at) (told ∙ c.if-is_found.true) c.loop-i.invariant

pub loop-i-preserved : goal.loop-i-preserved
loop-i-preserved c =
    let (y, at, told) = with_part is_found (slice_get (symbols_now c.args.symbols.now) c.loop-i.i) c.is_found.result c.is_found.ensures in
    any_goes is_found (take c.args.end (symbols_now c.args.symbols.now)) c.loop-i.i y (list_any is_found (drop 1 (take c.args.end (symbols_now c.args.symbols.now))))
    (within (symbols_now c.args.symbols.now) c.args.end c.loop-i.i y (omega arith) at) (told ∙ c.if-is_found.false) c.loop-i.invariant
