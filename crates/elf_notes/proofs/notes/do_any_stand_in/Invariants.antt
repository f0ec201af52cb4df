use Rattle.std.proofs.Common.{◌≡◌, drop}
use Rattle.std.specs.List.{list_any}
use Rattle.elf_image_symbols.specs.Loan.{symbols_now}
use Rattle.elf_notes.specs.Notes.{stands_in}
use Rattle.elf_notes.proofs.notes.do_any_stand_in.Given as goal

-- no symbol so far stands in the section
abbrev pub invariant-loop-i : goal.invariant-loop-i
invariant-loop-i l = list_any stands_in (drop l.i (symbols_now l.symbols)) ≡ list_any stands_in (drop 1 (symbols_now l.symbols))
