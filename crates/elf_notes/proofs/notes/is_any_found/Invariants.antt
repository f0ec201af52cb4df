use Rattle.std.proofs.Common.{◌≡◌, drop, take}
use Rattle.std.specs.List.{list_any}
use Rattle.elf_hashes.specs.Found.{is_found}
use Rattle.elf_image_symbols.specs.Loan.{symbols_now}
use Rattle.elf_notes.proofs.notes.is_any_found.Given as goal

-- no symbol so far is found
abbrev pub invariant-loop-i : goal.invariant-loop-i
invariant-loop-i l = list_any is_found (drop l.i (take l.end (symbols_now l.symbols))) ≡ list_any is_found (drop 1 (take l.end (symbols_now l.symbols)))
