use Rattle.std.proofs.Common.{◌≡◌, ℕ, List, take, not}
use Rattle.std.specs.Prelude.{◌&&◌}
use Rattle.std.specs.HashSet.{keys}
use Rattle.elf_edits.specs.Changes.{has_name}
use Rattle.elf_edits.specs.Symbols.{names_behind_first}
use Rattle.elf_edits.specs.Texts.{is_among}
use Rattle.elf_image_symbols.specs.Loan.{symbols_now}
use Rattle.elf_notes.proofs.symbols.leave_out_symbols.Given as goal

-- the set is without the names of the symbols so far
abbrev pub invariant-loop-i : goal.invariant-loop-i
invariant-loop-i l = (name : List ℕ) → has_name (keys l.set) name ≡ (has_name (keys l.initial.set) name && not (is_among (names_behind_first (take l.i (symbols_now l.symbols))) name))
