-- What symbols under edits hold, seen as lists.
use Rattle.std.specs.Prelude.{ℕ, ◌≤◌, List, length, map, vec_capacity}
use Rattle.elf_image_symbols.specs.declared.edited_symbols.EditedSymbols.TheInside.{Inside}
use Rattle.elf_image_symbols.specs.Changes.{AreChanges, symbol_now}
use Rattle.elf_image_symbols.specs.EditedList.{EditedList}
use Rattle.elf_image_symbols.specs.Rising.{AreRising, numbers_there}

-- the numbers at read of the symbols that are there
abbrev pub numbers_of : Inside → List ℕ
numbers_of s = numbers_there s.are_all (length s.table) s.kept.items

abbrev pub edited_list : Inside → EditedList
edited_list s = record { read = s.table; numbers = numbers_of s; symbols = map (symbol_now s.table s.changes.items) (numbers_of s) }

-- Changes and numbers are in order, and there is room for one of each symbol.
pub record AreInOrder (s : Inside) : Type 0 where
  pub changes : AreChanges s.table s.changes.items
  pub kept : AreRising 0 (length s.table) s.kept.items
  pub room_for_changes : length s.table ≤ vec_capacity s.changes
  pub room_for_numbers : length s.table ≤ vec_capacity s.kept
