-- Needed versions as the code renames their libraries, by a map.
use Rattle.std.specs.Prelude.{ℕ, List, Bool, is_some, unwrap_or}
use Rattle.std.specs.Borrow.{Bor}
use Rattle.elf_edits.specs.Changes.{name_for}
use Rattle.elf_image.specs.Versions.{VersionNeeds}

-- the versions that are needed of a library with the name that a map, by its entries, has for its own, if it has one
abbrev pub with_file_by : List (Bor (List ℕ) × Bor (List ℕ)) → VersionNeeds → VersionNeeds
with_file_by names n = record n { file = unwrap_or (name_for names n.file) n.file }

-- a map, by its entries, has a name for the library
abbrev pub has_file_in : List (Bor (List ℕ) × Bor (List ℕ)) → VersionNeeds → Bool
has_file_in names n = is_some (name_for names n.file)
