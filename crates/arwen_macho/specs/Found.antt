-- What is found wrong with bytes that are to be a Mach-O file, thin or fat.
use Rattle.std.specs.Prelude.{ℕ, ◌≡◌, ◌&&◌, Bool, nat_le, List, [], ◌∷◌, length, take, map, Option, Some, None, ⊤, if◌then◌else◌}
use Rattle.std.specs.Str.{bytes_eq}
use Rattle.macho_image.specs.declared.format.MachFault.{MachFault}
use Rattle.macho_image.specs.Checks.{file_fault}
use Rattle.macho_image.specs.Fat.{archs_of, has_fat_magic, slice_of, table_fault}
use Rattle.macho_edits.specs.declared.error.MachoError.{MachoError}
use Rattle.macho_edits.specs.declared.error.MachoError.TheVariants.{CommandBuilderError, DylibIdMissing, DylibNameMissing, Memory, NoRoom, Parsing, RpathMissing, UnixArchive}

-- a check that fails, or a slice that is a Unix archive
pub data Found : Type 0 where
  fault : (check : MachFault) → Found
  archive : Found

-- a failing check of a thin file
abbrev pub found_fault : Option MachFault → Option Found
found_fault None = None
found_fault (Some check) = Some (fault check)

-- the first eight bytes of a Unix archive: `!<arch>` and a line feed
abbrev pub ARCHIVE : List ℕ
ARCHIVE = 0x21 ∷ 0x3c ∷ 0x61 ∷ 0x72 ∷ 0x63 ∷ 0x68 ∷ 0x3e ∷ 0x0a ∷ []

-- what is found in one slice
unfoldable pub slice_found : List ℕ → Option Found
slice_found bytes = if bytes_eq (take 8 bytes) ARCHIVE then Some archive else found_fault (file_fault bytes)

-- the first of two
abbrev pub found_first : Option Found → Option Found → Option Found
found_first None next = next
found_first (Some found) next = Some found

-- what is found in slices, the first slice first
abbrev pub slices_found : List (List ℕ) → Option Found
slices_found [] = None
slices_found (s ∷ rest) = found_first (slice_found s) (slices_found rest)

-- what is found in a fat file: in its table, or else in its slices
unfoldable pub fat_found : List ℕ → Option Found
fat_found bytes = found_first (found_fault (table_fault bytes)) (slices_found (map (slice_of bytes) (archs_of bytes)))

-- whether a file is fat: by its first four bytes
abbrev pub begins_fat : List ℕ → Bool
begins_fat bytes = nat_le 4 (length bytes) && has_fat_magic bytes

-- what is found in a file
unfoldable pub container_found : List ℕ → Option Found
container_found bytes = if begins_fat bytes then fat_found bytes else found_fault (file_fault bytes)

-- an error of a parse is want of memory, or what is found first
abbrev pub Finds : MachoError → Option Found → Type 0
Finds (Parsing check) found = found ≡ Some (fault check)
Finds UnixArchive found = found ≡ Some archive
Finds Memory found = ⊤
Finds (CommandBuilderError error) found = ⊥
Finds (RpathMissing text) found = ⊥
Finds (DylibNameMissing text) found = ⊥
Finds DylibIdMissing found = ⊥
Finds (NoRoom needed available) found = ⊥
