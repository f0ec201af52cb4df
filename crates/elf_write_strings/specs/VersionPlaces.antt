-- Where the texts of version records stand in a string table that is copied.
use Rattle.std.specs.Prelude.{ℕ, ◌≡◌, ◌<◌, List, [], length, get_or, IsSome, Some, None}
use Rattle.std.specs.List.{All, slice_get}
use Rattle.patch_bytes.specs.ByteString.{bytes_of_each}
use Rattle.elf_format.specs.declared.records.NeedNameNumbers.{NeedNameNumbers}
use Rattle.elf_format.specs.Image.{ImageSection}
use Rattle.elf_format.specs.Versions.{DefinitionNumbers, NeedNumbers}
use Rattle.elf_tables.specs.Strings.{PlacesStand, StandsAt, Strings, place_of}
use Rattle.elf_image_versions.specs.declared.version.VersionDef.{VersionDef}
use Rattle.elf_image_versions.specs.declared.version.VersionNeed.{VersionNeed}
use Rattle.elf_image_versions.specs.declared.version.VersionNeedName.{VersionNeedName}

-- the table once more texts are placed in it: its bytes stay, and each text that had a place has one
pub record HasMore (old new : Strings) : Type 0 where
  pub bytes : new.bytes ≡ old.bytes
  pub had : (text : List ℕ) → IsSome (place_of old text) → IsSome (place_of new text)
  pub stand : PlacesStand old → PlacesStand new

-- the table tells where a text stands
abbrev pub Tells : Strings → List ℕ → Type 0
Tells table text = IsSome (place_of table text)

-- texts stand at these places of a table, one by one
pub record AreAt (strings : List ℕ) (texts : List (List ℕ)) (places : List ℕ) : Type 0 where
  pub count : length places ≡ length texts
  pub each : (i d : ℕ) (t : List ℕ) → i < length texts → StandsAt strings (get_or places i d) (get_or texts i t)

-- defined versions, whose names stand at the places that their records tell
pub record AreDefinitionsAt (strings : List ℕ) (definitions : List VersionDef) (records : List DefinitionNumbers) : Type 0 where
  pub count : length records ≡ length definitions
  pub each : (i : ℕ) (d : VersionDef) (r : DefinitionNumbers) → i < length definitions
      → AreAt strings (bytes_of_each (get_or definitions i d).names.items) (get_or records i r).names

-- the table tells where all names of a defined version stand
abbrev pub TellsDefinition : Strings → VersionDef → Type 0
TellsDefinition table d = All (Tells table) (bytes_of_each d.names.items)

-- the bytes of the section at a position, none without it
abbrev pub content_in : List ImageSection → ℕ → List ℕ
content_in sections n = elim (slice_get sections n) [ Some s ↦ s.content | None ↦ [] ]

-- ## Needed versions

-- needed versions, whose names stand at the places that their records tell
pub record AreNamesAt (strings : List ℕ) (versions : List VersionNeedName) (records : List NeedNameNumbers) : Type 0 where
  pub count : length records ≡ length versions
  pub each : (i : ℕ) (v : VersionNeedName) (r : NeedNameNumbers) → i < length versions
      → StandsAt strings (get_or records i r).name (get_or versions i v).name.bytes

-- versions needed of a library, whose names and the library's stand at the places that their records tell
pub record IsNeedAt (strings : List ℕ) (need : VersionNeed) (numbers : NeedNumbers) : Type 0 where
  pub file : StandsAt strings numbers.file need.file.bytes
  pub versions : AreNamesAt strings need.versions.items numbers.versions

-- library by library
pub record AreNeedsAt (strings : List ℕ) (needs : List VersionNeed) (records : List NeedNumbers) : Type 0 where
  pub count : length records ≡ length needs
  pub each : (i : ℕ) (n : VersionNeed) (r : NeedNumbers) → i < length needs → IsNeedAt strings (get_or needs i n) (get_or records i r)

-- the table tells where the name of a needed version stands
abbrev pub TellsName : Strings → VersionNeedName → Type 0
TellsName table v = Tells table v.name.bytes

-- the table tells where all texts of the versions needed of a library stand
pub record TellsNeed (table : Strings) (n : VersionNeed) : Type 0 where
  pub file : Tells table n.file.bytes
  pub versions : All (TellsName table) n.versions.items
