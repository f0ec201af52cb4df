-- Records of symbol versions as bytes (GNU symbol versioning), the same in files of both classes.
use Rattle.std.specs.Prelude.{ℕ, ◌+◌, ◌*◌, ◌^◌, List, [], ◌∷◌, ◌++◌, length, map, Bool, ◌&&◌, is_some, nat_le, unwrap_or, if◌then◌else◌}
use Rattle.std.specs.List.{list_all}
use Rattle.patch_bytes.specs.declared.number.ByteOrder2.{ByteOrder2}
use Rattle.elf_format.specs.declared.constants.TheConstants.{VERSYM_HIDDEN}
use Rattle.elf_format.specs.declared.version_id.VersionId.{VersionId}
use Rattle.elf_format.specs.Hashes.{gabi_hash}
use Rattle.elf_format.specs.Versions.{VersionDefinition, VersionName, VersionNeeds}
pub use Rattle.elf_tables.specs.Fields.{fields, halves, words}
use Rattle.elf_tables.specs.Strings.{Strings, place_of}

-- how far behind a record of so many bytes the next one stands, 0 where there is none
abbrev pub next_behind : {A : Type 0} → List A → ℕ → ℕ
next_behind [] size = 0
next_behind (x ∷ xs) size = size

-- records end to end, each of which tells how far behind it the next one stands
unfoldable pub chained : {A : Type 0} → (A → ℕ → List ℕ) → (A → ℕ) → List A → List ℕ
chained spell size [] = []
chained spell size (x ∷ xs) = spell x (next_behind xs (size x)) ++ chained spell size xs

-- ## Versions of symbols (.gnu.version)

-- the number of a symbol's version, its highest bit where the symbol is hidden
abbrev pub version_number : VersionId → ℕ
version_number id = id.index + (if id.hidden then VERSYM_HIDDEN else 0)

abbrev pub version_fields : List VersionId → List (ℕ × ℕ)
version_fields ids = map (λ id. (2, version_number id)) ids

-- an index takes more than its 15 bits
abbrev pub is_index_too_large : VersionId → Bool
is_index_too_large id = nat_le VERSYM_HIDDEN id.index

-- ## Defined versions (.gnu.version_d)

-- A defined version: its hash, and where its names stand.
pub record PlacedDefinition : Type 0 where
  pub index : ℕ
  pub flags : ℕ
  pub hash : ℕ
  pub names : List ℕ

-- a name (Elfxx_Verdaux): its place and the next one's distance
abbrev pub spelled_definition_name : ByteOrder2 → ℕ → ℕ → List ℕ
spelled_definition_name order name next = fields order ((4, name) ∷ (4, next) ∷ [])

abbrev pub definition_size : PlacedDefinition → ℕ
definition_size d = 20 + 8 * length d.names

-- a defined version with its names behind it (Elfxx_Verdef): revision, flags, index, number of names, hash, the first
-- name's distance and the next version's
unfoldable pub spelled_definition : ByteOrder2 → PlacedDefinition → ℕ → List ℕ
spelled_definition order d next =
    fields order ((2, 1) ∷ (2, d.flags) ∷ (2, d.index) ∷ (2, length d.names) ∷ (4, d.hash) ∷ (4, 20) ∷ (4, next) ∷ [])
    ++ chained (spelled_definition_name order) (λ name. 8) d.names

abbrev pub definition_table : ByteOrder2 → List PlacedDefinition → List ℕ
definition_table order ds = chained (spelled_definition order) definition_size ds

-- ## Needed versions (.gnu.version_r)

-- A needed version: its hash, and where its name stands.
pub record PlacedName : Type 0 where
  pub hash : ℕ
  pub flags : ℕ
  pub index : ℕ
  pub name : ℕ

-- The versions needed of a library, and where the library's name stands.
pub record PlacedNeeds : Type 0 where
  pub file : ℕ
  pub versions : List PlacedName

-- a needed version (Elfxx_Vernaux): hash, flags, index, name and the next one's distance
abbrev pub spelled_need_name : ByteOrder2 → PlacedName → ℕ → List ℕ
spelled_need_name order v next = fields order ((4, v.hash) ∷ (2, v.flags) ∷ (2, v.index) ∷ (4, v.name) ∷ (4, next) ∷ [])

abbrev pub needs_size : PlacedNeeds → ℕ
needs_size n = 16 + 16 * length n.versions

-- a library with the versions needed of it behind it (Elfxx_Verneed): revision, number of versions, file, the first
-- version's distance and the next library's
unfoldable pub spelled_needs : ByteOrder2 → PlacedNeeds → ℕ → List ℕ
spelled_needs order n next =
    fields order ((2, 1) ∷ (2, length n.versions) ∷ (4, n.file) ∷ (4, 16) ∷ (4, next) ∷ [])
    ++ chained (spelled_need_name order) (λ v. 16) n.versions

abbrev pub needs_table : ByteOrder2 → List PlacedNeeds → List ℕ
needs_table order ns = chained (spelled_needs order) needs_size ns

-- ## Where the texts of versions stand

-- the place of a text in a table, 0 where it has none
abbrev pub place_in : Strings → List ℕ → ℕ
place_in table text = unwrap_or (place_of table text) 0

-- the version's own name, empty where it has none
abbrev pub own_name : List (List ℕ) → List ℕ
own_name [] = []
own_name (name ∷ names) = name

-- a defined version with its places; its hash is that of its own name, by the gABI
abbrev pub placed_definition : Strings → VersionDefinition → PlacedDefinition
placed_definition table d = record { index = d.index; flags = d.flags; hash = gabi_hash (own_name d.names); names = map (place_in table) d.names }

abbrev pub placed_name : Strings → VersionName → PlacedName
placed_name table v = record { hash = gabi_hash v.name; flags = v.flags; index = v.index; name = place_in table v.name }

abbrev pub placed_needs : Strings → VersionNeeds → PlacedNeeds
placed_needs table n = record { file = place_in table n.file; versions = map (placed_name table) n.versions }

-- the table has all texts of these versions
abbrev pub has_definition_texts : Strings → List VersionDefinition → Bool
has_definition_texts table ds = list_all (λ d. list_all (λ name. is_some (place_of table name)) d.names) ds

abbrev pub has_needs_texts : Strings → List VersionNeeds → Bool
has_needs_texts table ns = list_all (λ n. is_some (place_of table n.file) && list_all (λ v. is_some (place_of table v.name)) n.versions) ns

-- more names or versions than 16 bits can count
abbrev pub are_names_too_many : VersionDefinition → Bool
are_names_too_many d = nat_le (2 ^ 16) (length d.names)

abbrev pub are_versions_too_many : VersionNeeds → Bool
are_versions_too_many n = nat_le (2 ^ 16) (length n.versions)
