-- The bytes of each section that is written.
use Rattle.std.specs.Prelude.{ℕ, ◌-◌, ◌*◌, ◌≤◌, ◌≡◌, List, [], ◌∷◌, ◌++◌, length, map, replicate, Contains, true, false, ◌&&◌, Option, Some, IsTrue, ◌==◌, if◌then◌else◌, unwrap_or}
use Rattle.std.specs.List.{flat_map, slice_get}
use Rattle.patch_bytes.specs.Memory.{◌>>=◌, memory_of}
use Rattle.patch_bytes.specs.declared.number.ByteOrder2.{ByteOrder2}
use Rattle.elf_format.specs.declared.constants.TheConstants.{DT_GNU_HASH, DT_HASH, DT_STRSZ, DT_STRTAB, DT_SYMENT, DT_SYMTAB, DT_VERDEF, DT_VERDEFNUM, DT_VERNEED, DT_VERSYM, SHT_DYNSYM, SHT_GNU_HASH, SHT_GNU_VERDEF, SHT_GNU_VERNEED, SHT_GNU_VERSYM, SHT_HASH, SHT_SYMTAB}
use Rattle.elf_format.specs.declared.form.Form.{Form}
use Rattle.elf_format.specs.declared.records.EntryNumbers.{EntryNumbers}
use Rattle.elf_format.specs.declared.records.SymbolNumbers.{SymbolNumbers}
use Rattle.elf_format.specs.declared.section_data.SectionData.{SectionData}
use Rattle.elf_format.specs.declared.section_data.SectionData.TheVariants as kinds
use Rattle.elf_format.specs.Dynamic.{Auto, Entry, Integer, Text}
use Rattle.elf_format.specs.Image.{Image, ImageSection, entry_tag}
use Rattle.elf_format.specs.Options.{list_at}
use Rattle.elf_format.specs.Places.{Place}
use Rattle.elf_format.specs.Records.{entry_size, symbol_size, symbols_in}
use Rattle.elf_format.specs.Versions.{VersionDefinition, VersionNeeds}
use Rattle.elf_format.specs.Views.{NamedSymbol, Table, defined_versions, needed_versions}
use Rattle.elf_layout_plan.specs.Spelled.{spelled_entry}
use Rattle.elf_layout_plan.specs.Strings.{PlacesStand, StandsAt, Strings, table_length}
use Rattle.elf_layout_plan.specs.VersionRecords.{definition_table, has_definition_texts, has_needs_texts, needs_table, placed_definition, placed_needs}
use Rattle.elf_format.specs.Hashes.{GnuHeader, gnu_header, word_of_table}
use Rattle.elf_hashes.specs.declared.gnu.GnuSizes.{GnuSizes}
use Rattle.elf_hashes.specs.Found.{hashed_names}
use Rattle.elf_hashes.specs.Gabi.{IsGabiTable}
use Rattle.elf_hashes.specs.Gnu.{IsGnuTable}
use Rattle.elf_hashes.specs.Versions.{AreVersionsOf}
use Rattle.elf_write_spec.specs.Renumbered.{AreRenumbered}
use Rattle.elf_image.specs.Names.{are_names_changed}
use Rattle.elf_image.specs.Relocated.{is_against}
use Rattle.elf_image.specs.Staying.{table_number}
use Rattle.elf_image.specs.Kept.{KeptSection, dynamic_strings_number, kept_at_number, kept_of_type}
use Rattle.elf_layout_plan.specs.Memory.{Resized}
use Rattle.elf_layout_plan.specs.Plan.{Plan}
use Rattle.elf_layout_plan.specs.Texts.{is_table_copied, texts_in_use}
use Rattle.elf_write_spec.specs.Base.{is_interpreter}
use Rattle.elf_write_spec.specs.Final.{are_symbols_kept, are_versions_kept, final, is_static_renumbered, new_dynamic_symbols, new_static_symbols}
use Rattle.elf_write_spec.specs.Headers.{Reads}

-- ## The dynamic list (gABI, Dynamic Section)

-- where a section comes to stand
abbrev pub place_of_kept : Plan → Option KeptSection → Option Place
place_of_kept plan s = s >>= λ k. slice_get plan.places k.position

abbrev pub address_of_type : Image → Plan → ℕ → ℕ
address_of_type image plan type = unwrap_or (place_of_kept plan (kept_of_type type image) >>= λ p. Some p.sh_addr) 0

-- where the dynamic strings come to stand
abbrev pub strings_place : Image → Plan → Option Place
strings_place image plan = place_of_kept plan (dynamic_strings_number image >>= λ number. kept_at_number number image)

-- the value of a tag that follows from a table: where that stands, how long it is, how large its records are or how many there are
abbrev pub table_value : Resized → Plan → ℕ → ℕ
table_value r plan tag =
    if tag == DT_STRTAB then unwrap_or (strings_place r.image plan >>= λ p. Some p.sh_addr) 0
    else if tag == DT_STRSZ then unwrap_or (strings_place r.image plan >>= λ p. Some p.sh_size) 0
    else if tag == DT_SYMTAB then address_of_type r.image plan SHT_DYNSYM
    else if tag == DT_SYMENT then symbol_size r.image.form
    else if tag == DT_HASH then address_of_type r.image plan SHT_HASH
    else if tag == DT_GNU_HASH then address_of_type r.image plan SHT_GNU_HASH
    else if tag == DT_VERSYM then address_of_type r.image plan SHT_GNU_VERSYM
    else if tag == DT_VERDEF then address_of_type r.image plan SHT_GNU_VERDEF
    else if tag == DT_VERDEFNUM then length r.image.definitions
    else if tag == DT_VERNEED then address_of_type r.image plan SHT_GNU_VERNEED
    else length (final r.read r.image).needs

-- the value of an entry: a table's, a number of its own, or where its text stands
abbrev pub IsValueOf : Resized → Plan → List ℕ → Entry → ℕ → Type 0
IsValueOf r plan strings (Auto tag) value = value ≡ table_value r plan tag
IsValueOf r plan strings (Integer tag number) value = value ≡ number
IsValueOf r plan strings (Text tag text) value = Reads strings value text

pub record IsEntryOf (r : Resized) (plan : Plan) (strings : List ℕ) (e : Entry) (raw : EntryNumbers) : Type 0 where
  pub tag : raw.d_tag ≡ entry_tag e
  pub value : IsValueOf r plan strings e raw.d_value

-- one entry for each of the list, in their order
abbrev pub AreEntriesOf : Resized → Plan → List ℕ → List Entry → List EntryNumbers → Type 0
AreEntriesOf r plan strings [] [] = Unit {0}
AreEntriesOf r plan strings [] (x ∷ xs) = ⊥
AreEntriesOf r plan strings (e ∷ es) [] = ⊥
AreEntriesOf r plan strings (e ∷ es) (x ∷ xs) = IsEntryOf r plan strings e x × AreEntriesOf r plan strings es xs

-- the entries end to end, zeros behind them, which begin with a DT_NULL
unfoldable pub spelled_list : Form → List EntryNumbers → ℕ → List ℕ
spelled_list form raw size = flat_map (spelled_entry form) raw ++ replicate (size - length raw * entry_size form) 0

-- ## String tables (gABI, String Table)

-- The bytes are a string table that is made of these texts.
pub record IsTableMadeOf (texts : List (List ℕ)) (bytes : List ℕ) : Type 0 where
  -- the first byte is a NUL, so the text at 0 is empty
  pub first : slice_get bytes 0 ≡ Some 0
  -- each text stands somewhere, a NUL behind it
  pub stand : (text : List ℕ) → Contains texts text → (place : ℕ) × StandsAt bytes place text
  -- no byte more than the texts need, where they share their ends
  pub long : length bytes ≡ table_length texts

-- The bytes of a string table: those that were read, or a table that is made anew.
pub record IsStringTableOf (read image : Image) (s : KeptSection) (bytes : List ℕ) : Type 0 where
  -- the table is as it was read, where no text of it was added or changed
  pub copied : IsTrue (is_table_copied read image s.number) → bytes ≡ s.section.content
  -- the table is else made of the texts that the image uses of it
  pub anew : is_table_copied read image s.number ≡ false
      → IsTableMadeOf (texts_in_use read image s.number) bytes

-- ## Symbols (gABI, Symbol Table)

pub record IsSymbolOf (strings : List ℕ) (y : NamedSymbol) (numbers : SymbolNumbers) : Type 0 where
  pub name : Reads strings numbers.st_name y.name
  pub st_info : numbers.st_info ≡ y.st_info
  pub st_other : numbers.st_other ≡ y.st_other
  pub st_shndx : numbers.st_shndx ≡ y.st_shndx
  pub st_value : numbers.st_value ≡ y.st_value
  pub st_size : numbers.st_size ≡ y.st_size

-- one record for each symbol, in their order
abbrev pub AreSymbolsOf : List ℕ → List NamedSymbol → List SymbolNumbers → Type 0
AreSymbolsOf strings [] [] = Unit {0}
AreSymbolsOf strings [] (n ∷ ns) = ⊥
AreSymbolsOf strings (y ∷ ys) [] = ⊥
AreSymbolsOf strings (y ∷ ys) (n ∷ ns) = IsSymbolOf strings y n × AreSymbolsOf strings ys ns

-- The static symbols, as they were read where nothing of them changed and the table of their names is copied.
pub record AreStaticSymbolsIn (r : Resized) (s : KeptSection) (strings bytes : List ℕ) : Type 0 where
  pub symbols : AreSymbolsOf strings (final r.read r.image).symbols (symbols_in r.image.form bytes)
  pub copied : IsTrue (are_symbols_kept r.read r.image && is_table_copied r.read r.image s.section.sh_link) → bytes ≡ s.section.content

-- ## Versions (GNU symbol versioning)

-- records of versions in bytes, with their texts, so many of them
abbrev pub table_in : List ℕ → List ℕ → ℕ → Table
table_in bytes strings count = record { bytes = memory_of bytes; texts = memory_of strings; count = count }

-- The bytes are the records of defined versions, each name at a place where it stands: of revision 1, with the hash of the version's own
-- name, and with no next one behind the last.
pub record AreDefinitionsSpelled (order : ByteOrder2) (definitions : List VersionDefinition) (strings bytes : List ℕ) : Type 0 where
  pub names : Strings
  pub of_strings : names.bytes ≡ strings
  pub stand : PlacesStand names
  pub told : IsTrue (has_definition_texts names definitions)
  pub are_bytes : bytes ≡ definition_table order (map (placed_definition names) definitions)

-- The bytes are the records of needed versions, each name at a place where it stands: of revision 1, with the hash of each version's name.
pub record AreNeedsSpelled (order : ByteOrder2) (needs : List VersionNeeds) (strings bytes : List ℕ) : Type 0 where
  pub names : Strings
  pub of_strings : names.bytes ≡ strings
  pub stand : PlacesStand names
  pub told : IsTrue (has_needs_texts names needs)
  pub are_bytes : bytes ≡ needs_table order (map (placed_needs names) needs)

-- the records of defined versions are spelled, and read back
pub record AreDefinitionsOf (form : Form) (definitions : List VersionDefinition) (strings bytes : List ℕ) : Type 0 where
  pub spelled : AreDefinitionsSpelled form.order definitions strings bytes
  pub read : (room : ℕ) → length strings ≤ room
      → defined_versions form room (table_in bytes strings (length definitions)) ≡ Some definitions

pub record AreNeedsOf (form : Form) (needs : List VersionNeeds) (strings bytes : List ℕ) : Type 0 where
  pub spelled : AreNeedsSpelled form.order needs strings bytes
  pub read : (room : ℕ) → length strings ≤ room → needed_versions form room (table_in bytes strings (length needs)) ≡ Some needs

abbrev pub AreDefinitionsIn : Image → List ℕ → List ℕ → Type 0
AreDefinitionsIn image = AreDefinitionsOf image.form image.definitions

abbrev pub AreNeedsIn : Resized → List ℕ → List ℕ → Type 0
AreNeedsIn r = AreNeedsOf r.image.form (final r.read r.image).needs

-- The versions of the symbols (GNU symbol versioning, .gnu.version), as they were read where no version changed.
pub record AreVersionsIn (r : Resized) (s : ImageSection) (bytes : List ℕ) : Type 0 where
  pub versions : AreVersionsOf r.image.form (final r.read r.image).dynamic_symbols bytes
  pub copied : IsTrue (are_versions_kept r.read r.image) → bytes ≡ s.content

-- ## Relocations (gABI, Relocation)

-- as they were read; where static symbols went and these are against them, each names its symbol by the new number
abbrev pub AreStaticRelocationsOf : Resized → ImageSection → List ℕ → Type 0
AreStaticRelocationsOf r s bytes = elim (is_static_renumbered r.read r.image && is_against (table_number SHT_SYMTAB r.image) s) [
  | true ↦ AreRenumbered r.image.form s.sh_type (new_static_symbols r.read r.image) s.content bytes
  | _ ↦ bytes ≡ s.content
]

-- The relocations of a section are as they were read; where the symbols of a table are renumbered and these are against them, each names
-- its symbol by the new number.
abbrev pub AreRelocationsOf : Resized → ImageSection → List ℕ → Type 0
AreRelocationsOf r s bytes = elim (are_names_changed r.read r.image && is_against (table_number SHT_DYNSYM r.image) s) [
  | true ↦ AreRenumbered r.image.form s.sh_type (new_dynamic_symbols r.read r.image) s.content bytes
  | _ ↦ AreStaticRelocationsOf r s bytes
]

-- ## Hash tables

-- as many buckets as the gABI's table has in its bytes (gABI, Hash Table)
abbrev pub gabi_buckets : Form → List ℕ → ℕ
gabi_buckets form content = unwrap_or (word_of_table form (memory_of content) 0) 0

-- the sizes that a table's header tells (GNU hash section)
abbrev pub sizes_in : GnuHeader → GnuSizes
sizes_in h = record { buckets = h.buckets; filter_words = h.filter_words; filter_shift = h.filter_shift }

-- A hash table is as it was read where the names are; else it is made of the final symbols, as many buckets as it had.
abbrev pub IsGabiContent : Resized → ImageSection → List ℕ → Type 0
IsGabiContent r s bytes = elim (are_names_changed r.read r.image) [
  | true ↦ IsGabiTable r.image.form (gabi_buckets r.image.form s.content) (hashed_names (final r.read r.image).dynamic_symbols) bytes
  | _ ↦ bytes ≡ s.content
]

-- A GNU hash table is as it was read where the names are; else it is made of the final symbols, with the buckets, the words of the filter
-- and the shift that it had.
abbrev pub IsGnuContent : Resized → ImageSection → List ℕ → Type 0
IsGnuContent r s bytes = elim (are_names_changed r.read r.image) [
  | true ↦ (header : GnuHeader) → gnu_header r.image.form (memory_of s.content) ≡ Some header
      → IsGnuTable r.image.form (sizes_in header) (hashed_names (final r.read r.image).dynamic_symbols) bytes
  | _ ↦ bytes ≡ s.content
]

-- ## All of them

-- the bytes of the section that was read at a number
abbrev pub content_at_number : Image → List (List ℕ) → ℕ → List ℕ
content_at_number image contents number = unwrap_or (kept_at_number number image >>= λ s. slice_get contents s.position) []

-- What the bytes of a section show that is of a kind. The list of entries and its numbers are handed in, and the bytes of the string
-- table that the section links to.
abbrev pub IsContentOfKind : Resized → Plan → List EntryNumbers → List ℕ → KeptSection → List ℕ → SectionData → Type 0
IsContentOfKind r plan raw strings s bytes kind = elim kind [
  | kinds.Dynamic ↦ AreEntriesOf r plan strings (list_at (λ es. es) (final r.read r.image).entries) raw × (bytes ≡ spelled_list r.image.form raw (length bytes))
  | kinds.Strings ↦ IsStringTableOf r.read r.image s bytes
  | kinds.Symbols ↦ AreStaticSymbolsIn r s strings bytes
  | kinds.DynamicSymbols ↦ AreSymbolsOf strings (final r.read r.image).dynamic_symbols (symbols_in r.image.form bytes)
  | kinds.GnuVerdef ↦ AreDefinitionsIn r.image strings bytes
  | kinds.GnuVerneed ↦ AreNeedsIn r strings bytes
  | kinds.GnuVersym ↦ AreVersionsIn r s.section bytes
  | kinds.Relocation ↦ AreRelocationsOf r s.section bytes
  | kinds.Hash ↦ IsGabiContent r s.section bytes
  | kinds.GnuHash ↦ IsGnuContent r s.section bytes
  | _ ↦ bytes ≡ s.section.content
]

abbrev pub IsContentByKind : Resized → Plan → List EntryNumbers → List ℕ → KeptSection → List ℕ → Type 0
IsContentByKind r plan raw strings s bytes = IsContentOfKind r plan raw strings s bytes s.section.kind

-- The interpreter's section has its name, which is as it was read where no program header names it any more.
abbrev pub IsContent : Resized → Plan → List EntryNumbers → List ℕ → KeptSection → List ℕ → Type 0
IsContent r plan raw strings s bytes = elim (is_interpreter r.read s) [
  | true ↦ bytes ≡ unwrap_or r.image.interpreter s.section.content
  | _ ↦ IsContentByKind r plan raw strings s bytes
]
