-- Where the texts of the dynamic list, the names of symbols and the names of sections stand in a string table.
use Rattle.std.specs.Prelude.{ℕ, ◌≡◌, List, [], ◌∷◌, length, map, Bool, true, Some, IsSome, Contains, false, unwrap_or}
use Rattle.std.specs.List.{slice_get}
use Rattle.std.specs.Str.{bytes_eq}
use Rattle.patch_bytes.specs.Memory.{◌>>=◌, memory_of}
use Rattle.elf_format.specs.declared.records.EntryNumbers.{EntryNumbers}
use Rattle.elf_format.specs.declared.records.SectionHeader.{SectionHeader}
use Rattle.elf_format.specs.declared.records.SymbolNumbers.{SymbolNumbers}
use Rattle.elf_format.specs.Dynamic.{Auto, Entry, Integer, Text, entries_at}
use Rattle.elf_format.specs.Image.{Image, ImageSection}
use Rattle.elf_format.specs.Views.{NamedSymbol}
use Rattle.elf_image.specs.Edited.{IsEdited}
use Rattle.elf_image.specs.Kept.{KeptSection, image_at_read, kept_of_type}
use Rattle.elf_tables.specs.Strings.{StandsAt, Strings, place_of}
use Rattle.elf_write_spec.specs.Headers.{Reads}
use Rattle.elf_write_strings.specs.VersionPlaces.{Tells}

-- ## The image that was read

-- an image as its source was read
pub record IsUnedited (read : Image) : Type 0 where
  pub at_read : read ≡ image_at_read read
  pub edited : IsEdited read

-- the bytes are those of the first section of a type, which has its texts in the string table with that number
pub record IsContentOfUser (image : Image) (type number : ℕ) (bytes : List ℕ) : Type 0 where
  pub section : KeptSection
  pub there : kept_of_type type image ≡ Some section
  pub link : section.section.sh_link ≡ number
  pub content : bytes ≡ section.section.content

-- ## Texts

-- each text stands in the strings at its place
abbrev pub TextsStand : List ℕ → List (List ℕ) → List ℕ → Type 0
TextsStand strings [] [] = Unit {0}
TextsStand strings [] (p ∷ ps) = ⊥
TextsStand strings (t ∷ ts) [] = ⊥
TextsStand strings (t ∷ ts) (p ∷ ps) = Reads strings p t × TextsStand strings ts ps

-- the table tells where each of these texts stands
abbrev pub TellsAll : Strings → List (List ℕ) → Type 0
TellsAll table texts = (text : List ℕ) → Contains texts text → IsSome (place_of table text)

-- ## The dynamic list

-- the entry has that text
abbrev pub has_text : List ℕ → Entry → Bool
has_text text (Auto tag) = false
has_text text (Integer tag value) = false
has_text text (Text tag own) = bytes_eq text own

-- Where texts stand, each of them where the next entry with that text says.
abbrev pub places_among : List (List ℕ) → List Entry → List EntryNumbers → List ℕ
places_among [] entries numbers = []
places_among (t ∷ ts) [] numbers = []
places_among (t ∷ ts) (e ∷ es) [] = []
places_among (t ∷ ts) (e ∷ es) (x ∷ xs) =
    elim (has_text t e) [ true ↦ x.d_value ∷ places_among ts es xs | _ ↦ places_among (t ∷ ts) es xs ]

-- the numbers of the entries of a dynamic section's bytes, none without a DT_NULL
abbrev pub numbers_in : Image → List ℕ → List EntryNumbers
numbers_in read bytes = unwrap_or (entries_at (length read.source) read.form (memory_of bytes) 0) []

-- the bytes of the section at a position
abbrev pub content_at : Image → ℕ → List ℕ
content_at image position = unwrap_or (slice_get image.sections position >>= λ s. Some s.content) []

-- the number that the section at a position links to
abbrev pub link_at : Image → ℕ → ℕ
link_at image position = unwrap_or (slice_get image.sections position >>= λ s. Some s.sh_link) 0

-- the text of an entry, where it has one, stands at a place
abbrev pub EntryStands : List ℕ → Entry → ℕ → Type 0
EntryStands strings (Auto tag) place = Unit {0}
EntryStands strings (Integer tag number) place = Unit {0}
EntryStands strings (Text tag text) place = StandsAt strings place text

-- the text of each entry stands at a place, which the entry's numbers tell
abbrev pub EntriesStand : List ℕ → List Entry → List EntryNumbers → Type 0
EntriesStand strings [] xs = Unit {0}
EntriesStand strings (e ∷ es) [] = ⊥
EntriesStand strings (e ∷ es) (x ∷ xs) = EntryStands strings e x.d_value × EntriesStand strings es xs

-- the table tells where the text of an entry stands
abbrev pub TellsEntry : Strings → Entry → Type 0
TellsEntry table (Auto tag) = Unit {0}
TellsEntry table (Integer tag number) = Unit {0}
TellsEntry table (Text tag text) = Tells table text

-- ## Symbols and sections

-- each symbol's name stands where its record tells
pub record AreSymbolsAt (strings : List ℕ) (symbols : List NamedSymbol) (records : List SymbolNumbers) : Type 0 where
  pub count : length records ≡ length symbols
  pub each : (i : ℕ) (y : NamedSymbol) (n : SymbolNumbers) → slice_get symbols i ≡ Some y → slice_get records i ≡ Some n
      → StandsAt strings n.st_name y.name

-- each section's name stands where its header tells
pub record AreSectionsAt (strings : List ℕ) (sections : List ImageSection) (headers : List SectionHeader) : Type 0 where
  pub count : length headers ≡ length sections
  pub each : (i : ℕ) (s : ImageSection) (h : SectionHeader) → slice_get sections i ≡ Some s → slice_get headers i ≡ Some h
      → StandsAt strings h.sh_name s.name

abbrev pub names_of_sections : List ImageSection → List (List ℕ)
names_of_sections sections = map (λ s. s.name) sections
