-- The texts that an image uses of each of its string tables, and whether a table can be copied with its offsets (gABI, String
-- Table).
use Rattle.std.specs.Prelude.{ℕ, List, [], ◌∷◌, ◌++◌, map, Bool, true, false, ◌==◌, if◌then◌else◌}
use Rattle.std.specs.List.{flat_map}
use Rattle.std.specs.Str.{bytes_eq}
use Rattle.elf_format.specs.declared.constants.TheConstants.{SHT_DYNAMIC, SHT_DYNSYM, SHT_GNU_VERDEF, SHT_GNU_VERNEED, SHT_SYMTAB}
use Rattle.elf_format.specs.Dynamic.{Auto, Entry, Integer, Text}
use Rattle.elf_format.specs.Image.{Image}
use Rattle.elf_format.specs.Options.{is_some_and, list_at}
use Rattle.elf_format.specs.Versions.{VersionDefinition, VersionNeeds}
use Rattle.elf_tables.specs.Kept.{link_of_type}
pub use Rattle.elf_tables.specs.Names.{are_names_changed, are_same_texts, texts_of_symbols}
use Rattle.elf_layout_plan.specs.Needs.{written_entries, written_needs}

abbrev pub texts_of_entry : Entry → List (List ℕ)
texts_of_entry (Auto tag) = []
texts_of_entry (Integer tag value) = []
texts_of_entry (Text tag text) = text ∷ []

abbrev pub texts_of_entries : List Entry → List (List ℕ)
texts_of_entries entries = flat_map texts_of_entry entries

abbrev pub texts_of_definitions : List VersionDefinition → List (List ℕ)
texts_of_definitions definitions = flat_map (λ d. d.names) definitions

abbrev pub texts_of_needs : List VersionNeeds → List (List ℕ)
texts_of_needs needs = flat_map (λ n. n.file ∷ map (λ v. v.name) n.versions) needs

-- the texts of the one section of a type, where it links to the string table with that number
abbrev pub if_linked : Image → ℕ → ℕ → List (List ℕ) → List (List ℕ)
if_linked image type number texts = if is_some_and (λ link. link == number) (link_of_type type image) then texts else []

-- the texts of section names, where they stand in that table (gABI, ELF Header, e_shstrndx)
abbrev pub if_names : Image → ℕ → List (List ℕ)
if_names image number = if image.header.e_shstrndx == number then map (λ s. s.name) image.sections else []

-- The texts that an image uses of the string table with that number, user by user: the dynamic list, the dynamic symbols, the
-- defined and the needed versions, the symbols for a link editor, the sections. A text that two use stands there twice.
unfoldable pub texts_in_use : Image → Image → ℕ → List (List ℕ)
texts_in_use read image number =
    if_linked image SHT_DYNAMIC number (list_at texts_of_entries (written_entries read image))
    ++ if_linked image SHT_DYNSYM number (texts_of_symbols image.dynamic_symbols)
    ++ if_linked image SHT_GNU_VERDEF number (texts_of_definitions image.definitions)
    ++ if_linked image SHT_GNU_VERNEED number (texts_of_needs (written_needs read image))
    ++ if_linked image SHT_SYMTAB number (texts_of_symbols image.symbols)
    ++ if_names image number

-- the first list is the second with some texts left out
unfoldable pub is_subsequence : List (List ℕ) → List (List ℕ) → Bool
is_subsequence [] all = true
is_subsequence (t ∷ ts) [] = false
is_subsequence (t ∷ ts) (u ∷ us) = elim (bytes_eq t u) [ true ↦ is_subsequence ts us | _ ↦ is_subsequence (t ∷ ts) us ]

-- A string table is copied where no text was added to those that were used at read, and none changed: perhaps some went.
abbrev pub is_table_copied : Image → Image → ℕ → Bool
is_table_copied read image number = is_subsequence (texts_in_use read image number) (texts_in_use read read number)
