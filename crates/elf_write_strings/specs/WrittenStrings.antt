-- Where texts stand in the string tables of a written file (gABI, String Table).
use Rattle.std.specs.Prelude.{ℕ, ◌≡◌, ◌≤◌, ◌^◌, List, [], ◌∷◌, ◌++◌, length, map, Contains, Bool, true, false, ◌&&◌, ◌||◌, not, Option, Some, None, IsSome, find, nat_le, ◌==◌, ◌⊎◌, unwrap_or}
use Rattle.std.specs.List.{list_all, slice_get}
use Rattle.std.specs.Option.{option_to_list}
use Rattle.std.specs.Str.{bytes_eq}
use Rattle.patch_bytes.specs.Memory.{◌>>=◌}
use Rattle.elf_format.specs.declared.constants.TheConstants.{SHT_DYNAMIC, SHT_DYNSYM, SHT_GNU_VERNEED, SHT_SYMTAB}
use Rattle.elf_format.specs.Image.{Image}
use Rattle.elf_format.specs.Options.{is_some_and, list_at}
use Rattle.elf_format.specs.Versions.{VersionNeeds}
use Rattle.elf_tables.specs.Strings.{PlacesStand, place_of}
use Rattle.elf_image.specs.Kept.{dynamic_strings_number, kept_at_number, link_of_type}
use Rattle.elf_image.specs.Names.{are_names_changed, are_same_texts, texts_of_symbols}
use Rattle.elf_layout_plan.specs.Needs.{written_entries}
use Rattle.elf_layout_plan.specs.Texts.{is_subsequence, is_table_copied, texts_in_use, texts_of_entries}
use Rattle.elf_layout_sizes.specs.MadeTables.{IsMade}
use Rattle.elf_write_strings.specs.declared.made.Made.{Made}
use Rattle.elf_write_strings.specs.PlacedTexts.{names_of_sections}

-- the bytes that a section had at read
abbrev pub content_read : Image → ℕ → List ℕ
content_read image number = unwrap_or (kept_at_number number image >>= λ s. Some s.section.content) []

-- ## Whether texts move

-- the one section of a type has its texts in the string table that had a number
abbrev pub has_texts_in : Image → ℕ → ℕ → Bool
has_texts_in image type number = is_some_and (λ link. link == number) (link_of_type type image)

-- the names of sections stand in that table (gABI, ELF Header, e_shstrndx)
abbrev pub has_names_in : Image → ℕ → Bool
has_names_in image number = image.header.e_shstrndx == number

-- the dynamic list that is written has texts that it had at read, in their order
abbrev pub is_list_left : Image → Image → Bool
is_list_left read image = is_subsequence (list_at texts_of_entries (written_entries read image)) (list_at texts_of_entries read.entries)

-- each text that is there is the one that was read at its number
abbrev pub are_texts_left : List (List ℕ) → List ℕ → List (List ℕ) → Bool
are_texts_left read [] now = true
are_texts_left read (n ∷ ns) [] = true
are_texts_left read (n ∷ ns) (t ∷ ts) = is_some_and (bytes_eq t) (slice_get read n) && are_texts_left read ns ts

-- each static symbol that is there has the name that it had at read
abbrev pub are_static_names_left : Image → Image → Bool
are_static_names_left read image =
    are_texts_left (texts_of_symbols read.symbols) image.symbol_numbers (texts_of_symbols image.symbols)

-- each section has the name that it had at read
abbrev pub are_section_names_left : Image → Image → Bool
are_section_names_left read image =
    are_texts_left (names_of_sections read.sections) image.section_numbers (names_of_sections image.sections)

-- the libraries of which versions are needed, in their order
abbrev pub files_of : List VersionNeeds → List (List ℕ)
files_of needs = map (λ n. n.file) needs

-- the libraries of which versions are needed have the names that they had at read
abbrev pub are_files_left : Image → Image → Bool
are_files_left read image = are_same_texts (files_of read.needs) (files_of image.needs)

-- Symbols, libraries of needed versions or sections of which the names stand in the string table that had a number don't have
-- those that they had at read.
abbrev pub do_names_move : Image → Image → ℕ → Bool
do_names_move read image number =
    (has_texts_in image SHT_DYNSYM number && are_names_changed read image)
    || (has_texts_in image SHT_SYMTAB number && not (are_static_names_left read image))
    || (has_texts_in image SHT_GNU_VERNEED number && not (are_files_left read image))
    || (has_names_in image number && not (are_section_names_left read image))

-- A user of the table doesn't have the texts that it had at read: so in a table that is copied they may stand where other users had
-- theirs. The names of versions are those that they had.
unfoldable pub do_texts_move : Image → Image → ℕ → Bool
do_texts_move read image number =
    do_names_move read image number || (has_texts_in image SHT_DYNAMIC number && not (is_list_left read image))

-- ## Whether offsets reach

-- the string tables of which texts may change: the dynamic strings, the names of static symbols, the names of sections
abbrev pub edited_tables : Image → List ℕ
edited_tables image =
    option_to_list (dynamic_strings_number image) ++ option_to_list (link_of_type SHT_SYMTAB image) ++ image.header.e_shstrndx ∷ []

-- one of the string tables of which texts may change
abbrev pub IsEditedTable : Image → ℕ → Type 0
IsEditedTable image number =
    (dynamic_strings_number image ≡ Some number) ⊎ ((link_of_type SHT_SYMTAB image ≡ Some number) ⊎ (image.header.e_shstrndx ≡ number))

-- where texts move in a table that is copied, 32 bits reach all of it
abbrev pub do_offsets_reach : Image → Image → ℕ → Bool
do_offsets_reach read image number =
    not (do_texts_move read image number) || not (is_table_copied read image number) || nat_le (length (content_read image number)) (2 ^ 32)

unfoldable pub do_names_reach : Image → Image → Bool
do_names_reach read image = list_all (do_offsets_reach read image) (edited_tables image)

-- ## Tables that are told anew

-- A string table as it is written: the bytes that were read, where these are copied, else a table that is made anew. It tells where each
-- text stands that the image uses of it.
pub record IsTold (read image : Image) (m : Made) : Type 0 where
  pub edited : IsEditedTable image m.number
  pub which : m.is_copied ≡ is_table_copied read image m.number
  pub copied : is_table_copied read image m.number ≡ true → m.table.bytes ≡ content_read image m.number
  pub anew : is_table_copied read image m.number ≡ false → IsMade read image m.number m.table
  pub told : (text : List ℕ) → Contains (texts_in_use read image m.number) text → IsSome (place_of m.table text)
  pub stand : PlacesStand m.table
  pub short : length m.table.bytes ≤ 2 ^ 32

-- a string table is copied, and each of its users has the texts that it had at read
pub record AreAsRead (read image : Image) (number : ℕ) : Type 0 where
  pub copied : is_table_copied read image number ≡ true
  pub stay : do_texts_move read image number ≡ false

-- ## All string tables

-- the table that had a number, where it is told anew
abbrev pub made_of : List Made → ℕ → Option Made
made_of made number = find (λ m. m.number == number) made

-- The string tables that are told anew. Each other one is copied: one of which texts may change, with the places of its texts.
pub record AreStrings (read image : Image) (made : List Made) : Type 0 where
  pub told : (number : ℕ) (m : Made) → made_of made number ≡ Some m → IsTold read image m
  pub as_read : (number : ℕ) → IsEditedTable image number → made_of made number ≡ None → AreAsRead read image number

-- the bytes of the string table that had a number, once it is written
abbrev pub strings_at : Image → List Made → ℕ → List ℕ
strings_at image made number = elim (made_of made number) [ Some m ↦ m.table.bytes | None ↦ content_read image number ]
