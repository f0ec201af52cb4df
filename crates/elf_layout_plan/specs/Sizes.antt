-- How large each section is to be.
use Rattle.std.specs.Prelude.{ℕ, ◌+◌, ◌*◌, ◌^◌, max, List, length, map, drop, count_by, sum_by, Bool, ◌&&◌, ◌||◌, not, Some, None, nat_le, nat_lt, ◌==◌, if◌then◌else◌, unwrap_or}
use Rattle.std.specs.List.{list_all}
use Rattle.patch_bytes.specs.Number.{word_size}
use Rattle.patch_bytes.specs.Memory.{memory_of}
use Rattle.elf_format.specs.declared.constants.TheConstants.{SHT_DYNAMIC, SHT_DYNSYM, SHT_GNU_HASH, SHT_GNU_VERDEF, SHT_GNU_VERNEED, SHT_GNU_VERSYM, SHT_HASH, SHT_STRTAB, SHT_SYMTAB}
use Rattle.elf_format.specs.declared.form.Form.{Form}
use Rattle.elf_format.specs.Form.{by_class}
use Rattle.elf_format.specs.Hashes.{GnuHeader, gnu_header, word_of_table}
use Rattle.elf_format.specs.Image.{Image, ImageSection}
use Rattle.elf_format.specs.Options.{list_at}
use Rattle.elf_format.specs.Records.{entry_size, symbol_size}
use Rattle.elf_format.specs.Versions.{VersionDefinition, VersionNeeds}
use Rattle.elf_format.specs.Views.{NamedSymbol}
use Rattle.elf_tables.specs.Strings.{table_length}
pub use Rattle.elf_tables.specs.FoundSymbols.{is_found}
use Rattle.elf_tables.specs.Kept.{KeptSection, interpreter_number, is_numbered, kept_sections}
use Rattle.elf_layout_plan.specs.Needs.{written_entries, written_needs}
use Rattle.elf_layout_plan.specs.Texts.{are_names_changed, is_table_copied, texts_in_use}

-- a section of the interpreter's name has that name's bytes
abbrev pub interpreter_size : Image → ImageSection → ℕ
interpreter_size image s = elim image.interpreter [ Some bytes ↦ length bytes | None ↦ s.sh_size ]

-- the dynamic section holds the list with one DT_NULL, and is no smaller than it was (gABI, Dynamic Section)
abbrev pub dynamic_size : Image → Image → ImageSection → ℕ
dynamic_size read image s = max s.sh_size ((length (list_at (λ es. es) (written_entries read image)) + 1) * entry_size image.form)

-- a string table is as it was where it is copied, else as short as its texts allow
abbrev pub strings_size : Image → Image → KeptSection → ℕ
strings_size read image s =
    if is_table_copied read image s.number then s.section.sh_size else table_length (texts_in_use read image s.number)

-- version records stand end to end, each with its names behind it (GNU symbol versioning)
abbrev pub definitions_size : List VersionDefinition → ℕ
definitions_size definitions = sum_by (λ d. 20 + 8 * length d.names) definitions

abbrev pub needs_size : List VersionNeeds → ℕ
needs_size needs = sum_by (λ n. 16 + 16 * length n.versions) needs

-- a gABI hash table has its two numbers, as many buckets as it had, and an entry for each symbol (gABI, Hash Table)
abbrev pub gabi_table_size : Form → List ℕ → ℕ → ℕ
gabi_table_size form content symbols = 4 * (2 + unwrap_or (word_of_table form (memory_of content) 0) 0 + symbols)

-- a GNU hash table has its four numbers, a filter and buckets as it had them, and a word for each symbol that can be found,
-- the first symbol never being one
abbrev pub gnu_table_size : Form → GnuHeader → List NamedSymbol → ℕ
gnu_table_size form header symbols =
    16 + header.filter_words * word_size form.wide + 4 * header.buckets + 4 * count_by is_found (drop 1 symbols)

abbrev pub gnu_size : Image → ImageSection → ℕ
gnu_size image s = elim (gnu_header image.form (memory_of s.content)) [ Some header ↦ gnu_table_size image.form header image.dynamic_symbols | None ↦ s.sh_size ]

-- hash tables are copied where the names are those that were read
abbrev pub hash_size : Image → Image → ImageSection → ℕ
hash_size read image s =
    if not (are_names_changed read image) then s.sh_size
    else if s.sh_type == SHT_HASH then gabi_table_size image.form s.content (length image.dynamic_symbols)
    else gnu_size image s

-- a table that is made of the image's lists; any other section keeps its size
abbrev pub table_size : Image → Image → KeptSection → ℕ
table_size read image s =
    let type = s.section.sh_type in
    if type == SHT_DYNAMIC then dynamic_size read image s.section
    else if type == SHT_STRTAB then strings_size read image s
    else if type == SHT_SYMTAB then length image.symbols * symbol_size image.form
    else if type == SHT_DYNSYM then length image.dynamic_symbols * symbol_size image.form
    else if type == SHT_GNU_VERSYM then 2 * length image.dynamic_symbols
    else if type == SHT_GNU_VERDEF then definitions_size image.definitions
    else if type == SHT_GNU_VERNEED then needs_size (written_needs read image)
    else if type == SHT_HASH then hash_size read image s.section
    else if type == SHT_GNU_HASH then hash_size read image s.section
    else s.section.sh_size

-- The new size of a section.
unfoldable pub new_size : Image → Image → KeptSection → ℕ
new_size read image s = if is_numbered (interpreter_number read) s then interpreter_size image s.section else table_size read image s

-- The new size of each section.
unfoldable pub new_sizes : Image → Image → List ℕ
new_sizes read image = map (new_size read image) (kept_sections image)

-- how many numbers a field for addresses, offsets and sizes holds (gABI, Data Representation)
abbrev pub field_range : Form → ℕ
field_range form = by_class form.wide (2 ^ 32) (2 ^ 64)

-- a number fits such a field
abbrev pub fits_field : Form → ℕ → Bool
fits_field form number = nat_lt number (field_range form)

-- the offset of each text of a table that is made anew fits 32 bits (gABI, String Table)
abbrev pub do_texts_fit : Image → Image → KeptSection → Bool
do_texts_fit read image s =
    not (s.section.sh_type == SHT_STRTAB) || is_table_copied read image s.number || nat_le (table_size read image s) (2 ^ 32)

-- Each new size fits the field for it, and so do the offsets of texts.
abbrev pub do_sizes_fit : Image → Image → Bool
do_sizes_fit read image =
    list_all (fits_field image.form) (new_sizes read image) && list_all (do_texts_fit read image) (kept_sections image)
