-- What the steps towards the new sizes hand to each other.
use Rattle.std.specs.Prelude.{ℕ, ◌*◌, ◌^◌, [], ◌∷◌, List, length, Bool, true, ◌&&◌, ◌||◌, not, Some, None, nat_le, nat_lt, ◌==◌, if◌then◌else◌}
use Rattle.patch_bytes.specs.declared.number.Wide.{Wide}
use Rattle.patch_bytes.specs.Memory.{memory_of}
use Rattle.elf_format.specs.declared.constants.TheConstants.{SHT_DYNAMIC, SHT_DYNSYM, SHT_GNU_HASH, SHT_GNU_VERDEF, SHT_GNU_VERNEED, SHT_GNU_VERSYM, SHT_HASH, SHT_STRTAB, SHT_SYMTAB}
use Rattle.elf_format.specs.Image.{Image, ImageSection}
use Rattle.elf_format.specs.declared.form.Form.{Form}
use Rattle.elf_format.specs.Form.{by_class}
use Rattle.elf_format.specs.Hashes.{gnu_header}
use Rattle.elf_format.specs.Options.{is_some_and}
use Rattle.elf_format.specs.Records.{symbol_size}
use Rattle.elf_format.specs.Views.{NamedSymbol}
use Rattle.elf_layout_plan.specs.Strings.{table_length}
use Rattle.elf_image.specs.Kept.{interpreter_number, link_of_type}
use Rattle.elf_layout_plan.specs.Sizes.{definitions_size, dynamic_size, gnu_table_size, hash_size, interpreter_size, needs_size}
use Rattle.elf_layout_plan.specs.Texts.{is_table_copied, texts_in_use}
use Rattle.elf_layout_plan.specs.Needs.{written_needs}

-- An edited image, and the one that was read from the same bytes.
pub record Edit : Type 0 where
  pub read : Image
  pub image : Image

-- ## String tables

-- the one section of a type links to the string table with that number
abbrev pub is_linked : Image → ℕ → ℕ → Bool
is_linked image type number = is_some_and (λ link. link == number) (link_of_type type image)

-- ## Sizes, by a section's number at read and the section alone

-- a number fits a field of a class (gABI, Data Representation)
abbrev pub fits_class : Wide → ℕ → Bool
fits_class wide number = nat_lt number (by_class wide (2 ^ 32) (2 ^ 64))

-- a GNU hash table of these symbols; as it was where its four numbers aren't there
abbrev pub gnu_size_with : Form → List ℕ → ℕ → List NamedSymbol → ℕ
gnu_size_with form content old symbols = elim (gnu_header form (memory_of content)) [ Some header ↦ gnu_table_size form header symbols | None ↦ old ]

-- a string table: as it was where it is copied
abbrev pub strings_length : Image → Image → ℕ → ℕ → ℕ
strings_length read image number old = if is_table_copied read image number then old else table_length (texts_in_use read image number)

-- a section that is no string table
abbrev pub lists_size : Image → Image → ImageSection → ℕ
lists_size read image s =
    if s.sh_type == SHT_DYNAMIC then dynamic_size read image s
    else if s.sh_type == SHT_SYMTAB then length image.symbols * symbol_size image.form
    else if s.sh_type == SHT_DYNSYM then length image.dynamic_symbols * symbol_size image.form
    else if s.sh_type == SHT_GNU_VERSYM then 2 * length image.dynamic_symbols
    else if s.sh_type == SHT_GNU_VERDEF then definitions_size image.definitions
    else if s.sh_type == SHT_GNU_VERNEED then needs_size (written_needs read image)
    else if s.sh_type == SHT_HASH then hash_size read image s
    else if s.sh_type == SHT_GNU_HASH then hash_size read image s
    else s.sh_size

-- any section
abbrev pub size_by : Image → Image → ℕ → ImageSection → ℕ
size_by read image number s =
    if is_some_and (λ n. n == number) (interpreter_number read) then interpreter_size image s
    else if s.sh_type == SHT_STRTAB then strings_length read image number s.sh_size
    else lists_size read image s

-- the offset of each text of a table that is made anew fits 32 bits
abbrev pub do_strings_fit : Image → Image → ℕ → ImageSection → Bool
do_strings_fit read image number s =
    not (s.sh_type == SHT_STRTAB) || is_table_copied read image number || nat_le (strings_length read image number s.sh_size) (2 ^ 32)

-- the size fits the field for it, and so do the offsets of texts
abbrev pub does_size_fit : Image → Image → ℕ → ImageSection → Bool
does_size_fit read image number s = fits_class image.form.wide (size_by read image number s) && do_strings_fit read image number s

-- sections, each with its number at read
unfoldable pub sizes_by : Image → Image → List ℕ → List ImageSection → List ℕ
sizes_by read image [] sections = []
sizes_by read image (n ∷ ns) [] = []
sizes_by read image (n ∷ ns) (s ∷ ss) = size_by read image n s ∷ sizes_by read image ns ss

unfoldable pub do_all_fit : Image → Image → List ℕ → List ImageSection → Bool
do_all_fit read image [] sections = true
do_all_fit read image (n ∷ ns) [] = true
do_all_fit read image (n ∷ ns) (s ∷ ss) = does_size_fit read image n s && do_all_fit read image ns ss
