-- Whether the symbols of a table can be put in another order, or some of them can go: what names symbols by their numbers has to be
-- made anew, and what is kept as it is can't be.
use Rattle.std.specs.Prelude.{ℕ, ◌+◌, ◌*◌, List, length, Bool, true, false, ◌&&◌, not, Option, ◌==◌, nat_le}
use Rattle.std.specs.Int.{is_power_of_two}
use Rattle.std.specs.List.{list_any}
use Rattle.patch_bytes.specs.Memory.{memory_of}
use Rattle.patch_bytes.specs.Number.{word_size}
use Rattle.elf_format.specs.declared.constants.TheConstants.{SHT_DYNSYM, SHT_GNU_HASH, SHT_HASH, SHT_NULL}
use Rattle.elf_format.specs.declared.form.Form.{Form}
use Rattle.elf_format.specs.declared.section_data.SectionData.{SectionData}
use Rattle.elf_format.specs.declared.section_data.SectionData.TheVariants as kinds
use Rattle.elf_format.specs.Hashes.{GnuHeader, gnu_header, word_of_table}
use Rattle.elf_format.specs.Image.{Image, ImageSection}
use Rattle.elf_format.specs.Options.{is_none_or, is_some_and}
use Rattle.elf_image.specs.Kept.{KeptSection, kept_of_type, kept_sections}
use Rattle.elf_image.specs.Staying.{table_number}

-- ## Hash tables

-- there is a bucket, and so many bytes hold the two numbers, the buckets and the chains (gABI, Hash Table)
abbrev pub is_gabi_front : ℕ → ℕ → ℕ → Bool
is_gabi_front size buckets chains = not (buckets == 0) && nat_le (4 * (2 + buckets + chains)) size

-- a gABI hash table can be made anew: its entries have 4 bytes, not 8, and its front is whole
abbrev pub can_make_gabi : Form → ImageSection → Bool
can_make_gabi form s =
    let table = memory_of s.content in
    not (s.sh_entsize == 8)
    && is_some_and (λ buckets. is_some_and (is_gabi_front (length s.content) buckets) (word_of_table form table 1)) (word_of_table form table 0)

-- there is a bucket, the words of the filter are a power of two, the shift leaves a bit of a hash, and so many bytes hold the four
-- numbers, the filter and the buckets (GNU hash section)
abbrev pub is_gnu_front : Form → ℕ → GnuHeader → Bool
is_gnu_front form size h =
    not (h.buckets == 0) && is_power_of_two h.filter_words && nat_le h.filter_shift 31
    && nat_le (16 + h.filter_words * word_size form.wide + 4 * h.buckets) size

-- a GNU hash table can be made anew
abbrev pub can_make_gnu : Form → ImageSection → Bool
can_make_gnu form s = is_some_and (is_gnu_front form (length s.content)) (gnu_header form (memory_of s.content))

-- ## Sections that are kept as they are

abbrev pub is_opaque : SectionData → Bool
is_opaque kinds.Opaque = true
is_opaque kinds.Uninitialized = false
is_opaque kinds.Dynamic = false
is_opaque kinds.Relocation = false
is_opaque kinds.Note = false
is_opaque kinds.Strings = false
is_opaque kinds.Symbols = false
is_opaque kinds.DynamicSymbols = false
is_opaque kinds.Hash = false
is_opaque kinds.GnuHash = false
is_opaque kinds.GnuVersym = false
is_opaque kinds.GnuVerdef = false
is_opaque kinds.GnuVerneed = false

-- the section is kept as it is and links to the one with that number; one of type SHT_NULL has no link (gABI, Sections)
abbrev pub is_opaque_user : Option ℕ → ImageSection → Bool
is_opaque_user table s = is_opaque s.kind && not (s.sh_type == SHT_NULL) && is_some_and (λ n. n == s.sh_link) table

-- one of some sections is kept as it is and links to the one with that number
abbrev pub has_opaque_user : Option ℕ → List KeptSection → Bool
has_opaque_user table sections = list_any (λ s. is_opaque_user table s.section) sections

-- ## Both

-- each hash table that is there can be made anew, and no section that is kept as it is links to the dynamic symbols
abbrev pub can_renumber : Image → Bool
can_renumber image =
    is_none_or (λ s. can_make_gabi image.form s.section) (kept_of_type SHT_HASH image)
    && is_none_or (λ s. can_make_gnu image.form s.section) (kept_of_type SHT_GNU_HASH image)
    && not (has_opaque_user (table_number SHT_DYNSYM image) (kept_sections image))
