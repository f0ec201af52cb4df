-- Small images and tables, worked out by hand.
use Rattle.std.specs.Prelude.{ℕ, ◌≡◌, List, [], ◌∷◌, ◌++◌, length, true, false, Some, None}
use Rattle.patch_bytes.specs.declared.number.ByteOrder2.TheVariants.{Big, Little}
use Rattle.patch_bytes.specs.declared.number.Wide.TheVariants.{W32, W64}
use Rattle.elf_format.specs.declared.constants.TheConstants.{PT_DYNAMIC, PT_INTERP, PT_LOAD, PT_TLS, SHF_ALLOC, SHF_INFO_LINK, SHT_DYNSYM, SHT_GNU_HASH, SHT_GNU_VERSYM, SHT_HASH, SHT_NULL, SHT_PROGBITS, SHT_REL, SHT_RELA, SHT_STRTAB, SHT_SYMTAB}
use Rattle.elf_format.specs.declared.form.Form.{Form}
use Rattle.elf_format.specs.declared.records.SegmentHeader.{SegmentHeader}
use Rattle.elf_format.specs.declared.section_data.SectionData.{SectionData}
use Rattle.elf_format.specs.declared.section_data.SectionData.TheVariants as kinds
use Rattle.elf_format.specs.Image.{Image, ImageSection}
use Rattle.elf_format.specs.Views.{NamedSymbol}
use Rattle.elf_image.specs.Kept.{kept_sections}
use Rattle.elf_image_uses.specs.Along.{is_deserted, symbols_along}
use Rattle.elf_image_uses.specs.Needed.{is_section_used}
use Rattle.elf_image_uses.specs.Relocated.{is_symbol_used}
use Rattle.elf_image_uses.specs.Renumbering.{can_make_gabi, can_make_gnu, can_renumber, has_opaque_user}
use Rattle.elf_image_uses.specs.Staying.{staying, table_number}

abbrev pub wide : Form
wide = record { wide = W64; order = Little }

abbrev pub narrow : Form
narrow = record { wide = W32; order = Big }

-- a section of a type that links to a section, with these bytes
abbrev pub section : ℕ → SectionData → ℕ → List ℕ → ImageSection
section type kind link content = record {
  name = [];
  kind = kind;
  sh_type = type;
  sh_flags = 0;
  sh_addr = 0;
  sh_offset = 0;
  sh_size = length content;
  sh_link = link;
  sh_info = 0;
  sh_addralign = 1;
  sh_entsize = 0;
  content = content;
}

-- sections and dynamic symbols, each at the number of its place
abbrev pub image_with : List ℕ → List ImageSection → List NamedSymbol → Image
image_with numbers sections symbols = record {
  source = [];
  changed = false;
  form = wide;
  header = record { os_abi = 0; abi_version = 0; e_type = 3; e_machine = 62; e_entry = 0; e_flags = 0; e_phoff = 64; e_shoff = 64; e_shstrndx = 5 };
  segments = [];
  sections = sections;
  symbols = symbols;
  dynamic_symbols = symbols;
  definitions = [];
  needs = [];
  entries = None;
  interpreter = None;
  section_numbers = numbers;
  symbol_numbers = 0 ∷ 1 ∷ 2 ∷ [];
  dynamic_symbol_numbers = 0 ∷ 1 ∷ 2 ∷ [];
  page_size = None;
  moves_dynamic = false;
}

-- ## Hash tables

abbrev pub low_word : ℕ → List ℕ
low_word n = n ∷ 0 ∷ 0 ∷ 0 ∷ []

abbrev pub long_word : ℕ → List ℕ
long_word n = low_word n ++ low_word 0

abbrev pub high_word : ℕ → List ℕ
high_word n = 0 ∷ 0 ∷ 0 ∷ n ∷ []

-- a gABI hash table of so many buckets and chains, and behind the two numbers so many words
abbrev pub gabi : ℕ → ℕ → List ℕ → ImageSection
gabi buckets chains behind = section SHT_HASH kinds.Hash 1 (low_word buckets ++ low_word chains ++ behind)

-- a gABI hash table with entries of 8 bytes, as files for Alpha and S/390 have it
abbrev pub gabi_long : ImageSection
gabi_long = record (section SHT_HASH kinds.Hash 1 (long_word 1 ++ long_word 2 ++ long_word 1 ++ long_word 0 ++ long_word 0)) { sh_entsize = 8 }

abbrev pub gnu_of : List ℕ → ImageSection
gnu_of content = section SHT_GNU_HASH kinds.GnuHash 1 content

-- a GNU hash table of so many buckets, words of the filter and bits of the shift, and so many bytes behind the four numbers
abbrev pub gnu : ℕ → ℕ → ℕ → List ℕ → ImageSection
gnu buckets filter_words filter_shift behind = gnu_of (low_word buckets ++ low_word 1 ++ low_word filter_words ++ low_word filter_shift ++ behind)

pub record HashRows : Type 0 where
  -- a bucket and two chains in 20 bytes, and in 19
  pub gabi_whole : can_make_gabi wide (gabi 1 2 (low_word 1 ++ low_word 0 ++ low_word 0)) ≡ true
  pub gabi_cut : can_make_gabi wide (gabi 1 2 (low_word 1 ++ low_word 0 ++ 0 ∷ 0 ∷ 0 ∷ [])) ≡ false
  pub gabi_without_chains : can_make_gabi wide (gabi 1 2 []) ≡ false
  pub gabi_without_buckets : can_make_gabi wide (gabi 0 2 (low_word 1 ++ low_word 0 ++ low_word 0)) ≡ false
  pub gabi_empty : can_make_gabi wide (section SHT_HASH kinds.Hash 1 []) ≡ false
  pub gabi_with_long_entries : can_make_gabi wide gabi_long ≡ false
  pub gabi_high_first : can_make_gabi narrow (section SHT_HASH kinds.Hash 1 (high_word 1 ++ high_word 1 ++ high_word 0 ++ high_word 0)) ≡ true
  -- a bucket and a word of the filter in 28 bytes, and in 27
  pub gnu_whole : can_make_gnu wide (gnu 1 1 6 (long_word 0 ++ low_word 1)) ≡ true
  pub gnu_cut : can_make_gnu wide (gnu 1 1 6 (long_word 0 ++ 1 ∷ 0 ∷ 0 ∷ [])) ≡ false
  -- in 32-bit files a word of the filter takes 4 bytes
  pub gnu_narrow : can_make_gnu narrow (gnu_of (high_word 1 ++ high_word 1 ++ high_word 1 ++ high_word 5 ++ high_word 0 ++ high_word 1)) ≡ true
  pub gnu_without_buckets : can_make_gnu wide (gnu 0 1 6 (long_word 0 ++ low_word 1)) ≡ false
  pub gnu_without_filter : can_make_gnu wide (gnu 1 0 6 (long_word 0 ++ low_word 1)) ≡ false
  pub gnu_of_three_words : can_make_gnu wide (gnu 1 3 6 (long_word 0 ++ long_word 0 ++ long_word 0 ++ low_word 1)) ≡ false
  pub gnu_of_two_words : can_make_gnu wide (gnu 1 2 6 (long_word 0 ++ long_word 0 ++ low_word 1)) ≡ true
  pub gnu_greatest_shift : can_make_gnu wide (gnu 1 1 31 (long_word 0 ++ low_word 1)) ≡ true
  pub gnu_past_shift : can_make_gnu wide (gnu 1 1 32 (long_word 0 ++ low_word 1)) ≡ false
  pub gnu_without_header : can_make_gnu wide (gnu_of (low_word 1 ++ low_word 1 ++ low_word 1)) ≡ false

-- ## Sections that are kept as they are

abbrev pub null : ImageSection
null = section SHT_NULL kinds.Opaque 0 []

-- a group of sections (gABI, Section Groups), which nothing here reads
abbrev pub group : ℕ → ImageSection
group link = section 17 kinds.Opaque link []

abbrev pub symbols : ImageSection
symbols = section SHT_DYNSYM kinds.DynamicSymbols 2 []

abbrev pub strings : ImageSection
strings = section SHT_STRTAB kinds.Strings 0 (0 ∷ [])

pub record UserRows : Type 0 where
  -- section 0 links to the dynamic symbols
  pub null_links : can_renumber (image_with (0 ∷ 1 ∷ 2 ∷ []) (section SHT_NULL kinds.Opaque 1 [] ∷ symbols ∷ strings ∷ []) []) ≡ true
  pub group_links : can_renumber (image_with (0 ∷ 1 ∷ 2 ∷ 3 ∷ []) (null ∷ symbols ∷ strings ∷ group 1 ∷ []) []) ≡ false
  pub group_links_elsewhere : can_renumber (image_with (0 ∷ 1 ∷ 2 ∷ 3 ∷ []) (null ∷ symbols ∷ strings ∷ group 2 ∷ []) []) ≡ true
  pub versions_link : can_renumber (image_with (0 ∷ 1 ∷ 2 ∷ 3 ∷ []) (null ∷ symbols ∷ strings ∷ section SHT_GNU_VERSYM kinds.GnuVersym 1 [] ∷ []) []) ≡ true
  -- no dynamic symbols
  pub nothing_links : can_renumber (image_with (0 ∷ 2 ∷ []) (null ∷ strings ∷ []) []) ≡ true
  -- a table that can't be made anew
  pub table_cut : can_renumber (image_with (0 ∷ 1 ∷ 2 ∷ 3 ∷ []) (null ∷ symbols ∷ strings ∷ gabi 1 2 [] ∷ []) []) ≡ false
  -- the group goes too
  pub group_goes : has_opaque_user (Some 1) (staying (3 ∷ []) (image_with (0 ∷ 1 ∷ 2 ∷ 3 ∷ []) (null ∷ symbols ∷ strings ∷ group 1 ∷ []) [])) ≡ false
  -- numbers are those of read: section 1 is gone
  pub by_number : table_number SHT_STRTAB (image_with (0 ∷ 2 ∷ []) (null ∷ strings ∷ []) []) ≡ Some 2

-- ## Relocations

-- a relocation that names a symbol
abbrev pub relocation : ℕ → List ℕ
relocation symbol = low_word 0 ++ low_word 0 ++ low_word 7 ++ low_word symbol

abbrev pub relocations : SectionData → List ℕ → ImageSection
relocations kind content = section SHT_REL kind 1 content

-- relocations against section 1, in section 3
abbrev pub relocated : ImageSection → Image
relocated s = image_with (0 ∷ 1 ∷ 2 ∷ 3 ∷ []) (null ∷ symbols ∷ strings ∷ s ∷ []) []

-- relocations that name the symbols 1 and 4
abbrev pub two_relocated : Image
two_relocated = relocated (relocations kinds.Relocation (relocation 1 ++ relocation 4))

pub record RelocationRows : Type 0 where
  pub named : is_symbol_used wide (Some 1) (2 ∷ 4 ∷ []) (kept_sections two_relocated) ≡ true
  pub not_named : is_symbol_used wide (Some 1) (2 ∷ 3 ∷ []) (kept_sections two_relocated) ≡ false
  pub of_another_table : is_symbol_used wide (Some 2) (2 ∷ 4 ∷ []) (kept_sections two_relocated) ≡ false
  pub of_no_table : is_symbol_used wide None (2 ∷ 4 ∷ []) (kept_sections two_relocated) ≡ false
  pub symbol_zero : is_symbol_used wide (Some 1) (0 ∷ []) (kept_sections (relocated (relocations kinds.Relocation (relocation 0)))) ≡ false
  -- relocations that are kept as they are
  pub opaque : is_symbol_used wide (Some 1) (2 ∷ 4 ∷ []) (kept_sections (relocated (relocations kinds.Opaque (relocation 4)))) ≡ false
  -- the section goes too
  pub gone : is_symbol_used wide (Some 1) (2 ∷ 4 ∷ []) (staying (3 ∷ []) (relocated (relocations kinds.Relocation (relocation 4)))) ≡ false

-- ## Sections that can't go

abbrev pub code : ImageSection
code = section SHT_PROGBITS kinds.Opaque 0 (0x90 ∷ [])

-- a symbol that is defined in a section
abbrev pub defined_in : ℕ → NamedSymbol
defined_in number = record { name = []; st_info = 0x12; st_other = 0; st_shndx = number; st_value = 0; st_size = 0; version = None }

-- a section whose sh_info is 3, with these flags
abbrev pub about_code : ℕ → ℕ → ImageSection
about_code type flags = record (section type kinds.Opaque 0 []) { sh_info = 3; sh_flags = flags }

-- dynamic symbols with their strings, code in section 3, something about it in section 4, and the names of sections
abbrev pub with_code : ImageSection → List NamedSymbol → Image
with_code s ys = image_with (0 ∷ 1 ∷ 2 ∷ 3 ∷ 4 ∷ 5 ∷ []) (null ∷ symbols ∷ strings ∷ code ∷ s ∷ strings ∷ []) ys

pub record SectionRows : Type 0 where
  pub free : is_section_used (with_code code []) (3 ∷ []) ≡ false
  -- sections by which a file is read
  pub first : is_section_used (with_code code []) (0 ∷ []) ≡ true
  pub symbols_last : is_section_used (with_code code []) (1 ∷ []) ≡ true
  pub strings_last : is_section_used (with_code code []) (2 ∷ []) ≡ true
  pub names_last : is_section_used (with_code code []) (5 ∷ []) ≡ true
  -- links, and an sh_info that is a section's number
  pub linked : is_section_used (with_code (group 3) []) (3 ∷ []) ≡ true
  pub both_go : is_section_used (with_code (group 3) []) (3 ∷ 4 ∷ []) ≡ false
  pub relocated_by : is_section_used (with_code (about_code SHT_RELA 0) []) (3 ∷ []) ≡ true
  pub marked : is_section_used (with_code (about_code SHT_PROGBITS SHF_INFO_LINK) []) (3 ∷ []) ≡ true
  pub unmarked : is_section_used (with_code (about_code SHT_PROGBITS 0) []) (3 ∷ []) ≡ false
  pub null_names : is_section_used (with_code (section SHT_NULL kinds.Opaque 3 []) []) (3 ∷ []) ≡ false
  -- a dynamic symbol, the first one too
  pub defined : is_section_used (with_code code (defined_in 0 ∷ defined_in 3 ∷ [])) (3 ∷ []) ≡ true
  pub defined_by_the_first : is_section_used (with_code code (defined_in 3 ∷ [])) (3 ∷ []) ≡ true

-- ## What goes along

-- a program header over addresses from 16 on
abbrev pub over : ℕ → ℕ → SegmentHeader
over type size = record { p_type = type; p_flags = 4; p_offset = 0; p_vaddr = 16; p_paddr = 16; p_filesz = 0; p_memsz = size; p_align = 1 }

-- a section that takes memory
abbrev pub at : ℕ → ImageSection
at address = record code { sh_addr = address; sh_flags = SHF_ALLOC }

-- the interpreter's, over the section at 16
abbrev pub interpreter : SegmentHeader
interpreter = record (over PT_INTERP 1) { p_filesz = 1 }

-- the static symbols' table in section 1, sections at 16 and 24 with the numbers 2 and 4, and no dynamic symbols
abbrev pub placed : List NamedSymbol → Image
placed ys =
    let sections = null ∷ section SHT_SYMTAB kinds.Symbols 0 [] ∷ at 16 ∷ at 24 ∷ [] in
    record (image_with (0 ∷ 1 ∷ 2 ∷ 4 ∷ []) sections ys) { segments = interpreter ∷ []; dynamic_symbols = [] }

pub record AlongRows : Type 0 where
  -- the first symbol stays, whatever it names
  pub defined : symbols_along (placed (defined_in 2 ∷ defined_in 4 ∷ defined_in 2 ∷ [])) (2 ∷ []) ≡ 2 ∷ []
  pub with_their_table : symbols_along (placed (defined_in 0 ∷ defined_in 4 ∷ defined_in 2 ∷ [])) (1 ∷ []) ≡ 0 ∷ 1 ∷ 2 ∷ []
  -- one that begins there stays
  pub held : is_deserted (placed []) (2 ∷ []) (over PT_TLS 16) ≡ false
  -- the end of a program header is no part of its memory
  pub deserted : is_deserted (placed []) (2 ∷ []) (over PT_TLS 8) ≡ true
  pub of_both : is_deserted (placed []) (2 ∷ 4 ∷ []) (over PT_TLS 16) ≡ true
  pub empty : is_deserted (placed []) (2 ∷ 4 ∷ []) (over PT_TLS 0) ≡ false
  pub loaded : is_deserted (placed []) (2 ∷ 4 ∷ []) (over PT_LOAD 16) ≡ false
  pub dynamic : is_deserted (placed []) (2 ∷ 4 ∷ []) (over PT_DYNAMIC 16) ≡ false
  pub interpreter_goes : is_deserted (placed []) (2 ∷ []) interpreter ≡ true
  pub interpreter_stays : is_deserted (placed []) (4 ∷ []) interpreter ≡ false

-- ## All of them

pub record UsesRows : Type 0 where
  pub hashes : HashRows
  pub users : UserRows
  pub relocations : RelocationRows
  pub sections : SectionRows
  pub along : AlongRows
