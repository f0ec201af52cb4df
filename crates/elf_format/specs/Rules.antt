-- Which files are accepted: twelve rules in their order, each a test with the fault that it answers.
use Rattle.std.specs.Prelude.{ℕ, ◌+◌, ◌*◌, ◌/◌, ◌%◌, List, [], ◌∷◌, ◌++◌, map, filter, take, length, ◌≤◌, Bool, true, ◌&&◌, ◌||◌, not, Option, Some, None, ◌≡◌, IsTrue, Result, Ok, Err, is_some, is_none, nat_le, nat_lt, nat_eq, ◌==◌, if◌then◌else◌, count_by, unwrap_or}
use Rattle.std.specs.List.{flat_map, list_all, list_any, slice_get, starts_with}
use Rattle.patch_bytes.specs.Number.{field}
use Rattle.patch_bytes.specs.Memory.{Keeps, Memory, from, memory_of, text_at}
use Rattle.elf_format.specs.declared.constants.TheConstants.{DT_GNU_HASH, DT_HASH, DT_STRSZ, DT_STRTAB, DT_SYMENT, DT_SYMTAB, DT_VERDEF, DT_VERDEFNUM, DT_VERNEED, DT_VERNEEDNUM, DT_VERSYM, EM_MIPS, ET_DYN, ET_EXEC, PN_XNUM, PT_DYNAMIC, PT_INTERP, PT_PHDR, SHF_INFO_LINK, SHN_LORESERVE, SHN_XINDEX, SHT_DYNAMIC, SHT_DYNSYM, SHT_GNU_HASH, SHT_GNU_VERDEF, SHT_GNU_VERNEED, SHT_GNU_VERSYM, SHT_HASH, SHT_NOBITS, SHT_NOTE, SHT_NULL, SHT_REL, SHT_RELA, SHT_STRTAB, SHT_SYMTAB, VER_NDX_FIRST}
use Rattle.elf_format.specs.declared.fault.ElfFault.{ElfFault}
use Rattle.elf_format.specs.declared.fault.ElfFault.TheVariants.{BadMagic, BadText, Disagree, Truncated, Unsupported}
use Rattle.elf_format.specs.declared.section_data.SectionData.{SectionData}
use Rattle.elf_format.specs.declared.section_data.SectionData.TheVariants as kinds
use Rattle.elf_format.specs.Dynamic.{entries_at, has_tag, shown_entry, table_tags, value_of_tag}
use Rattle.elf_format.specs.File.{Opened, Parts, bytes_in, form_of, has_file_bytes, has_flag, is_allocated, linked_section, loads_of, opened_of, parts_of, section_bytes, section_of_type, sections_of, sections_there, segment_of_type, segments_of}
use Rattle.elf_format.specs.Form.{Form, records}
use Rattle.elf_format.specs.Options.{are_both_or_neither, each, first_there, is_none_or, is_one_of, is_some_and, kept_if, list_at}
use Rattle.elf_format.specs.Placement.{addresses_apart, file_parts_fit, header_table_loaded, ranges_in_file, sections_held, sections_loaded, segments_apart, shows_at, uninitialized_clear}
use Rattle.elf_format.specs.Places.{places_of}
use Rattle.elf_format.specs.Ranges.{Range, range}
use Rattle.elf_format.specs.Records.{EntryNumbers, Relocation, SectionHeader, SegmentHeader, entry_size, file_header_size, relocation_size, relocations_in, section_header, section_header_size, segment_header_size, symbol_size, symbols_in}
use Rattle.elf_format.specs.Versions.{DefinitionNumbers, NeedNumbers, Step, definition_at, is_whole_walk, need_at, shown_definition, shown_need, values_of, version_id, chain_steps}
use Rattle.elf_format.specs.Views.{View, byte_at, dynamic_symbol_count, first_by_tag, interpreter_section, loader_view, loader_view_within, names_of, section_memory, section_view}

-- A rule: what has to hold of a value, and the fault where it doesn't.
pub record Rule (A : Type 0) : Type 0 where
  pub holds : A → Bool
  pub fault : ElfFault

abbrev pub rule : {A : Type 0} → (A → Bool) → ElfFault → Rule A
rule holds fault = record { holds = holds; fault = fault }

-- the value, or the fault of the first rule that it breaks
unfoldable pub checked : {A : Type 0} → List (Rule A) → A → Result A ElfFault
checked [] x = Ok x
checked (r ∷ rs) x = elim (r.holds x) [ true ↦ checked rs x | _ ↦ Err r.fault ]

infixl 10 ◌>>=◌
abbrev pub ◌>>=◌ : {A B : Type 0} → Result A ElfFault → (A → Result B ElfFault) → Result B ElfFault
(Ok x) >>= f = f x
(Err e) >>= f = Err e

-- a value that is there, or a fault
abbrev pub there_or : {A : Type 0} → ElfFault → Option A → Result A ElfFault
there_or fault (Some x) = Ok x
there_or fault None = Err fault

-- ## Before the rules

-- the first four bytes (gABI, ELF Identification, EI_MAG0 to EI_MAG3)
abbrev pub has_magic : List ℕ → Bool
has_magic file = starts_with nat_eq file (0x7f ∷ 0x45 ∷ 0x4c ∷ 0x46 ∷ [])

abbrev pub identification_rules : List (Rule (List ℕ))
identification_rules =
    rule (λ file. nat_le 16 (length file)) Truncated
    ∷ rule has_magic BadMagic
    ∷ rule (λ file. is_some (form_of file)) Unsupported
    ∷ []

-- ## 1: file kind

abbrev pub is_symbol_table : SectionHeader → Bool
is_symbol_table s = is_one_of (SHT_SYMTAB ∷ SHT_DYNSYM ∷ []) s.sh_type

-- the section of names is a string table, as far as its header lies in the file (gABI, ELF Header, e_shstrndx)
abbrev pub names_are_texts : Opened → Bool
names_are_texts o =
    let size = section_header_size o.form in
    is_none_or (λ bytes. (section_header o.form bytes).sh_type == SHT_STRTAB) (bytes_in o.file (o.header.e_shoff + o.header.e_shstrndx * size) size)

-- no symbol says to look elsewhere for its section's number (gABI, Special Section Indexes, SHN_XINDEX), as
-- far as headers and tables lie in the file
abbrev pub no_extended_numbers : Opened → Bool
no_extended_numbers o =
    list_all (λ s. list_all (λ y. not (y.st_shndx == SHN_XINDEX)) (symbols_in o.form (section_bytes o.file s))) (filter is_symbol_table (sections_there o))

-- a program or a shared library, with section headers, whose tables have entries of this class's size and
-- no more entries than plain numbering has (gABI, ELF Header)
abbrev pub is_file_kind : Opened → Bool
is_file_kind o =
    is_one_of (ET_EXEC ∷ ET_DYN ∷ []) o.header.e_type
    && not (o.header.e_shoff == 0) && not (o.header.e_shnum == 0)
    && nat_lt o.header.e_shnum SHN_LORESERVE && nat_lt o.header.e_phnum PN_XNUM
    && o.header.e_phentsize == segment_header_size o.form && o.header.e_shentsize == section_header_size o.form
    && nat_lt o.header.e_shstrndx o.header.e_shnum && names_are_texts o
    && no_extended_numbers o

-- ## 2 to 5 and 12: placement

abbrev pub file_of : Parts → List ℕ
file_of p = p.opened.file

-- the file header and the program header table
abbrev pub header_range : Parts → Range
header_range p = range 0 (file_header_size p.opened.form)

abbrev pub segment_table_range : Parts → Range
segment_table_range p = range p.opened.header.e_phoff (p.opened.header.e_phnum * segment_header_size p.opened.form)

abbrev pub header_ranges : Parts → List Range
header_ranges p = header_range p ∷ segment_table_range p ∷ []

-- stored sections are held by segments, apart from each other and from the headers
abbrev pub are_sections_loaded : Parts → Bool
are_sections_loaded p = sections_loaded (header_ranges p) p.segments (places_of p.sections)

-- ## 6: one of each, and linked

-- the types of segments and sections that may come once
abbrev pub single_segment_types : List ℕ
single_segment_types = PT_DYNAMIC ∷ PT_INTERP ∷ PT_PHDR ∷ []

abbrev pub single_section_types : List ℕ
single_section_types = SHT_SYMTAB ∷ SHT_DYNSYM ∷ SHT_DYNAMIC ∷ SHT_HASH ∷ SHT_GNU_HASH ∷ SHT_GNU_VERSYM ∷ SHT_GNU_VERDEF ∷ SHT_GNU_VERNEED ∷ []

abbrev pub is_one_of_each : List SegmentHeader → List SectionHeader → Bool
is_one_of_each segments sections =
    list_all (λ type. nat_le (count_by (λ p. p.p_type == type) segments) 1) single_segment_types
    && list_all (λ type. nat_le (count_by (λ s. s.sh_type == type) sections) 1) single_section_types

-- the kind of section that a section of a type links to (gABI, Sections, sh_link; GNU symbol versioning)
abbrev pub text_users : List ℕ
text_users = SHT_SYMTAB ∷ SHT_DYNSYM ∷ SHT_DYNAMIC ∷ SHT_GNU_VERDEF ∷ SHT_GNU_VERNEED ∷ []

abbrev pub symbol_users : List ℕ
symbol_users = SHT_HASH ∷ SHT_GNU_HASH ∷ SHT_GNU_VERSYM ∷ []

abbrev pub links_to : ℕ → List SectionHeader → SectionHeader → Bool
links_to type sections s = is_some_and (λ l. l.sh_type == type) (linked_section sections s)

abbrev pub are_linked : List SectionHeader → Bool
are_linked sections =
    list_all (λ s. links_to SHT_STRTAB sections s) (filter (λ s. is_one_of text_users s.sh_type) sections)
    && list_all (λ s. links_to SHT_DYNSYM sections s) (filter (λ s. is_one_of symbol_users s.sh_type) sections)

-- the size of an entry of a section (gABI, Sections, sh_entsize; entries of hash tables have 4 bytes, or 8 where
-- the section says so)
abbrev pub unit_of : Form → SectionHeader → ℕ
unit_of form s =
    if is_symbol_table s then symbol_size form
    else if s.sh_type == SHT_DYNAMIC then entry_size form
    else if s.sh_type == SHT_GNU_VERSYM then 2
    else if s.sh_type == SHT_GNU_HASH then 4
    else if s.sh_type == SHT_HASH then (if s.sh_entsize == 8 then 8 else 4)
    else 1

abbrev pub are_whole : Form → List SectionHeader → Bool
are_whole form sections = list_all (λ s. s.sh_size % unit_of form s == 0) sections

-- symbols name sections that are there, or have a number of special meaning (gABI, Symbol Table, st_shndx)
abbrev pub symbols_have_sections : Parts → Bool
symbols_have_sections p =
    list_all (λ s. list_all (λ y. nat_lt y.st_shndx p.opened.header.e_shnum || nat_le SHN_LORESERVE y.st_shndx) (symbols_in p.opened.form (section_bytes (file_of p) s)))
    (filter is_symbol_table p.sections)

abbrev pub is_relocation_section : SectionHeader → Bool
is_relocation_section s = is_one_of (SHT_REL ∷ SHT_RELA ∷ []) s.sh_type

-- the symbol table that relocations are against (gABI, Sections, sh_link)
abbrev pub relocated_symbols : List SectionHeader → SectionHeader → Option SectionHeader
relocated_symbols sections s = kept_if is_symbol_table (linked_section sections s)

abbrev pub relocations_of : Parts → SectionHeader → List Relocation
relocations_of p s = relocations_in p.opened.form s.sh_type (section_bytes (file_of p) s)

-- relocations that are kept as they are: all of a MIPS file, whose form differs, and those that name symbols
-- but link to no symbol table
abbrev pub is_opaque_relocation : Parts → SectionHeader → Bool
is_opaque_relocation p s =
    p.opened.header.e_machine == EM_MIPS
    || is_none (relocated_symbols p.sections s) && list_any (λ r. not (r.r_symbol == 0)) (relocations_of p s)

-- relocations that aren't kept as they are: they are whole, and name symbols of their table, or symbol 0 (gABI, Relocation)
abbrev pub relocations_fit : Parts → Bool
relocations_fit p =
    list_all (λ s. s.sh_size % relocation_size p.opened.form s.sh_type == 0
    && is_none_or (λ l. list_all (λ r. r.r_symbol == 0 || nat_lt r.r_symbol (l.sh_size / symbol_size p.opened.form)) (relocations_of p s)) (relocated_symbols p.sections s))
    (filter (λ s. is_relocation_section s && not (is_opaque_relocation p s)) p.sections)

-- the sections whose sh_info is a section's number (gABI, Sections, sh_link and sh_info, SHF_INFO_LINK)
abbrev pub has_section_info : SectionHeader → Bool
has_section_info s =
    is_relocation_section s
    || has_flag SHF_INFO_LINK s && not (is_one_of (SHT_NULL ∷ SHT_SYMTAB ∷ SHT_DYNSYM ∷ SHT_GNU_VERDEF ∷ SHT_GNU_VERNEED ∷ []) s.sh_type)

abbrev pub infos_are_sections : Parts → Bool
infos_are_sections p = list_all (λ s. nat_lt s.sh_info p.opened.header.e_shnum) (filter has_section_info p.sections)

abbrev pub are_tables_linked : Parts → Bool
are_tables_linked p =
    is_one_of_each p.segments p.sections && are_linked p.sections && are_whole p.opened.form p.sections
    && symbols_have_sections p && relocations_fit p && infos_are_sections p

-- ## 7 to 9: the dynamic section, the interpreter and the tables of the dynamic list

-- the dynamic entries that the section shows
abbrev pub raw_entries : Parts → List EntryNumbers
raw_entries p = unwrap_or (entries_at (length (file_of p)) p.opened.form (section_memory (file_of p) (section_of_type SHT_DYNAMIC p.sections)) 0) []

-- PT_DYNAMIC and the dynamic section stand at one place, and DT_NULL lies in both (gABI, Dynamic Section)
abbrev pub dynamic_section_agrees : Parts → SegmentHeader → SectionHeader → Bool
dynamic_section_agrees p segment list =
    segment.p_offset == list.sh_offset && segment.p_vaddr == list.sh_addr && is_allocated list
    && is_some (entries_at (length (file_of p)) p.opened.form (memory_of (take segment.p_filesz (section_bytes (file_of p) list))) 0)

abbrev pub is_dynamic_section_right : Parts → Bool
is_dynamic_section_right p = are_both_or_neither (dynamic_section_agrees p) (segment_of_type PT_DYNAMIC p.segments) (section_of_type SHT_DYNAMIC p.sections)

-- PT_INTERP stands where a section of PROGBITS does (gABI, Program Interpreter)
abbrev pub is_interpreter_right : Parts → Bool
is_interpreter_right p = is_none_or (λ segment. is_some (interpreter_section segment p.sections)) (segment_of_type PT_INTERP p.segments)

-- the value of a tag, where it is there, is the address of an allocated section
abbrev pub tag_is_address : List EntryNumbers → ℕ → Option SectionHeader → Bool
tag_is_address raw tag section =
    is_none_or (λ value. is_some_and (λ s. is_allocated s && s.sh_addr == value) section) (value_of_tag tag raw)

-- the value of a tag, where it is there, passes a test against a section that is there
abbrev pub tag_fits : List EntryNumbers → ℕ → Option SectionHeader → (ℕ → SectionHeader → Bool) → Bool
tag_fits raw tag section test = is_none_or (λ value. is_some_and (λ s. test value s) section) (value_of_tag tag raw)

-- each table tag comes once at most
abbrev pub tags_come_once : List EntryNumbers → Bool
tags_come_once raw = list_all (λ tag. nat_le (count_by (λ e. e.d_tag == tag) raw) 1) table_tags

-- the list names the string table that its section links to, and no more bytes of it than there are
abbrev pub strings_agree : Parts → SectionHeader → Bool
strings_agree p list =
    let strings = linked_section p.sections list in
    has_tag DT_STRTAB (raw_entries p) && tag_is_address (raw_entries p) DT_STRTAB strings
    && tag_fits (raw_entries p) DT_STRSZ strings (λ value s. nat_le value s.sh_size)

-- the tags of the dynamic symbols
abbrev pub symbols_agree : Parts → Bool
symbols_agree p =
    let symbols = section_of_type SHT_DYNSYM p.sections in
    tag_is_address (raw_entries p) DT_SYMTAB symbols && tag_fits (raw_entries p) DT_SYMENT symbols (λ value _. value == symbol_size p.opened.form)

-- the tags of the hash tables
abbrev pub hashes_agree : Parts → Bool
hashes_agree p =
    tag_is_address (raw_entries p) DT_HASH (section_of_type SHT_HASH p.sections)
    && tag_is_address (raw_entries p) DT_GNU_HASH (section_of_type SHT_GNU_HASH p.sections)

-- the tags of records of versions: where they are, and how many
abbrev pub records_agree : Parts → ℕ → ℕ → ℕ → Bool
records_agree p tag count_tag type =
    let records = section_of_type type p.sections in
    tag_is_address (raw_entries p) tag records && tag_fits (raw_entries p) count_tag records (λ value s. s.sh_info == value)

-- the tags of all version tables
abbrev pub versions_agree : Parts → Bool
versions_agree p =
    tag_is_address (raw_entries p) DT_VERSYM (section_of_type SHT_GNU_VERSYM p.sections)
    && records_agree p DT_VERDEF DT_VERDEFNUM SHT_GNU_VERDEF
    && records_agree p DT_VERNEED DT_VERNEEDNUM SHT_GNU_VERNEED

-- a section, where it is there, has its texts where the dynamic list has its own
abbrev pub shares_texts : Parts → SectionHeader → ℕ → Bool
shares_texts p list type = is_none_or (λ s. s.sh_link == list.sh_link) (section_of_type type p.sections)

abbrev pub texts_are_shared : Parts → SectionHeader → Bool
texts_are_shared p list = shares_texts p list SHT_DYNSYM && shares_texts p list SHT_GNU_VERDEF && shares_texts p list SHT_GNU_VERNEED

-- each table tag holds the address, size or count of its section (gABI, Dynamic Section; GNU extensions)
abbrev pub dynamic_tables_agree : Parts → SectionHeader → Bool
dynamic_tables_agree p list =
    tags_come_once (raw_entries p) && strings_agree p list && symbols_agree p && hashes_agree p && versions_agree p && texts_are_shared p list

abbrev pub are_dynamic_tables_right : Parts → Bool
are_dynamic_tables_right p = is_none_or (λ list. dynamic_tables_agree p list) (section_of_type SHT_DYNAMIC p.sections)

-- ## 10: texts

-- the texts of the section with that number
abbrev pub texts_of : Parts → Option SectionHeader → Memory
texts_of p section = section_memory (file_of p) section

-- the texts of a section, as far as DT_STRSZ says where it is there
abbrev pub dynamic_texts_of : Parts → Option SectionHeader → Memory
dynamic_texts_of p section = first_by_tag (value_of_tag DT_STRSZ (raw_entries p)) (texts_of p section)

-- the dynamic texts of a section that links to them
abbrev pub linked_texts : Parts → SectionHeader → Memory
linked_texts p s = dynamic_texts_of p (linked_section p.sections s)

-- the names of the symbols of the one section of a type are texts
abbrev pub symbols_are_named : Parts → (Option SectionHeader → Memory) → ℕ → Bool
symbols_are_named p texts type =
    is_none_or (λ s. is_some (names_of (length (file_of p)) (texts (linked_section p.sections s)) (symbols_in p.opened.form (section_bytes (file_of p) s)))) (section_of_type type p.sections)

-- the records of defined and of needed versions as far as they can be walked; sh_info counts them
abbrev pub definition_steps : Parts → SectionHeader → List (Step DefinitionNumbers)
definition_steps p s = chain_steps (definition_at p.opened.form (section_memory (file_of p) (Some s))) s.sh_info 0

abbrev pub need_steps : Parts → SectionHeader → List (Step NeedNumbers)
need_steps p s = chain_steps (need_at p.opened.form (section_memory (file_of p) (Some s))) s.sh_info 0

abbrev pub section_names_end : Parts → Bool
section_names_end p = is_some (each (λ s. text_at (length (file_of p)) (texts_of p (slice_get p.sections p.opened.header.e_shstrndx)) s.sh_name) p.sections)

abbrev pub entry_texts_end : Parts → Bool
entry_texts_end p = is_none_or (λ s. is_some (each (shown_entry (length (file_of p)) (linked_texts p s)) (raw_entries p))) (section_of_type SHT_DYNAMIC p.sections)

abbrev pub definition_texts_end : Parts → Bool
definition_texts_end p = is_none_or (λ s. is_some (each (shown_definition (length (file_of p)) (linked_texts p s)) (values_of (definition_steps p s)))) (section_of_type SHT_GNU_VERDEF p.sections)

abbrev pub need_texts_end : Parts → Bool
need_texts_end p = is_none_or (λ s. is_some (each (shown_need (length (file_of p)) (linked_texts p s)) (values_of (need_steps p s)))) (section_of_type SHT_GNU_VERNEED p.sections)

-- each place of a text that is used lies in its table, with a NUL behind it there; in the dynamic strings
-- that NUL is among the first DT_STRSZ bytes (gABI, String Table)
abbrev pub do_texts_end : Parts → Bool
do_texts_end p =
    section_names_end p && symbols_are_named p (texts_of p) SHT_SYMTAB && symbols_are_named p (dynamic_texts_of p) SHT_DYNSYM
    && entry_texts_end p && definition_texts_end p && need_texts_end p

-- ## 11: versions

-- the indices of all defined and needed versions
abbrev pub known_versions : Parts → List ℕ
known_versions p =
    list_at (λ s. map (λ d. d.index) (values_of (definition_steps p s))) (section_of_type SHT_GNU_VERDEF p.sections)
    ++ list_at (λ s. flat_map (λ n. map (λ v. v.index) n.versions) (values_of (need_steps p s))) (section_of_type SHT_GNU_VERNEED p.sections)

-- a version for each dynamic symbol, each from VER_NDX_FIRST on a defined or a needed one
abbrev pub version_symbols_agree : Parts → SectionHeader → Bool
version_symbols_agree p s =
    is_some_and (λ symbols. s.sh_size / 2 == symbols.sh_size / symbol_size p.opened.form) (section_of_type SHT_DYNSYM p.sections)
    && list_all (λ v. nat_lt v.index VER_NDX_FIRST || is_one_of (known_versions p) v.index) (records (version_id p.opened.form) 2 (s.sh_size / 2) (section_bytes (file_of p) s))

-- the dynamic strings: those of the dynamic list, or without one those of the dynamic symbols
abbrev pub dynamic_strings_user : List SectionHeader → Option SectionHeader
dynamic_strings_user sections = first_there (section_of_type SHT_DYNAMIC sections) (section_of_type SHT_DYNSYM sections)

-- only the list, the dynamic symbols and the version records have texts in the dynamic strings
abbrev pub are_dynamic_strings_own : List SectionHeader → Bool
are_dynamic_strings_own sections =
    is_none_or (λ user. list_all (λ s. not (s.sh_link == user.sh_link) || is_one_of (SHT_NULL ∷ SHT_DYNAMIC ∷ SHT_DYNSYM ∷ SHT_GNU_VERDEF ∷ SHT_GNU_VERNEED ∷ []) s.sh_type) sections)
    (dynamic_strings_user sections)

-- version symbols, version records and the users of the dynamic strings (GNU symbol versioning)
abbrev pub are_versions_right : Parts → Bool
are_versions_right p =
    is_none_or (λ s. is_whole_walk s.sh_info (definition_steps p s)) (section_of_type SHT_GNU_VERDEF p.sections)
    && is_none_or (λ s. is_whole_walk s.sh_info (need_steps p s)) (section_of_type SHT_GNU_VERNEED p.sections)
    && is_none_or (λ s. version_symbols_agree p s) (section_of_type SHT_GNU_VERSYM p.sections)
    && are_dynamic_strings_own p.sections

-- ## All of them

abbrev pub placement_rules : List (Rule Parts)
placement_rules =
    rule (λ p. ranges_in_file (length (file_of p)) p.segments (places_of p.sections)) Truncated
    ∷ rule (λ p. file_parts_fit p.segments) (Disagree 2)
    ∷ rule (λ p. segments_apart p.segments) (Disagree 3)
    ∷ rule are_sections_loaded (Disagree 4)
    ∷ rule (λ p. uninitialized_clear p.segments (places_of p.sections)) (Disagree 5)
    ∷ []

abbrev pub table_rules : List (Rule Parts)
table_rules =
    rule are_tables_linked (Disagree 6)
    ∷ rule is_dynamic_section_right (Disagree 7)
    ∷ rule is_interpreter_right (Disagree 8)
    ∷ rule are_dynamic_tables_right (Disagree 9)
    ∷ rule do_texts_end BadText
    ∷ rule are_versions_right (Disagree 11)
    ∷ rule (λ p. header_table_loaded (segment_table_range p) p.segments) (Disagree 12)
    ∷ []

-- the parts of a file that every rule accepts, or the fault of the first rule that doesn't
unfoldable pub accepted_parts : List ℕ → Result Parts ElfFault
accepted_parts file = do
  _ ← checked identification_rules file
  o ← there_or Truncated (opened_of file)
  _ ← checked (rule is_file_kind Unsupported ∷ []) o
  p ← there_or Truncated (parts_of o)
  _ ← checked placement_rules p
  checked table_rules p

-- the fault of the first rule that a file breaks, if it breaks one
unfoldable pub fault_of : List ℕ → Option ElfFault
fault_of file = elim (accepted_parts file) [ Ok _ ↦ None | Err fault ↦ Some fault ]

-- ## What is known of an accepted file

-- the parts are those of the file
pub record ArePartsOf (file : List ℕ) (p : Parts) : Type 0 where
  pub opened : opened_of file ≡ Some p.opened
  pub segments : segments_of p.opened ≡ Some p.segments
  pub sections : sections_of p.opened ≡ Some p.sections
  pub same_file : p.opened.file ≡ file

-- each of the twelve rules holds
pub record MeetsRules (p : Parts) : Type 0 where
  pub file_kind : IsTrue (is_file_kind p.opened)
  pub in_file : IsTrue (ranges_in_file (length (file_of p)) p.segments (places_of p.sections))
  pub fit : IsTrue (file_parts_fit p.segments)
  pub segments : IsTrue (segments_apart p.segments)
  pub loaded : IsTrue (are_sections_loaded p)
  pub clear : IsTrue (uninitialized_clear p.segments (places_of p.sections))
  pub linked : IsTrue (are_tables_linked p)
  pub dynamic : IsTrue (is_dynamic_section_right p)
  pub interpreter : IsTrue (is_interpreter_right p)
  pub tables : IsTrue (are_dynamic_tables_right p)
  pub texts : IsTrue (do_texts_end p)
  pub versions : IsTrue (are_versions_right p)
  pub header_table : IsTrue (header_table_loaded (segment_table_range p) p.segments)

-- the file begins as ELF files do, has these parts, and each rule holds of them
pub record IsAcceptedWith (file : List ℕ) (p : Parts) : Type 0 where
  pub magic : IsTrue (has_magic file)
  pub parts : ArePartsOf file p
  pub rules : MeetsRules p

-- A file is accepted, with its parts, exactly where each of the rules holds of them.
abbrev pub AcceptedFilesMeetTheRules : Type 0
AcceptedFilesMeetTheRules =
    ((file : List ℕ) → fault_of file ≡ None → (p : Parts) × IsAcceptedWith file p)
    × ((file : List ℕ) (p : Parts) → IsAcceptedWith file p → fault_of file ≡ None)

-- Where loaded segments share no address and their file parts fit, the bytes of a range that lies in the file part of
-- one of them are those at the address that is as far from the segment's as the range is from the segment's offset.
abbrev pub HeldRangesAreSeen : Type 0
HeldRangesAreSeen =
    (file : List ℕ) (segments : List SegmentHeader) → IsTrue (file_parts_fit segments) → IsTrue (addresses_apart segments)
    → (r : Range) (address : ℕ) → IsTrue (list_any (λ p. shows_at p r address) (loads_of segments))
    → Keeps (memory_of (field r.size r.start file)) (from (byte_at segments file) address)

-- Where segments are apart, their file parts fit and stored sections are held, the bytes of an allocated
-- section are those at its address.
abbrev pub HeldSectionsAreSeen : Type 0
HeldSectionsAreSeen =
    (file : List ℕ) (segments : List SegmentHeader) (sections : List SectionHeader)
    → IsTrue (file_parts_fit segments) → IsTrue (segments_apart segments) → IsTrue (sections_held segments (places_of sections))
    → (i : ℕ) (s : SectionHeader) → slice_get sections i ≡ Some s → IsTrue (is_allocated s) → IsTrue (has_file_bytes s)
    → Keeps (memory_of (section_bytes file s)) (from (byte_at segments file) s.sh_addr)

-- ## What a section's bytes are

-- by the section's type (gABI, Sections, sh_type; GNU extensions)
abbrev pub data_of : Parts → SectionHeader → SectionData
data_of p s =
    if s.sh_type == SHT_NOBITS then kinds.Uninitialized
    else if s.sh_type == SHT_DYNAMIC then kinds.Dynamic
    else if is_relocation_section s then (if is_opaque_relocation p s then kinds.Opaque else kinds.Relocation)
    else if s.sh_type == SHT_NOTE then kinds.Note
    else if s.sh_type == SHT_STRTAB then kinds.Strings
    else if s.sh_type == SHT_SYMTAB then kinds.Symbols
    else if s.sh_type == SHT_DYNSYM then kinds.DynamicSymbols
    else if s.sh_type == SHT_HASH then kinds.Hash
    else if s.sh_type == SHT_GNU_HASH then kinds.GnuHash
    else if s.sh_type == SHT_GNU_VERSYM then kinds.GnuVersym
    else if s.sh_type == SHT_GNU_VERDEF then kinds.GnuVerdef
    else if s.sh_type == SHT_GNU_VERNEED then kinds.GnuVerneed
    else kinds.Opaque

-- ## What an accepted file shows

-- For every accepted file both views are there and are equal: its section headers show what a loader sees
-- that knows the program headers alone and the number of dynamic symbols. The room that a loader is given
-- for a list or a text doesn't matter, from the file's length on.
abbrev pub ViewsAgree : Type 0
ViewsAgree =
    (file : List ℕ) → fault_of file ≡ None
    → (view : View) × (section_view file ≡ Some view)
    × (loader_view file (dynamic_symbol_count file) ≡ Some view)
    × ((room : ℕ) → length file ≤ room → loader_view_within room file (dynamic_symbol_count file) ≡ Some view)
