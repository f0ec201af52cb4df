-- What a file shows: through its section headers, and to a loader that knows its program headers alone.
-- Both are decoded by the same words, and differ only in where the bytes come from.
use Rattle.std.specs.Prelude.{ℕ, ◌+◌, ◌-◌, ◌*◌, ◌/◌, List, [], ◌∷◌, length, replicate, Bool, true, false, ◌&&◌, Option, Some, None, is_some, nat_le, nat_lt, ◌==◌, if◌then◌else◌, find, unwrap_or}
use Rattle.std.specs.List.{slice_get}
use Rattle.patch_bytes.specs.Memory.{◌>>=◌, Memory, bytes_at, first_places, from, memory_of, nowhere, text_at}
use Rattle.elf_format.specs.declared.constants.TheConstants.{DT_STRSZ, DT_STRTAB, DT_SYMENT, DT_SYMTAB, DT_VERDEF, DT_VERDEFNUM, DT_VERNEED, DT_VERNEEDNUM, DT_VERSYM, PT_DYNAMIC, PT_GNU_STACK, PT_INTERP, SHT_DYNAMIC, SHT_DYNSYM, SHT_GNU_VERDEF, SHT_GNU_VERNEED, SHT_GNU_VERSYM, SHT_PROGBITS}
use Rattle.elf_format.specs.declared.version_id.VersionId.{VersionId}
use Rattle.elf_format.specs.Dynamic.{Entry, entries_at, has_tag, shown_entry, value_of_tag}
use Rattle.elf_format.specs.File.{Opened, bytes_in, linked_section, loads_of, opened_of, section_bytes, section_of_type, sections_of, segment_of_type, segments_of}
use Rattle.elf_format.specs.Form.{Form, records}
use Rattle.elf_format.specs.Options.{each, is_none_or, when_wanted}
use Rattle.elf_format.specs.Records.{EntryNumbers, SectionHeader, SegmentHeader, SymbolNumbers, symbol_numbers, symbol_size}
use Rattle.elf_format.specs.Versions.{Step, VersionDefinition, VersionNeeds, definition_at, is_whole_walk, need_at, shown_definition, shown_need, values_of, version_id, chain_steps}

-- A symbol as it is shown, with its version where the file has versions (gABI, Symbol Table).
pub record NamedSymbol : Type 0 where
  pub name : List ℕ
  pub st_info : ℕ
  pub st_other : ℕ
  pub st_shndx : ℕ
  pub st_value : ℕ
  pub st_size : ℕ
  pub version : Option VersionId

-- What is shown: the ABI byte, the flags of the first PT_GNU_STACK, the interpreter's bytes, the dynamic
-- list and, where the list names their tables, the dynamic symbols, the defined and the needed versions.
pub record View : Type 0 where
  pub os_abi : ℕ
  pub stack_flags : Option ℕ
  pub interpreter : Option (List ℕ)
  pub entries : Option (List Entry)
  pub symbols : Option (List NamedSymbol)
  pub definitions : Option (List VersionDefinition)
  pub needs : Option (List VersionNeeds)

-- Where records are read, where their texts are, and how many there are.
pub record Table : Type 0 where
  pub bytes : Memory
  pub texts : Memory
  pub count : ℕ

-- Where the dynamic list's texts and the tables that it names are read.
pub record Tables : Type 0 where
  pub entry_texts : Memory
  pub symbols : Table
  pub versions : Memory
  pub definitions : Table
  pub needs : Table

-- the names of symbols
abbrev pub names_of : ℕ → Memory → List SymbolNumbers → Option (List (List ℕ))
names_of room texts symbols = each (λ y. text_at room texts y.st_name) symbols

-- the version of each of so many symbols, where there are versions
unfoldable pub symbol_versions : Form → Bool → ℕ → Memory → Option (List (Option VersionId))
symbol_versions form false count versions = Some (replicate count None)
symbol_versions form true count versions = do
  bytes ← bytes_at (count * 2) versions 0
  Some (records (λ b. Some (version_id form b)) 2 count bytes)

-- numbers, names and versions put together, symbol by symbol
unfoldable pub named_symbols : List SymbolNumbers → List (List ℕ) → List (Option VersionId) → List NamedSymbol
named_symbols [] names versions = []
named_symbols (y ∷ ys) [] versions = []
named_symbols (y ∷ ys) (name ∷ names) [] = []
named_symbols (y ∷ ys) (name ∷ names) (version ∷ versions) =
    record { name = name; st_info = y.st_info; st_other = y.st_other; st_shndx = y.st_shndx; st_value = y.st_value; st_size = y.st_size; version = version }
    ∷ named_symbols ys names versions

-- the dynamic symbols (gABI, Symbol Table; GNU symbol versioning, .gnu.version)
unfoldable pub dynamic_symbols : Form → ℕ → Bool → Table → Memory → Option (List NamedSymbol)
dynamic_symbols form room with_versions table versions = do
  bytes ← bytes_at (table.count * symbol_size form) table.bytes 0
  names ← names_of room table.texts (records (symbol_numbers form) (symbol_size form) table.count bytes)
  ids ← symbol_versions form with_versions table.count versions
  Some (named_symbols (records (symbol_numbers form) (symbol_size form) table.count bytes) names ids)

-- the records of a chain, where all of them are there and whole
unfoldable pub whole_chain : {A : Type 0} → (ℕ → Option (Step A)) → ℕ → Option (List A)
whole_chain read count =
    let steps = chain_steps read count 0 in
    if is_whole_walk count steps then Some (values_of steps) else None

-- the versions that the file defines (GNU symbol versioning, .gnu.version_d)
unfoldable pub defined_versions : Form → ℕ → Table → Option (List VersionDefinition)
defined_versions form room table = do
  definitions ← whole_chain (definition_at form table.bytes) table.count
  each (shown_definition room table.texts) definitions

-- the versions that the file needs (GNU symbol versioning, .gnu.version_r)
unfoldable pub needed_versions : Form → ℕ → Table → Option (List VersionNeeds)
needed_versions form room table = do
  needs ← whole_chain (need_at form table.bytes) table.count
  each (shown_need room table.texts) needs

-- a view, by its dynamic entries and the tables that they name
unfoldable pub view_of : Form → ℕ → View → List EntryNumbers → Tables → Option View
view_of form room outline raw tables = do
  entries ← each (shown_entry room tables.entry_texts) raw
  symbols ← when_wanted (has_tag DT_SYMTAB raw) (dynamic_symbols form room (has_tag DT_VERSYM raw) tables.symbols tables.versions)
  definitions ← when_wanted (has_tag DT_VERDEF raw && has_tag DT_VERDEFNUM raw) (defined_versions form room tables.definitions)
  needs ← when_wanted (has_tag DT_VERNEED raw && has_tag DT_VERNEEDNUM raw) (needed_versions form room tables.needs)
  Some (record outline { entries = Some entries; symbols = symbols; definitions = definitions; needs = needs })

-- what is shown besides the dynamic list and its tables
abbrev pub outline_of : Opened → List SegmentHeader → Option (List ℕ) → View
outline_of o segments interpreter = record {
  os_abi = o.header.os_abi;
  stack_flags = segment_of_type PT_GNU_STACK segments >>= (λ p. Some p.p_flags);
  interpreter = interpreter;
  entries = None;
  symbols = None;
  definitions = None;
  needs = None;
}

-- the section with the bytes of the interpreter's name: the first of PROGBITS that stands where PT_INTERP
-- says (gABI, Program Header, PT_INTERP)
abbrev pub interpreter_section : SegmentHeader → List SectionHeader → Option SectionHeader
interpreter_section p sections =
    find (λ s. s.sh_type == SHT_PROGBITS && s.sh_offset == p.p_offset && s.sh_addr == p.p_vaddr && s.sh_size == p.p_filesz) sections

-- the bytes of the section with that number, from its first byte on
abbrev pub section_memory : List ℕ → Option SectionHeader → Memory
section_memory file None = nowhere
section_memory file (Some s) = memory_of (section_bytes file s)

-- a table by its section, its texts in the section that it links to
abbrev pub section_table : List ℕ → List SectionHeader → (SectionHeader → ℕ) → ℕ → Table
section_table file sections count type = elim (section_of_type type sections) [
  | None ↦ record { bytes = nowhere; texts = nowhere; count = 0 }
  | Some s ↦ record { bytes = section_memory file (Some s); texts = section_memory file (linked_section sections s); count = count s }
]

-- the tables by their sections; a count of records is the section's sh_info
abbrev pub tables_by_sections : Form → List ℕ → List SectionHeader → SectionHeader → Tables
tables_by_sections form file sections list = record {
  entry_texts = section_memory file (linked_section sections list);
  symbols = section_table file sections (λ s. s.sh_size / symbol_size form) SHT_DYNSYM;
  versions = section_memory file (section_of_type SHT_GNU_VERSYM sections);
  definitions = section_table file sections (λ s. s.sh_info) SHT_GNU_VERDEF;
  needs = section_table file sections (λ s. s.sh_info) SHT_GNU_VERNEED;
}

-- What a file shows through its section headers.
unfoldable pub section_view : List ℕ → Option View
section_view file = do
  o ← opened_of file
  segments ← segments_of o
  sections ← sections_of o
  outline ← Some (outline_of o segments (segment_of_type PT_INTERP segments >>= λ p. interpreter_section p sections >>= λ s. Some (section_bytes file s)))
  elim (section_of_type SHT_DYNAMIC sections) [
    | None ↦ Some outline
    | Some list ↦ (entries_at (length file) o.form (memory_of (section_bytes file list)) 0
        >>= λ raw. view_of o.form (length file) outline raw (tables_by_sections o.form file sections list))
  ]

-- the byte at an address, through the first loaded segment whose file part covers it
abbrev pub covers : SegmentHeader → ℕ → Bool
covers p a = nat_le p.p_vaddr a && nat_lt a (p.p_vaddr + p.p_filesz)

unfoldable pub byte_at : List SegmentHeader → List ℕ → Memory
byte_at segments file a = do
  p ← find (λ p. covers p a) (loads_of segments)
  slice_get file (p.p_offset + (a - p.p_vaddr))

-- what is seen from the address that a tag holds
abbrev pub memory_at_tag : Memory → Option ℕ → Memory
memory_at_tag memory None = nowhere
memory_at_tag memory (Some address) = from memory address

-- as many places as a tag says, or all where it isn't there
abbrev pub first_by_tag : Option ℕ → Memory → Memory
first_by_tag None memory = memory
first_by_tag (Some size) memory = first_places size memory

abbrev pub count_by_tag : Option ℕ → ℕ
count_by_tag None = 0
count_by_tag (Some count) = count

-- the dynamic strings of a loader: from DT_STRTAB on, and DT_STRSZ bytes where that is there
abbrev pub loaded_strings : Memory → List EntryNumbers → Memory
loaded_strings memory raw = first_by_tag (value_of_tag DT_STRSZ raw) (memory_at_tag memory (value_of_tag DT_STRTAB raw))

abbrev pub tables_by_tags : Memory → ℕ → List EntryNumbers → Tables
tables_by_tags memory symbol_count raw = record {
  entry_texts = loaded_strings memory raw;
  symbols = record { bytes = memory_at_tag memory (value_of_tag DT_SYMTAB raw); texts = loaded_strings memory raw; count = symbol_count };
  versions = memory_at_tag memory (value_of_tag DT_VERSYM raw);
  definitions = record { bytes = memory_at_tag memory (value_of_tag DT_VERDEF raw); texts = loaded_strings memory raw; count = count_by_tag (value_of_tag DT_VERDEFNUM raw) };
  needs = record { bytes = memory_at_tag memory (value_of_tag DT_VERNEED raw); texts = loaded_strings memory raw; count = count_by_tag (value_of_tag DT_VERNEEDNUM raw) };
}

-- What a loader sees that knows the program headers alone. They don't tell the number of dynamic symbols,
-- so that is handed in. The DT_NULL is looked for among `room` entries, the NUL of a text among `room` bytes.
unfoldable pub loader_view_within : ℕ → List ℕ → ℕ → Option View
loader_view_within room file symbol_count = do
  o ← opened_of file
  segments ← segments_of o
  interpreter ← when_wanted (is_some (segment_of_type PT_INTERP segments)) (segment_of_type PT_INTERP segments >>= λ p. bytes_in file p.p_offset p.p_filesz)
  outline ← Some (outline_of o segments interpreter)
  elim (segment_of_type PT_DYNAMIC segments) [
    | None ↦ Some outline
    | Some list ↦ (entries_at room o.form (from (byte_at segments file) list.p_vaddr) 0
        >>= λ raw. if is_none_or (λ size. size == symbol_size o.form) (value_of_tag DT_SYMENT raw)
        then view_of o.form room outline raw (tables_by_tags (byte_at segments file) symbol_count raw)
        else None)
  ]

-- what a loader sees, where no list of entries and no text has more parts than the file has bytes
abbrev pub loader_view : List ℕ → ℕ → Option View
loader_view file symbol_count = loader_view_within (length file) file symbol_count

-- how many dynamic symbols the section headers tell
unfoldable pub dynamic_symbol_count : List ℕ → ℕ
dynamic_symbol_count file = unwrap_or (opened_of file >>= λ o. sections_of o >>= λ sections. Some (section_table file sections (λ s. s.sh_size / symbol_size o.form) SHT_DYNSYM).count) 0
