-- The records of ELF files, each by one definition for both classes and byte orders.
use Rattle.std.specs.Prelude.{ℕ, ◌^◌, ◌/◌, ◌%◌, List, length, Option, Some, None, ◌==◌, if◌then◌else◌}
use Rattle.elf_format.specs.declared.constants.TheConstants.{SHT_RELA}
pub use Rattle.elf_format.specs.declared.records.EntryNumbers.{EntryNumbers}
pub use Rattle.elf_format.specs.declared.records.FileHeader.{FileHeader}
pub use Rattle.elf_format.specs.declared.records.SectionHeader.{SectionHeader}
pub use Rattle.elf_format.specs.declared.records.SegmentHeader.{SegmentHeader}
pub use Rattle.elf_format.specs.declared.records.SymbolNumbers.{SymbolNumbers}
use Rattle.elf_format.specs.Form.{Form, by_class, field_of, fixed_field, records}

-- The file header (gABI, ELF Header).
abbrev pub file_header_size : Form → ℕ
file_header_size form = by_class form.wide 52 64

unfoldable pub file_header : Form → List ℕ → FileHeader
file_header form bytes = record {
  os_abi = fixed_field form (7, 1) bytes;
  abi_version = fixed_field form (8, 1) bytes;
  e_type = fixed_field form (16, 2) bytes;
  e_machine = fixed_field form (18, 2) bytes;
  e_entry = field_of form (24, 4) (24, 8) bytes;
  e_phoff = field_of form (28, 4) (32, 8) bytes;
  e_shoff = field_of form (32, 4) (40, 8) bytes;
  e_flags = field_of form (36, 4) (48, 4) bytes;
  e_phentsize = field_of form (42, 2) (54, 2) bytes;
  e_phnum = field_of form (44, 2) (56, 2) bytes;
  e_shentsize = field_of form (46, 2) (58, 2) bytes;
  e_shnum = field_of form (48, 2) (60, 2) bytes;
  e_shstrndx = field_of form (50, 2) (62, 2) bytes;
}

-- A program header (gABI, Program Header).
abbrev pub segment_header_size : Form → ℕ
segment_header_size form = by_class form.wide 32 56

unfoldable pub segment_header : Form → List ℕ → SegmentHeader
segment_header form bytes = record {
  p_type = fixed_field form (0, 4) bytes;
  p_flags = field_of form (24, 4) (4, 4) bytes;
  p_offset = field_of form (4, 4) (8, 8) bytes;
  p_vaddr = field_of form (8, 4) (16, 8) bytes;
  p_paddr = field_of form (12, 4) (24, 8) bytes;
  p_filesz = field_of form (16, 4) (32, 8) bytes;
  p_memsz = field_of form (20, 4) (40, 8) bytes;
  p_align = field_of form (28, 4) (48, 8) bytes;
}

-- A section header (gABI, Sections).
abbrev pub section_header_size : Form → ℕ
section_header_size form = by_class form.wide 40 64

unfoldable pub section_header : Form → List ℕ → SectionHeader
section_header form bytes = record {
  sh_name = fixed_field form (0, 4) bytes;
  sh_type = fixed_field form (4, 4) bytes;
  sh_flags = field_of form (8, 4) (8, 8) bytes;
  sh_addr = field_of form (12, 4) (16, 8) bytes;
  sh_offset = field_of form (16, 4) (24, 8) bytes;
  sh_size = field_of form (20, 4) (32, 8) bytes;
  sh_link = field_of form (24, 4) (40, 4) bytes;
  sh_info = field_of form (28, 4) (44, 4) bytes;
  sh_addralign = field_of form (32, 4) (48, 8) bytes;
  sh_entsize = field_of form (36, 4) (56, 8) bytes;
}

-- A symbol, its name by where it stands in a string table (gABI, Symbol Table).
abbrev pub symbol_size : Form → ℕ
symbol_size form = by_class form.wide 16 24

unfoldable pub symbol_numbers : Form → List ℕ → SymbolNumbers
symbol_numbers form bytes = record {
  st_name = fixed_field form (0, 4) bytes;
  st_info = field_of form (12, 1) (4, 1) bytes;
  st_other = field_of form (13, 1) (5, 1) bytes;
  st_shndx = field_of form (14, 2) (6, 2) bytes;
  st_value = field_of form (4, 4) (8, 8) bytes;
  st_size = field_of form (8, 4) (16, 8) bytes;
}

-- the symbols that lie whole in bytes
abbrev pub symbols_in : Form → List ℕ → List SymbolNumbers
symbols_in form bytes = records (symbol_numbers form) (symbol_size form) (length bytes / symbol_size form) bytes

-- A dynamic entry (gABI, Dynamic Section).
abbrev pub entry_size : Form → ℕ
entry_size form = by_class form.wide 8 16

unfoldable pub entry_numbers : Form → List ℕ → EntryNumbers
entry_numbers form bytes = record {
  d_tag = field_of form (0, 4) (0, 8) bytes;
  d_value = field_of form (4, 4) (8, 8) bytes;
}

-- A relocation (gABI, Relocation). Of the number that names symbol and type, the lower 8 bits are the
-- type in 32-bit files, the lower 32 bits in 64-bit files.
pub record Relocation : Type 0 where
  pub r_offset : ℕ
  pub r_symbol : ℕ
  pub r_type : ℕ
  pub r_addend : Option ℕ

-- relocations with an addend are longer
abbrev pub relocation_size : Form → ℕ → ℕ
relocation_size form sh_type = if sh_type == SHT_RELA then by_class form.wide 12 24 else by_class form.wide 8 16

unfoldable pub relocation : Form → ℕ → List ℕ → Relocation
relocation form sh_type bytes =
    let r_info = field_of form (4, 4) (8, 8) bytes in
    let types = by_class form.wide (2 ^ 8) (2 ^ 32) in
    record {
      r_offset = field_of form (0, 4) (0, 8) bytes;
      r_symbol = r_info / types;
      r_type = r_info % types;
      r_addend = if sh_type == SHT_RELA then Some (field_of form (8, 4) (16, 8) bytes) else None;
    }

-- the relocations that lie whole in bytes
abbrev pub relocations_in : Form → ℕ → List ℕ → List Relocation
relocations_in form sh_type bytes =
    let size = relocation_size form sh_type in
    records (relocation form sh_type) size (length bytes / size) bytes
