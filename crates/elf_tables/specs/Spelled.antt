-- The bytes of each record of an ELF file, for both classes and byte orders.
use Rattle.std.specs.Prelude.{ℕ, List, [], ◌∷◌, ◌++◌}
use Rattle.patch_bytes.specs.declared.number.ByteOrder2.{ByteOrder2}
use Rattle.patch_bytes.specs.declared.number.ByteOrder2.TheVariants.{Big, Little}
use Rattle.patch_bytes.specs.declared.number.Wide.{Wide}
use Rattle.patch_bytes.specs.declared.number.Wide.TheVariants.{W32, W64}
use Rattle.patch_bytes.specs.Number.{word_size}
use Rattle.elf_format.specs.declared.constants.TheConstants.{ELFCLASS32, ELFCLASS64, ELFDATA2LSB, ELFDATA2MSB}
use Rattle.elf_format.specs.declared.form.Form.{Form}
use Rattle.elf_format.specs.Form.{by_class}
use Rattle.elf_format.specs.declared.records.EntryNumbers.{EntryNumbers}
use Rattle.elf_format.specs.declared.records.FileHeader.{FileHeader}
use Rattle.elf_format.specs.declared.records.SectionHeader.{SectionHeader}
use Rattle.elf_format.specs.declared.records.SegmentHeader.{SegmentHeader}
use Rattle.elf_format.specs.declared.records.SymbolNumbers.{SymbolNumbers}
use Rattle.elf_format.specs.Records.{file_header_size}
use Rattle.elf_tables.specs.Fields.{fields}

-- an address, an offset or a size: a word of the class
abbrev pub class_word : Form → ℕ → ℕ × ℕ
class_word form number = (word_size form.wide, number)

-- ## The file header (gABI, ELF Header)

abbrev pub class_number : Wide → ℕ
class_number W32 = ELFCLASS32
class_number W64 = ELFCLASS64

abbrev pub order_number : ByteOrder2 → ℕ
order_number Little = ELFDATA2LSB
order_number Big = ELFDATA2MSB

-- the magic bytes, class, byte order and version, the two bytes of the ABI, and seven that say nothing (gABI, ELF
-- Identification)
abbrev pub identification_fields : Form → FileHeader → List (ℕ × ℕ)
identification_fields form h =
    (1, 0x7f) ∷ (1, 0x45) ∷ (1, 0x4c) ∷ (1, 0x46) ∷ (1, class_number form.wide) ∷ (1, order_number form.order) ∷ (1, 1)
    ∷ (1, h.os_abi) ∷ (1, h.abi_version) ∷ (1, 0) ∷ (1, 0) ∷ (1, 0) ∷ (1, 0) ∷ (1, 0) ∷ (1, 0) ∷ (1, 0) ∷ []

-- type, machine, version, entry, where the two header tables stand and flags, and how large this header and the entries
-- of the tables are and how many
abbrev pub header_fields : Form → FileHeader → List (ℕ × ℕ)
header_fields form h =
    (2, h.e_type) ∷ (2, h.e_machine) ∷ (4, 1) ∷ class_word form h.e_entry ∷ class_word form h.e_phoff ∷ class_word form h.e_shoff
    ∷ (4, h.e_flags) ∷ (2, file_header_size form) ∷ (2, h.e_phentsize) ∷ (2, h.e_phnum) ∷ (2, h.e_shentsize) ∷ (2, h.e_shnum) ∷ (2, h.e_shstrndx) ∷ []

abbrev pub file_header_fields : Form → FileHeader → List (ℕ × ℕ)
file_header_fields form h = identification_fields form h ++ header_fields form h

-- ## A program header (gABI, Program Header)

abbrev pub narrow_segment_fields : SegmentHeader → List (ℕ × ℕ)
narrow_segment_fields p =
    (4, p.p_type) ∷ (4, p.p_offset) ∷ (4, p.p_vaddr) ∷ (4, p.p_paddr) ∷ (4, p.p_filesz) ∷ (4, p.p_memsz) ∷ (4, p.p_flags) ∷ (4, p.p_align) ∷ []

abbrev pub wide_segment_fields : SegmentHeader → List (ℕ × ℕ)
wide_segment_fields p =
    (4, p.p_type) ∷ (4, p.p_flags) ∷ (8, p.p_offset) ∷ (8, p.p_vaddr) ∷ (8, p.p_paddr) ∷ (8, p.p_filesz) ∷ (8, p.p_memsz) ∷ (8, p.p_align) ∷ []

-- the flags stand near the end in 32-bit files, and behind the type in 64-bit files
abbrev pub segment_fields : Form → SegmentHeader → List (ℕ × ℕ)
segment_fields form p = by_class form.wide (narrow_segment_fields p) (wide_segment_fields p)

-- ## A section header (gABI, Sections)

abbrev pub section_fields : Form → SectionHeader → List (ℕ × ℕ)
section_fields form s =
    (4, s.sh_name) ∷ (4, s.sh_type) ∷ class_word form s.sh_flags ∷ class_word form s.sh_addr ∷ class_word form s.sh_offset ∷ class_word form s.sh_size
    ∷ (4, s.sh_link) ∷ (4, s.sh_info) ∷ class_word form s.sh_addralign ∷ class_word form s.sh_entsize ∷ []

-- ## A symbol (gABI, Symbol Table)

abbrev pub narrow_symbol_fields : SymbolNumbers → List (ℕ × ℕ)
narrow_symbol_fields y = (4, y.st_name) ∷ (4, y.st_value) ∷ (4, y.st_size) ∷ (1, y.st_info) ∷ (1, y.st_other) ∷ (2, y.st_shndx) ∷ []

abbrev pub wide_symbol_fields : SymbolNumbers → List (ℕ × ℕ)
wide_symbol_fields y = (4, y.st_name) ∷ (1, y.st_info) ∷ (1, y.st_other) ∷ (2, y.st_shndx) ∷ (8, y.st_value) ∷ (8, y.st_size) ∷ []

-- value and size stand behind the name in 32-bit files, and at the end in 64-bit files
abbrev pub symbol_fields : Form → SymbolNumbers → List (ℕ × ℕ)
symbol_fields form y = by_class form.wide (narrow_symbol_fields y) (wide_symbol_fields y)

-- ## A dynamic entry (gABI, Dynamic Section)

abbrev pub entry_fields : Form → EntryNumbers → List (ℕ × ℕ)
entry_fields form e = class_word form e.d_tag ∷ class_word form e.d_value ∷ []

-- ## Their bytes

abbrev pub spelled_file_header : Form → FileHeader → List ℕ
spelled_file_header form h = fields form.order (file_header_fields form h)

abbrev pub spelled_segment_header : Form → SegmentHeader → List ℕ
spelled_segment_header form p = fields form.order (segment_fields form p)

abbrev pub spelled_section_header : Form → SectionHeader → List ℕ
spelled_section_header form s = fields form.order (section_fields form s)

abbrev pub spelled_symbol : Form → SymbolNumbers → List ℕ
spelled_symbol form y = fields form.order (symbol_fields form y)

abbrev pub spelled_entry : Form → EntryNumbers → List ℕ
spelled_entry form e = fields form.order (entry_fields form e)
