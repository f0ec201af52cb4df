-- Small files, spelled part by part. The laws about them compute what the definitions answer.
use Rattle.std.specs.Prelude.{ℕ, ◌+◌, ◌-◌, ◌*◌, List, [], ◌∷◌, ◌++◌, map, length, replicate}
use Rattle.std.specs.List.{concat}
use Rattle.patch_bytes.specs.declared.number.ByteOrder2.{ByteOrder2}
use Rattle.patch_bytes.specs.declared.number.ByteOrder2.TheVariants.{Big, Little}
use Rattle.patch_bytes.specs.declared.number.Wide.{Wide}
use Rattle.patch_bytes.specs.declared.number.Wide.TheVariants.{W32, W64}
use Rattle.patch_bytes.specs.Number.{bytes_of, word_size}
use Rattle.elf_format.specs.declared.form.Form.{Form}
use Rattle.elf_format.specs.Form.{by_class}
use Rattle.elf_format.specs.declared.records.FileHeader.{FileHeader}
use Rattle.elf_format.specs.declared.records.SectionHeader.{SectionHeader}
use Rattle.elf_format.specs.declared.records.SegmentHeader.{SegmentHeader}
use Rattle.elf_format.specs.declared.records.SymbolNumbers.{SymbolNumbers}
use Rattle.elf_format.specs.Records.{file_header_size, section_header_size, segment_header_size}

-- the bytes of numbers of two, four and, by the class, four or eight bytes
abbrev pub half : Form → ℕ → List ℕ
half form x = bytes_of form.order 2 x

abbrev pub word : Form → ℕ → List ℕ
word form x = bytes_of form.order 4 x

abbrev pub address : Form → ℕ → List ℕ
address form x = bytes_of form.order (word_size form.wide) x

abbrev pub class_byte : Wide → ℕ
class_byte W32 = 1
class_byte W64 = 2

abbrev pub order_byte : ByteOrder2 → ℕ
order_byte Little = 1
order_byte Big = 2

abbrev pub spelled_header : Form → FileHeader → List ℕ
spelled_header form h =
    (0x7f ∷ 0x45 ∷ 0x4c ∷ 0x46 ∷ class_byte form.wide ∷ order_byte form.order ∷ 1 ∷ h.os_abi ∷ h.abi_version ∷ replicate 7 0)
    ++ half form h.e_type ++ half form h.e_machine ++ word form 1 ++ address form h.e_entry ++ address form h.e_phoff ++ address form h.e_shoff
    ++ word form h.e_flags ++ half form (file_header_size form) ++ half form h.e_phentsize ++ half form h.e_phnum
    ++ half form h.e_shentsize ++ half form h.e_shnum ++ half form h.e_shstrndx

abbrev pub spelled_segment : Form → SegmentHeader → List ℕ
spelled_segment form p =
    word form p.p_type ++ by_class form.wide [] (word form p.p_flags) ++ address form p.p_offset ++ address form p.p_vaddr ++ address form p.p_paddr
    ++ address form p.p_filesz ++ address form p.p_memsz ++ by_class form.wide (word form p.p_flags) [] ++ address form p.p_align

abbrev pub spelled_section : Form → SectionHeader → List ℕ
spelled_section form s =
    word form s.sh_name ++ word form s.sh_type ++ address form s.sh_flags ++ address form s.sh_addr ++ address form s.sh_offset ++ address form s.sh_size
    ++ word form s.sh_link ++ word form s.sh_info ++ address form s.sh_addralign ++ address form s.sh_entsize

abbrev pub spelled_symbol : Form → SymbolNumbers → List ℕ
spelled_symbol form y =
    let numbers = y.st_info ∷ y.st_other ∷ [] in
    word form y.st_name
    ++ by_class form.wide (address form y.st_value ++ address form y.st_size ++ numbers ++ half form y.st_shndx) (numbers ++ half form y.st_shndx ++ address form y.st_value ++ address form y.st_size)

abbrev pub spelled_entry : Form → ℕ × ℕ → List ℕ
spelled_entry form entry = address form entry.0 ++ address form entry.1

-- bytes at places, in rising order, with zeros between
abbrev pub placed_from : ℕ → List (ℕ × List ℕ) → List ℕ
placed_from pos [] = []
placed_from pos (piece ∷ pieces) = replicate (piece.0 - pos) 0 ++ piece.1 ++ placed_from (piece.0 + length piece.1) pieces

-- A file's parts: header, program headers, pieces of content by their offsets, section headers.
pub record Plan : Type 0 where
  pub form : Form
  pub header : FileHeader
  pub segments : List SegmentHeader
  pub pieces : List (ℕ × List ℕ)
  pub sections : List SectionHeader

abbrev pub spelled : Plan → List ℕ
spelled plan = placed_from 0
    ((0, spelled_header plan.form plan.header)
    ∷ (plan.header.e_phoff, concat (map (spelled_segment plan.form) plan.segments))
    ∷ plan.pieces
    ++ (plan.header.e_shoff, concat (map (spelled_section plan.form) plan.sections)) ∷ [])

abbrev pub little64 : Form
little64 = record { wide = W64; order = Little }

abbrev pub big32 : Form
big32 = record { wide = W32; order = Big }

-- a file header with tables of the usual entry sizes
abbrev pub usual_header : Form → ℕ → ℕ → ℕ → ℕ → FileHeader
usual_header form segments sections names e_shoff = record {
  os_abi = 0;
  abi_version = 0;
  e_type = 3;
  e_machine = 62;
  e_entry = 0;
  e_phoff = file_header_size form;
  e_shoff = e_shoff;
  e_flags = 0;
  e_phentsize = segment_header_size form;
  e_phnum = segments;
  e_shentsize = section_header_size form;
  e_shnum = sections;
  e_shstrndx = names;
}

-- a segment whose file part and memory part have one size and begin at one number
abbrev pub usual_segment : ℕ → ℕ → ℕ → ℕ → ℕ → SegmentHeader
usual_segment type flags offset size align =
    record { p_type = type; p_flags = flags; p_offset = offset; p_vaddr = offset; p_paddr = 0; p_filesz = size; p_memsz = size; p_align = align }

-- the first section header, all zeros
abbrev pub null_section : SectionHeader
null_section = record { sh_name = 0; sh_type = 0; sh_flags = 0; sh_addr = 0; sh_offset = 0; sh_size = 0; sh_link = 0; sh_info = 0; sh_addralign = 0; sh_entsize = 0 }

-- a section in memory at the number at which it begins in the file
abbrev pub loaded_section : ℕ → ℕ → ℕ → ℕ → ℕ → ℕ → ℕ → ℕ → SectionHeader
loaded_section name type flags offset size link info align =
    record { sh_name = name; sh_type = type; sh_flags = flags; sh_addr = offset; sh_offset = offset; sh_size = size; sh_link = link; sh_info = info; sh_addralign = align; sh_entsize = 0 }

-- a section that isn't in memory
abbrev pub kept_section : ℕ → ℕ → ℕ → ℕ → SectionHeader
kept_section name type offset size = record (loaded_section name type 0 offset size 0 0 1) { sh_addr = 0 }

-- ## The small library: a program header for all of it, one for its dynamic list, and nothing else

-- where its parts stand
pub record Places : Type 0 where
  pub strings : ℕ
  pub list : ℕ
  pub names : ℕ
  pub table : ℕ

-- NUL, "libc.so.6", NUL, "/a", NUL
abbrev pub small_strings : List ℕ
small_strings = 0 ∷ 108 ∷ 105 ∷ 98 ∷ 99 ∷ 46 ∷ 115 ∷ 111 ∷ 46 ∷ 54 ∷ 0 ∷ 47 ∷ 97 ∷ 0 ∷ []

-- NUL, then ".dynstr", ".dynamic" and ".shstrtab", each with a NUL
abbrev pub small_names : List ℕ
small_names = 0 ∷ 46 ∷ 100 ∷ 121 ∷ 110 ∷ 115 ∷ 116 ∷ 114 ∷ 0 ∷ 46 ∷ 100 ∷ 121 ∷ 110 ∷ 97 ∷ 109 ∷ 105 ∷ 99 ∷ 0 ∷ 46 ∷ 115 ∷ 104 ∷ 115 ∷ 116 ∷ 114 ∷ 116 ∷ 97 ∷ 98 ∷ 0 ∷ []

-- the bytes of a dynamic list
abbrev pub spelled_list : Form → List (ℕ × ℕ) → List ℕ
spelled_list form entries = concat (map (spelled_entry form) entries)

-- What may differ from the small library: whatever is given here stands in its place.
pub record Small : Type 0 where
  pub form : Form
  pub places : Places
  pub header : FileHeader
  pub load : SegmentHeader
  pub list_segment : SegmentHeader
  pub strings_section : SectionHeader
  pub list_section : SectionHeader
  pub names_section : SectionHeader
  pub entries : List (ℕ × ℕ)

abbrev pub small_file : Small → List ℕ
small_file s = spelled (record {
  form = s.form;
  header = s.header;
  segments = s.load ∷ s.list_segment ∷ [];
  pieces = (s.places.strings, small_strings) ∷ (s.places.list, spelled_list s.form s.entries) ∷ (s.places.names, small_names) ∷ [];
  sections = null_section ∷ s.strings_section ∷ s.list_section ∷ s.names_section ∷ [];
})

-- the library with its parts at some places, each address the file's offset
abbrev pub small_at : Form → Places → Small
small_at form places =
    let list_size = by_class form.wide 40 80 in
    record {
      form = form;
      places = places;
      header = usual_header form 2 4 3 places.table;
      load = usual_segment 1 6 0 places.names 4096;
      list_segment = usual_segment 2 6 places.list list_size 8;
      strings_section = loaded_section 1 3 2 places.strings 14 0 0 1;
      list_section = record (loaded_section 9 6 3 places.list list_size 1 0 8) { sh_entsize = by_class form.wide 8 16 };
      names_section = kept_section 18 3 places.names 28;
      -- DT_NEEDED "libc.so.6", DT_RUNPATH "/a", DT_STRTAB, DT_STRSZ, DT_NULL
      entries = (1, 1) ∷ (29, 11) ∷ (5, places.strings) ∷ (10, 14) ∷ (0, 0) ∷ [];
    }

-- in 64 bits, the lowest byte first: 608 bytes
abbrev pub small_library : Small
small_library = small_at little64 (record { strings = 176; list = 240; names = 320; table = 352 })

-- the small library in 32 bits, the highest byte first: 364 bytes
abbrev pub small_twin : Small
small_twin = small_at big32 (record { strings = 120; list = 136; names = 176; table = 204 })

-- ## The large library: a loaded kilobyte with room for further segments and sections

-- What stands in it besides the strings, the list and the names of the small one.
pub record Large : Type 0 where
  pub form : Form
  pub load : SegmentHeader
  pub segments : List SegmentHeader
  pub pieces : List (ℕ × List ℕ)
  pub sections : List SectionHeader
  pub entries : List (ℕ × ℕ)

-- the strings of a large library stand at 352, its list at 368, the section names at 640; pieces stand from 672 on, the section headers at
-- 1024; the further sections have the numbers from 4 on
abbrev pub large_file : Large → List ℕ
large_file l =
    let size = length l.entries * by_class l.form.wide 8 16 in
    spelled (record {
      form = l.form;
      header = usual_header l.form (2 + length l.segments) (4 + length l.sections) 3 1024;
      segments = l.load ∷ usual_segment 2 6 368 size 8 ∷ l.segments;
      pieces = (352, small_strings) ∷ (368, spelled_list l.form l.entries) ∷ (640, small_names) ∷ l.pieces;
      sections = null_section ∷ loaded_section 1 3 2 352 14 0 0 1 ∷ loaded_section 9 6 3 368 size 1 0 8 ∷ kept_section 18 3 640 28 ∷ l.sections;
    })

-- the entries that every large library has, without DT_NULL
abbrev pub large_entries : List (ℕ × ℕ)
large_entries = (1, 1) ∷ (5, 352) ∷ (10, 14) ∷ []

-- a large library with further segments, pieces and sections
abbrev pub large_with : List SegmentHeader → List (ℕ × List ℕ) → List SectionHeader → List (ℕ × ℕ) → Large
large_with segments pieces sections entries = record {
  form = little64;
  load = usual_segment 1 6 0 1024 4096;
  segments = segments;
  pieces = pieces;
  sections = sections;
  entries = large_entries ++ entries ++ (0, 0) ∷ [];
}

-- a large library with further sections alone, whose bytes are zeros
abbrev pub large_of : List SectionHeader → List ℕ
large_of sections = large_file (large_with [] [] sections [])
