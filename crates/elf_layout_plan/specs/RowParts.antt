-- Parts of small images.
use Rattle.std.specs.Prelude.{ℕ, ◌+◌, List, [], false, Option, None, codes, replicate}
use Rattle.patch_bytes.specs.declared.number.ByteOrder2.TheVariants.{Little}
use Rattle.patch_bytes.specs.declared.number.Wide.TheVariants.{W64}
use Rattle.elf_format.specs.declared.records.SegmentHeader.{SegmentHeader}
use Rattle.elf_format.specs.declared.section_data.SectionData.{SectionData}
use Rattle.elf_format.specs.declared.section_data.SectionData.TheVariants as kinds
use Rattle.elf_format.specs.Dynamic.{Entry}
use Rattle.elf_format.specs.Image.{Image, ImageSection, counted}
use Rattle.elf_format.specs.Places.{Place}
use Rattle.elf_layout_plan.specs.Memory.{Resized}
use Rattle.elf_layout_plan.specs.Sizes.{new_sizes}

-- a program header whose file part and memory part have one size
abbrev pub segment : ℕ → ℕ → ℕ → ℕ → ℕ → ℕ → SegmentHeader
segment type flags offset address size align =
    record { p_type = type; p_flags = flags; p_offset = offset; p_vaddr = address; p_paddr = address; p_filesz = size; p_memsz = size; p_align = align }

-- a section at an offset that is its address too
abbrev pub section : List ℕ → SectionData → ℕ → ℕ → ℕ → ℕ → ℕ → ℕ → ImageSection
section name kind type flags offset size link align = record {
  name = name;
  kind = kind;
  sh_type = type;
  sh_flags = flags;
  sh_addr = offset;
  sh_offset = offset;
  sh_size = size;
  sh_link = link;
  sh_info = 0;
  sh_addralign = align;
  sh_entsize = 0;
  content = [];
}

abbrev pub null_section : ImageSection
null_section = section [] kinds.Opaque 0 0 0 0 0 0

-- the section of names, which isn't loaded
abbrev pub names_section : ℕ → ℕ → ImageSection
names_section offset size = record (section (codes ".shstrtab") kinds.Strings 3 0 offset size 0 1) { sh_addr = 0 }

abbrev pub place : ℕ → ℕ → ℕ → ℕ → ℕ → Place
place type flags address offset size = record { sh_type = type; sh_flags = flags; sh_addr = address; sh_offset = offset; sh_size = size }

abbrev pub no_place : Place
no_place = place 0 0 0 0 0

-- an image of so many bytes, without symbols and versions; its contents stay out
abbrev pub image_of_parts : ℕ → ℕ → ℕ → List SegmentHeader → List ImageSection → Option (List Entry) → Option (List ℕ) → Image
image_of_parts size e_shoff e_shstrndx segments sections entries interpreter = record {
  source = replicate size 0;
  changed = false;
  form = record { wide = W64; order = Little };
  header = record { os_abi = 0; abi_version = 0; e_type = 3; e_machine = 62; e_entry = 0; e_flags = 0; e_phoff = 64; e_shoff = e_shoff; e_shstrndx = e_shstrndx };
  segments = segments;
  sections = sections;
  symbols = [];
  dynamic_symbols = [];
  definitions = [];
  needs = [];
  entries = entries;
  interpreter = interpreter;
  section_numbers = counted (e_shstrndx + 1);
  symbol_numbers = [];
  dynamic_symbol_numbers = [];
  page_size = None;
  moves_dynamic = false;
}

-- an edited image with its new sizes
abbrev pub after_edit : Image → Image → Resized
after_edit read image = record { read = read; image = image; sizes = new_sizes read image }
