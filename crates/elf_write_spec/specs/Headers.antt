-- The headers that are written.
use Rattle.std.specs.Prelude.{ℕ, ◌+◌, ◌<◌, ◌≡◌, List, [], ◌∷◌, length, not, Some, ◌==◌, if◌then◌else◌}
use Rattle.patch_bytes.specs.Memory.{memory_of, text_at}
use Rattle.elf_format.specs.declared.constants.TheConstants.{SHT_DYNSYM, SHT_GNU_VERDEF, SHT_GNU_VERNEED, SHT_SYMTAB}
use Rattle.elf_format.specs.declared.records.FileHeader.{FileHeader}
use Rattle.elf_format.specs.declared.records.SectionHeader.{SectionHeader}
use Rattle.elf_format.specs.Image.{Image, ImageSection}
use Rattle.elf_format.specs.Places.{Place}
use Rattle.elf_format.specs.Records.{section_header_size, segment_header_size}
use Rattle.elf_format.specs.Views.{NamedSymbol}
use Rattle.elf_layout_plan.specs.Memory.{Resized}
use Rattle.elf_layout_plan.specs.Plan.{Plan}
use Rattle.elf_hashes.specs.Found.{is_local}
pub use Rattle.elf_image.specs.Needed.{is_info_number}
use Rattle.elf_write_spec.specs.Final.{final, new_number}

-- a text stands at a place of a table, with a NUL behind it: any reader that has room for it finds it there
abbrev pub Reads : List ℕ → ℕ → List ℕ → Type 0
Reads table place text = (room : ℕ) → length text < room → text_at room (memory_of table) place ≡ Some text

-- ## The file header (gABI, ELF Header)

-- what was read, with the ABI of the image, and where the header tables of the plan stand and how many entries they have
abbrev pub written_header : Image → Plan → FileHeader
written_header image plan = record {
  os_abi = image.header.os_abi;
  abi_version = image.header.abi_version;
  e_type = image.header.e_type;
  e_machine = image.header.e_machine;
  e_entry = image.header.e_entry;
  e_phoff = plan.e_phoff;
  e_shoff = plan.e_shoff;
  e_flags = image.header.e_flags;
  e_phentsize = segment_header_size image.form;
  e_phnum = length plan.segments;
  e_shentsize = section_header_size image.form;
  e_shnum = length plan.places;
  e_shstrndx = new_number image image.header.e_shstrndx;
}

-- ## Section headers (gABI, Sections)

-- one past the last local symbol, 0 where there is none (gABI, Sections, sh_info of symbol tables)
unfoldable pub behind_locals : List NamedSymbol → ℕ
behind_locals [] = 0
behind_locals (y ∷ ys) = if not (behind_locals ys == 0) then behind_locals ys + 1 else if is_local y then 1 else 0

-- the number in sh_info of a table that is made of the image's lists, by the final lists
abbrev pub written_info : Image → Image → ImageSection → ℕ
written_info read image s =
    if s.sh_type == SHT_SYMTAB then behind_locals (final read image).symbols
    else if s.sh_type == SHT_DYNSYM then behind_locals (final read image).dynamic_symbols
    else if s.sh_type == SHT_GNU_VERDEF then length image.definitions
    else if s.sh_type == SHT_GNU_VERNEED then length (final read image).needs
    else if is_info_number s then new_number image s.sh_info
    else s.sh_info

-- the header of a section at its place, its name at a place of the names
abbrev pub written_section : Resized → ImageSection → Place → ℕ → SectionHeader
written_section r s place name = record {
  sh_name = name;
  sh_type = s.sh_type;
  sh_flags = s.sh_flags;
  sh_addr = place.sh_addr;
  sh_offset = place.sh_offset;
  sh_size = place.sh_size;
  sh_link = new_number r.image s.sh_link;
  sh_info = written_info r.read r.image s;
  sh_addralign = s.sh_addralign;
  sh_entsize = s.sh_entsize;
}

-- the header of a section at its place, its name among these names
pub record IsHeaderOf (r : Resized) (names : List ℕ) (s : ImageSection) (place : Place) (h : SectionHeader) : Type 0 where
  pub name : Reads names h.sh_name s.name
  pub fields : h ≡ written_section r s place h.sh_name
