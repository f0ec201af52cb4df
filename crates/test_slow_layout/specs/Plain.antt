-- An image as plain records: its sections as parts, its program headers as pieces.
use Rattle.std.specs.Prelude.{ℕ, ◌≡◌, List, [], length, map, max, slice_get, slice_index, unwrap_or, Some}
use Rattle.elf_format.specs.declared.records.SegmentHeader.{SegmentHeader}
use Rattle.elf_format.specs.Image.{Image, ImageSection}
use Rattle.test_slow_layout.specs.declared.plain.Part.{Part}
use Rattle.test_slow_layout.specs.declared.plain.Piece.{Piece}
use Rattle.test_slow_layout.specs.declared.plain.Plain.{Plain}

-- a section at a position, with the number that it had at read and a size
abbrev pub part_with : ImageSection → ℕ → ℕ → ℕ → Part
part_with s position number size = record {
  position = position;
  number = number;
  sh_type = s.sh_type;
  sh_flags = s.sh_flags;
  link = s.sh_link;
  address = s.sh_addr;
  offset = s.sh_offset;
  old = s.sh_size;
  size = size;
  align = max s.sh_addralign 1;
}

-- the section at a position of an image, with the size that is told for it, or its own where none is
abbrev pub part_at : Image → List ℕ → ℕ → ImageSection → Part
part_at image sizes position s = part_with s position (slice_index image.section_numbers position) (unwrap_or (slice_get sizes position) s.sh_size)

-- one part for each section, in their order
pub record AreParts (image : Image) (sizes : List ℕ) (parts : List Part) : Type 0 where
  pub many : length parts ≡ length image.sections
  pub each : (i : ℕ) (s : ImageSection) → slice_get image.sections i ≡ Some s → slice_get parts i ≡ Some (part_at image sizes i s)

-- a program header
abbrev pub piece_with : SegmentHeader → Piece
piece_with p = record {
  p_type = p.p_type;
  p_flags = p.p_flags;
  offset = p.p_offset;
  address = p.p_vaddr;
  physical = p.p_paddr;
  in_file = p.p_filesz;
  in_memory = p.p_memsz;
  align = p.p_align;
}

-- the image that was read and the edited one, with the new sizes of its sections
pub record IsPlain (read image : Image) (sizes : List ℕ) (plain : Plain) : Type 0 where
  pub read_parts : AreParts read [] plain.read_parts.items
  pub parts : AreParts image sizes plain.parts.items
  pub read_pieces : plain.read_pieces.items ≡ map piece_with read.segments
  pub pieces : plain.pieces.items ≡ map piece_with image.segments
