-- Spare segments of an image, and the leave with which they go.
use Rattle.std.specs.Prelude.{true}
use Rattle.elf_format.specs.Image.{Image}
use Rattle.elf_image_headers.specs.Spare.{SpareFacts, segments_reclaimed}

-- what decides on the spare segments of an image
abbrev pub spare_facts : Image → SpareFacts
spare_facts image = record {
  segments = image.segments;
  sections = image.sections;
  numbers = image.section_numbers;
  table = image.header.e_phoff;
  source = image.source;
}

-- leave that the dynamic section moves: spare segments go, and their sections move too
abbrev pub with_dynamic_move : Image → Image
with_dynamic_move image = record image { changed = true; segments = segments_reclaimed (spare_facts image); moves_dynamic = true }
