-- The parts of an image, seen without where their bytes lie.
use Rattle.std.specs.Prelude.{ℕ, List, Option}
use Rattle.std.specs.Option.{option_map}
use Rattle.elf_format.specs.ByteString.{StringValue}
use Rattle.elf_image_headers.specs.declared.dynamic.Dynamic.{Dynamic}
use Rattle.elf_image_headers.specs.declared.dynamic.Dynamic.TheVariants as kinds
use Rattle.elf_image_headers.specs.declared.section.Section.{Section}
use Rattle.elf_image_headers.specs.declared.segment.Segment.{Segment}
use Rattle.elf_format.specs.Dynamic.{Auto, Entry, Integer, Text}
use Rattle.elf_format.specs.Image.{ImageSection}
use Rattle.elf_format.specs.declared.records.SegmentHeader.{SegmentHeader}

-- the numbers of a program header
abbrev pub segment_model : Segment → SegmentHeader
segment_model p = p.numbers

abbrev pub section_model : Section → ImageSection
section_model s = record {
  name = s.name.bytes;
  kind = s.kind;
  sh_type = s.sh_type;
  sh_flags = s.sh_flags;
  sh_addr = s.sh_addr;
  sh_offset = s.sh_offset;
  sh_size = s.sh_size;
  sh_link = s.sh_link;
  sh_info = s.sh_info;
  sh_addralign = s.sh_addralign;
  sh_entsize = s.sh_entsize;
  content = s.content.now;
}

-- the bytes of a text, where there is one
abbrev pub text_model : Option StringValue → Option (List ℕ)
text_model text = option_map (λ string. string.bytes) text

abbrev pub entry_model : Dynamic → Entry
entry_model (kinds.Auto tag) = Auto tag
entry_model (kinds.Integer tag value) = Integer tag value
entry_model (kinds.Text tag text) = Text tag text.bytes
