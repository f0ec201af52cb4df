-- The layouts of segment commands, as the reader keeps them.
use Rattle.patch_bytes.specs.Number.{word_size}
use Rattle.macho_image.specs.declared.segment.SegmentLayout.{SegmentLayout}
use Rattle.macho_image.specs.Command.{SegmentForm}

-- a layout by its numbers
abbrev pub form_of_layout : SegmentLayout → SegmentForm
form_of_layout l = record {
  fixed = l.fixed;
  section = l.section;
  word = word_size l.word;
  fileoff = l.fileoff;
  filesize = l.filesize;
  nsects = l.nsects;
  size = l.size;
  offset = l.offset;
  flags = l.flags;
}
