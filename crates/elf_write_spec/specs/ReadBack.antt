-- What reading a written file answers.
use Rattle.std.specs.Prelude.{ℕ, ◌≡◌, List, [], ◌∷◌, length, false, Some, Ok, IsTrue}
use Rattle.std.specs.List.{slice_get}
use Rattle.elf_format.specs.declared.header.Header.{Header}
use Rattle.elf_format.specs.declared.records.SectionHeader.{SectionHeader}
use Rattle.elf_format.specs.File.{Parts, section_bytes}
use Rattle.elf_format.specs.Image.{Image, ImageSection, image_of}
use Rattle.elf_format.specs.Rules.{ArePartsOf, has_magic}
use Rattle.elf_image.specs.Kept.{image_at_read}
use Rattle.elf_write_spec.specs.Final.{final, new_number}
use Rattle.elf_write_spec.specs.Headers.{written_header}
use Rattle.elf_write_spec.specs.Output.{Output, written_bytes}

-- the parts that a written file has
abbrev pub written_parts : Output → Parts
written_parts w = record {
  opened = record { file = written_bytes w; form = w.image.form; header = written_header w.image w.plan };
  segments = w.plan.segments;
  sections = w.headers;
}

-- A written file has these parts, and each section header names the bytes of its section.
pub record HasWrittenParts (w : Output) : Type 0 where
  pub magic : IsTrue (has_magic (written_bytes w))
  pub parts : ArePartsOf (written_bytes w) (written_parts w)
  pub counted : length w.contents ≡ length w.headers
  pub contents : (i : ℕ) (h : SectionHeader) (bytes : List ℕ) → slice_get w.headers i ≡ Some h → slice_get w.contents i ≡ Some bytes
      → section_bytes (written_bytes w) h ≡ bytes

-- the section at its place, with the bytes that were written
abbrev pub rewritten_section : ImageSection → SectionHeader → List ℕ → ImageSection
rewritten_section s h bytes = record s {
  sh_addr = h.sh_addr;
  sh_offset = h.sh_offset;
  sh_size = h.sh_size;
  sh_link = h.sh_link;
  sh_info = h.sh_info;
  content = bytes;
}

abbrev pub rewritten_sections : List ImageSection → List SectionHeader → List (List ℕ) → List ImageSection
rewritten_sections [] headers contents = []
rewritten_sections (s ∷ ss) [] contents = []
rewritten_sections (s ∷ ss) (h ∷ hs) [] = []
rewritten_sections (s ∷ ss) (h ∷ hs) (bytes ∷ more) = rewritten_section s h bytes ∷ rewritten_sections ss hs more

-- the header, with where the tables stand in the written file
abbrev pub rewritten_header : Output → Header
rewritten_header w = record w.image.header {
  e_phoff = w.plan.e_phoff;
  e_shoff = w.plan.e_shoff;
  e_shstrndx = new_number w.image w.image.header.e_shstrndx;
}

-- The image of a written file: the lists are those of the image in its final form, program headers and places those of the plan.
pub record IsRewrittenImage (w : Output) (again : Image) : Type 0 where
  pub source : again.source ≡ written_bytes w
  pub changed : again.changed ≡ false
  pub form : again.form ≡ w.image.form
  pub header : again.header ≡ rewritten_header w
  pub segments : again.segments ≡ w.plan.segments
  pub sections : again.sections ≡ rewritten_sections w.image.sections w.headers w.contents
  pub symbols : again.symbols ≡ (final (image_at_read w.image) w.image).symbols
  pub dynamic_symbols : again.dynamic_symbols ≡ (final (image_at_read w.image) w.image).dynamic_symbols
  pub definitions : again.definitions ≡ (final (image_at_read w.image) w.image).definitions
  pub needs : again.needs ≡ (final (image_at_read w.image) w.image).needs
  pub entries : again.entries ≡ (final (image_at_read w.image) w.image).entries
  pub interpreter : again.interpreter ≡ (final (image_at_read w.image) w.image).interpreter

-- The file is accepted, and reading it answers that image.
pub record IsReadBack (w : Output) : Type 0 where
  pub again : Image
  pub is_read : image_of (written_bytes w) ≡ Ok again
  pub is_rewritten_image : IsRewrittenImage w again
