-- Steps towards the bytes of a written file.
use Rattle.std.specs.Prelude.{ℕ, ◌≡◌, List, [], ◌∷◌, map, filter, Bool, ◌&&◌, not, Option, if◌then◌else◌, ◌==◌, IsTrue}
use Rattle.std.specs.List.{flat_map, list_all, list_any}
use Rattle.byte_store.specs.Laid.{Patch}
use Rattle.elf_format.specs.declared.constants.TheConstants.{SHT_DYNAMIC}
use Rattle.elf_format.specs.declared.form.Form.{Form}
use Rattle.elf_format.specs.declared.records.FileHeader.{FileHeader}
use Rattle.elf_format.specs.declared.records.SectionHeader.{SectionHeader}
use Rattle.elf_format.specs.declared.records.SegmentHeader.{SegmentHeader}
use Rattle.elf_format.specs.declared.range.Range.{Range}
use Rattle.elf_format.specs.Image.{ImageSection}
use Rattle.elf_format.specs.File.{loads_of}
use Rattle.elf_format.specs.Options.{is_some_and}
use Rattle.elf_format.specs.Placement.{file_part}
use Rattle.elf_format.specs.Places.{Place, file_range, occupies_file}
use Rattle.elf_tables.specs.Fields.{do_fields_fit}
use Rattle.elf_tables.specs.Spelled.{file_header_fields, section_fields, segment_fields}
use Rattle.elf_tables.specs.Spelled.{spelled_file_header, spelled_section_header, spelled_segment_header}
use Rattle.elf_layout_plan.specs.Anchors.{is_loaded_section}
use Rattle.elf_image.specs.Kept.{KeptSection, place_at_read}
use Rattle.elf_layout_plan.specs.Memory.{Resized}
use Rattle.elf_layout_plan.specs.Plan.{Plan}
use Rattle.elf_write_contents.specs.Base.{has_position, is_opaque, leaves_place}
use Rattle.elf_write_contents.specs.Output.{patch}
use Rattle.elf_write.specs.declared.spelled.SpelledHeaders.{SpelledHeaders}

-- ## Bytes by their positions

-- a loaded segment has the position in the file
abbrev pub is_in_load : List SegmentHeader → ℕ → Bool
is_in_load segments position = list_any (λ p. has_position position (file_part p)) (loads_of segments)

-- ## Data

-- a section is data that had that number, where the interpreter's had this one
abbrev pub is_data_at : Option ℕ → ℕ → ImageSection → Bool
is_data_at interpreter number s = is_loaded_section s && is_opaque s.kind && not (is_some_and (λ n. n == number) interpreter)

-- a section takes memory and bytes of the file, and is no data
abbrev pub is_rewritten_at : Option ℕ → ℕ → ImageSection → Bool
is_rewritten_at interpreter number s =
    is_loaded_section s && occupies_file (place_at_read s) && not (is_data_at interpreter number s)

-- a section is written anew, and nobody looks for it where it stood: a dynamic section that has leave to move is looked for there
abbrev pub leaves_place_at : Option ℕ → Bool → ℕ → ImageSection → Bool
leaves_place_at interpreter leave number s = is_rewritten_at interpreter number s && not (s.sh_type == SHT_DYNAMIC && leave)

-- where the sections stood that are written anew and for which nobody looks there
abbrev pub rewritten_places : Resized → List KeptSection → List Range
rewritten_places r kept = map (λ s. file_range (place_at_read s.section)) (filter (leaves_place r.read r.image) kept)

-- ## What is laid over the bytes that stay

-- each number of the headers fits its field
pub record DoHeadersFit (form : Form) (header : FileHeader) (segments : List SegmentHeader) (sections : List SectionHeader) : Type 0 where
  pub of_file : IsTrue (do_fields_fit (file_header_fields form header))
  pub of_segments : IsTrue (list_all (λ p. do_fields_fit (segment_fields form p)) segments)
  pub of_sections : IsTrue (list_all (λ s. do_fields_fit (section_fields form s)) sections)

-- the bytes of the file header, the program header table and the section header table
pub record AreHeadersSpelled (form : Form) (header : FileHeader) (segments : List SegmentHeader) (sections : List SectionHeader)
    (spelled : SpelledHeaders) : Type 0 where
  pub of_file : spelled.file.items ≡ spelled_file_header form header
  pub of_segments : spelled.segments.items ≡ flat_map (spelled_segment_header form) segments
  pub of_sections : spelled.sections.items ≡ flat_map (spelled_section_header form) sections

-- each where the plan has it
abbrev pub header_patches : Plan → SpelledHeaders → List Patch
header_patches plan spelled =
    patch 0 spelled.file.items ∷ patch plan.e_phoff spelled.segments.items ∷ patch plan.e_shoff spelled.sections.items ∷ []

-- the bytes of a section at its place, where it has one in the file and isn't data
abbrev pub content_patches : Place → Bool → List ℕ → List Patch
content_patches place is_data bytes = if occupies_file place && not is_data then patch place.sh_offset bytes ∷ [] else []
