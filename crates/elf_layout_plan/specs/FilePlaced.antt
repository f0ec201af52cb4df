-- What a plan promises of the file: everything stands in it as the rules of placement ask of a file that is read.
use Rattle.std.specs.Prelude.{ℕ, ◌+◌, ◌*◌, List, [], ◌∷◌, length, IsTrue}
use Rattle.elf_format.specs.declared.range.Range.{Range}
use Rattle.elf_format.specs.Placement.{file_parts_fit, header_table_loaded, ranges_in_file, sections_loaded, segments_apart, uninitialized_clear}
use Rattle.elf_format.specs.Ranges.{range}
use Rattle.elf_format.specs.Records.{file_header_size, section_header_size, segment_header_size}
use Rattle.elf_layout_plan.specs.Memory.{Resized}
use Rattle.elf_layout_plan.specs.Plan.{Plan}

-- how long the file is: the section header table is its end
abbrev pub written_size : Resized → Plan → ℕ
written_size r plan = plan.e_shoff + length plan.places * section_header_size r.image.form

-- the program header table
abbrev pub written_table : Resized → Plan → Range
written_table r plan = range plan.e_phoff (length plan.segments * segment_header_size r.image.form)

abbrev pub written_headers : Resized → Plan → List Range
written_headers r plan = range 0 (file_header_size r.image.form) ∷ written_table r plan ∷ []

-- Everything stands where the rules of placement allow it.
pub record IsPlacedInFile (r : Resized) (plan : Plan) : Type 0 where
  pub in_file : IsTrue (ranges_in_file (written_size r plan) plan.segments plan.places)
  pub fit : IsTrue (file_parts_fit plan.segments)
  pub apart : IsTrue (segments_apart plan.segments)
  pub loaded : IsTrue (sections_loaded (written_headers r plan) plan.segments plan.places)
  pub clear : IsTrue (uninitialized_clear plan.segments plan.places)
  pub table : IsTrue (header_table_loaded (written_table r plan) plan.segments)
