-- A small library that was edited before, and one at the end of memory. Each row is computed.
use Rattle.std.specs.Prelude.{ℕ, ◌+◌, List, [], ◌∷◌, Some, None, codes, replicate}
use Rattle.elf_format.specs.declared.section_data.SectionData.TheVariants as kinds
use Rattle.elf_format.specs.Dynamic.{Auto, Text}
use Rattle.elf_format.specs.Image.{Image, ImageSection}
use Rattle.elf_layout_plan.specs.Memory.{Resized}
use Rattle.elf_layout_plan.specs.Plan.{IsOverlapping, IsPlan, IsTooLarge}
use Rattle.elf_layout_plan.specs.RowParts.{after_edit, image_of_parts, names_section, no_place, null_section, place, section}
use Rattle.elf_layout_plan.specs.SmallRows.{moved_plan, small_dynamic, small_image, small_list, small_load, small_plan, small_strings}

-- ## The same library after its strings moved, and at the end of memory

abbrev pub moved_strings : ImageSection
moved_strings = record (section (codes ".dynstr") kinds.Strings 3 2 320 65 0 1) { sh_addr = 4416 }

abbrev pub moved_image : Image
moved_image = image_of_parts 672 416 3 (moved_plan 65 385 416).segments
    (null_section ∷ moved_strings ∷ small_dynamic ∷ names_section 385 28 ∷ [])
    (Some (Text 1 (codes "libc.so.6") ∷ Text 29 (replicate 53 120) ∷ Auto 5 ∷ Auto 10 ∷ [])) None

abbrev pub moved_run_path : List ℕ → Resized
moved_run_path text =
    after_edit moved_image (record moved_image { entries = Some (Text 1 (codes "libc.so.6") ∷ Text 29 text ∷ Auto 5 ∷ Auto 10 ∷ []) })

-- memory ends at 2 to the 64
abbrev pub last_page : ℕ
last_page = 0xfffffffffffffec0

abbrev pub last_image : Image
last_image = record small_image {
  segments = record small_load { p_vaddr = last_page; p_paddr = 0 } ∷ record small_list { p_vaddr = last_page + 240 } ∷ [];
  sections = null_section ∷ record small_strings { sh_addr = last_page + 176 } ∷ record small_dynamic { sh_addr = last_page + 240 } ∷ names_section 320 28 ∷ [];
}

abbrev pub last_run_path : List ℕ → Resized
last_run_path text =
    after_edit last_image (record last_image { entries = Some (Text 1 (codes "libc.so.6") ∷ Text 29 text ∷ Auto 5 ∷ Auto 10 ∷ []) })

pub record AgainRows : Type 0 where
  -- shorter strings stay in the segment that was added
  pub shorter : IsPlan (moved_run_path (codes "/a")) (record (moved_plan 65 385 416) {
    places = no_place ∷ place 3 2 4416 320 14 ∷ place 6 3 240 240 80 ∷ place 3 0 0 385 28 ∷ [];
    rounds = 1;
    looked = 0;
  })
  -- longer ones need another segment, and the table of four program headers would reach into the dynamic list
  pub longer : IsOverlapping (moved_run_path (replicate 100 120))
  -- no page is left where memory ends
  pub fits : IsPlan (last_run_path (replicate 52 120)) (record (small_plan 64) {
    places = no_place ∷ place 3 2 (last_page + 176) 176 64 ∷ place 6 3 (last_page + 240) 240 80 ∷ place 3 0 0 320 28 ∷ [];
    segments = last_image.segments;
  })
  pub too_large : IsTooLarge (last_run_path (replicate 53 120))
