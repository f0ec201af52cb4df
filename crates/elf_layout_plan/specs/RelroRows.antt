-- A small library with a segment that is read-only once it was relocated, and a dynamic section that moves. Each row is computed.
use Rattle.std.specs.Prelude.{ℕ, [], ◌∷◌, ◌++◌, true, Some, None, codes}
use Rattle.elf_format.specs.declared.constants.TheConstants.{PT_GNU_RELRO, PT_TLS}
use Rattle.elf_format.specs.declared.records.SegmentHeader.{SegmentHeader}
use Rattle.elf_format.specs.declared.section_data.SectionData.TheVariants as kinds
use Rattle.elf_format.specs.Dynamic.{Text}
use Rattle.elf_format.specs.Image.{Image}
use Rattle.elf_layout_plan.specs.Memory.{Resized}
use Rattle.elf_layout_plan.specs.Plan.{IsPlan, Plan}
use Rattle.elf_layout_plan.specs.RowParts.{after_edit, image_of_parts, names_section, no_place, null_section, place, section, segment}
use Rattle.elf_layout_plan.specs.SmallRows.{small_entries}

-- The library needs libc.so.6 and has the run path /a. Its dynamic list at 304 ends where its loaded segment does, and a program
-- header of the type is just over the list, in memory up to the page's end.

abbrev pub relro_load : SegmentHeader
relro_load = segment 1 6 0 0 384 4096

abbrev pub header_over_list : ℕ → SegmentHeader
header_over_list type = record (segment type 4 304 304 80 1) { p_memsz = 3792 }

abbrev pub relro_library : ℕ → Image
relro_library type = image_of_parts 672 416 3 (relro_load ∷ segment 2 6 304 304 80 8 ∷ header_over_list type ∷ [])
    (null_section ∷ section (codes ".dynstr") kinds.Strings 3 2 288 14 0 1 ∷ section (codes ".dynamic") kinds.Dynamic 6 3 304 80 1 8 ∷ names_section 384 28 ∷ [])
    (Some small_entries) None

-- with a name of its own, and with leave
abbrev pub relro_named : ℕ → Resized
relro_named type =
    after_edit (relro_library type) (record (relro_library type) { entries = Some (small_entries ++ Text 14 (codes "x") ∷ []); moves_dynamic = true })

-- the plan, by what becomes of the program header: the list goes behind the end of the file part, on the next page
abbrev pub relro_plan : SegmentHeader → Plan
relro_plan header = record {
  places = no_place ∷ place 3 2 288 288 16 ∷ place 6 3 4480 384 96 ∷ place 3 0 0 480 28 ∷ [];
  segments = relro_load ∷ segment 1 6 384 4480 96 4096 ∷ segment 2 6 384 4480 96 8 ∷ header ∷ [];
  e_phoff = 64;
  e_shoff = 512;
  rounds = 2;
  looked = 1;
}

-- with a longer name, and with leave: strings and list move, into one segment
abbrev pub relro_renamed : Resized
relro_renamed =
    let library = relro_library PT_GNU_RELRO in
    after_edit library (record library { entries = Some (small_entries ++ Text 14 (codes "xyz") ∷ []); moves_dynamic = true })

abbrev pub renamed_plan : Plan
renamed_plan = record {
  places = no_place ∷ place 3 2 4480 384 18 ∷ place 6 3 4504 408 96 ∷ place 3 0 0 504 28 ∷ [];
  segments = relro_load ∷ segment 1 6 384 4480 120 4096 ∷ segment 2 6 408 4504 96 8 ∷ header_over_list PT_GNU_RELRO ∷ [];
  e_phoff = 64;
  e_shoff = 536;
  rounds = 2;
  looked = 1;
}

pub record RelroRows : Type 0 where
  -- a PT_GNU_RELRO keeps its range
  pub relro_stays : IsPlan (relro_named PT_GNU_RELRO) (relro_plan (header_over_list PT_GNU_RELRO))
  -- a program header of another type goes with the list
  pub other_goes : IsPlan (relro_named PT_TLS) (relro_plan (record (segment PT_TLS 4 384 4480 96 1) { p_memsz = 3792 }))
  -- strings that move stand before the list, in the segment that may be written
  pub strings_go_along : IsPlan relro_renamed renamed_plan
