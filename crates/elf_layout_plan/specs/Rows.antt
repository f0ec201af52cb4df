-- Small programs, edited, and where everything of them goes. Each row is computed.
use Rattle.std.specs.Prelude.{ℕ, ◌+◌, ◌-◌, [], ◌∷◌, Some, None, codes, replicate}
use Rattle.elf_format.specs.declared.records.SegmentHeader.{SegmentHeader}
use Rattle.elf_format.specs.declared.section_data.SectionData.TheVariants as kinds
use Rattle.elf_format.specs.Dynamic.{Auto, Text}
use Rattle.elf_format.specs.Image.{Image, ImageSection}
use Rattle.elf_image_headers.specs.Segments.{added_stack}
use Rattle.elf_layout_plan.specs.Memory.{Resized}
use Rattle.elf_layout_plan.specs.Plan.{IsOverlapping, IsPlan, Plan}
use Rattle.elf_layout_plan.specs.RowParts.{after_edit, image_of_parts, names_section, no_place, null_section, place, section, segment}

-- ## A program with an interpreter behind its program headers

-- with data at an offset
abbrev pub started : ℕ → Image
started data_at = image_of_parts 600 384 3 (segment 1 6 0 0 320 4096 ∷ segment 3 4 176 176 28 1 ∷ [])
    (null_section ∷ section (codes ".interp") kinds.Opaque 1 2 176 28 0 1 ∷ section (codes ".data") kinds.Opaque 1 3 data_at 32 0 1 ∷ names_section 320 28 ∷ [])
    None (Some (replicate 28 120))

abbrev pub started_stack : ℕ → Resized
started_stack data_at =
    after_edit (started data_at) (record (started data_at) { segments = segment 1 6 0 0 320 4096 ∷ segment 3 4 176 176 28 1 ∷ added_stack 7 ∷ [] })

pub record StartRows : Type 0 where
  -- three headers reach into the interpreter's name; the four that are then needed end where the data begins
  pub fits : IsPlan (started_stack 288) (record {
    places = no_place ∷ place 1 2 4416 320 28 ∷ place 1 3 288 288 32 ∷ place 3 0 0 348 28 ∷ [];
    segments = segment 1 6 0 0 320 4096 ∷ segment 1 4 320 4416 28 4096 ∷ segment 3 4 320 4416 28 1 ∷ added_stack 7 ∷ [];
    e_phoff = 64;
    e_shoff = 376;
    rounds = 2;
    looked = 1;
  })
  pub overlaps : IsOverlapping (started_stack 280)

-- ## Where an added segment stands

-- memory that is larger than the file part, at an address
abbrev pub high_load : SegmentHeader
high_load = record (segment 1 6 0 0x400000 0x1200 0x1000) { p_memsz = 0x1300 }

abbrev pub high_list : SegmentHeader
high_list = segment 2 6 240 0x4000f0 96 8

abbrev pub at_high : ImageSection → ImageSection
at_high s = record s { sh_addr = 0x400000 + s.sh_offset }

abbrev pub high_image : Image
high_image = image_of_parts 0x1400 0x1240 3 (high_load ∷ high_list ∷ [])
    (null_section ∷ at_high (section (codes ".dynstr") kinds.Strings 3 2 228 11 0 1) ∷ at_high (section (codes ".dynamic") kinds.Dynamic 6 3 240 96 1 8) ∷ names_section 0x1200 28 ∷ [])
    (Some (Text 1 (codes "libc.so.6") ∷ Auto 5 ∷ Auto 10 ∷ [])) None

abbrev pub high_run_path : Resized
high_run_path =
    after_edit high_image (record high_image { entries = Some (Text 1 (codes "libc.so.6") ∷ Auto 5 ∷ Auto 10 ∷ Text 29 (codes "/a/longer/one") ∷ []) })

pub record HighRows : Type 0 where
  -- behind the file part, and on the page behind memory's end as far from its start as the offset is
  pub plan : IsPlan high_run_path (record {
    places = no_place ∷ place 3 2 0x402200 0x1200 25 ∷ place 6 3 0x4000f0 240 96 ∷ place 3 0 0 0x1219 28 ∷ [];
    segments = high_load ∷ segment 1 4 0x1200 0x402200 25 0x1000 ∷ high_list ∷ [];
    e_phoff = 64;
    e_shoff = 0x1238;
    rounds = 2;
    looked = 1;
  })

-- ## Several notes under one program header

-- a first note at 176, a second one at an offset, and data behind them
abbrev pub noted : ℕ → Image
noted second = image_of_parts 1500 1152 4 (segment 1 6 0 0 1024 4096 ∷ segment 4 4 176 176 (second - 144) 4 ∷ [])
    (null_section ∷ section (codes ".note.a") kinds.Note 7 2 176 64 0 4 ∷ section (codes ".note.b") kinds.Note 7 2 second 32 0 4
    ∷ section (codes ".data") kinds.Opaque 1 3 512 512 0 1 ∷ names_section 1024 32 ∷ [])
    None None

abbrev pub noted_stack : ℕ → Resized
noted_stack second = after_edit (noted second) (record (noted second) { segments = segment 1 6 0 0 1024 4096 ∷ segment 4 4 176 176 (second - 144) 4 ∷ added_stack 7 ∷ [] })

pub record NoteRows : Type 0 where
  -- the first note moves alone, and its program header is split
  pub split : IsPlan (noted_stack 400) (record {
    places = no_place ∷ place 7 2 5120 1024 64 ∷ place 7 2 400 400 32 ∷ place 1 3 512 512 512 ∷ place 3 0 0 1088 32 ∷ [];
    segments = segment 1 6 0 0 1024 4096 ∷ segment 1 4 1024 5120 64 4096 ∷ segment 4 4 400 400 32 4 ∷ segment 4 4 1024 5120 64 4 ∷ added_stack 7 ∷ [];
    e_phoff = 64;
    e_shoff = 1120;
    rounds = 2;
    looked = 2;
  })
  -- the entries for the split push the second note away too: then there is none, and fewer are written than were looked with
  pub both : IsPlan (noted_stack 240) (record {
    places = no_place ∷ place 7 2 5120 1024 64 ∷ place 7 2 5184 1088 32 ∷ place 1 3 512 512 512 ∷ place 3 0 0 1120 32 ∷ [];
    segments = segment 1 6 0 0 1024 4096 ∷ segment 1 4 1024 5120 96 4096 ∷ segment 4 4 1024 5120 96 4 ∷ added_stack 7 ∷ [];
    e_phoff = 64;
    e_shoff = 1152;
    rounds = 2;
    looked = 2;
  })

-- ## A program header for the program header table

-- a PT_PHDR over so many bytes at an offset; a section that isn't loaded stands at 330, data before it
abbrev pub tabled : ℕ → ℕ → Image
tabled offset size = image_of_parts 616 360 3 (segment 1 6 0 0 320 4096 ∷ segment 6 4 offset 64 size 8 ∷ [])
    (null_section ∷ section (codes ".data") kinds.Opaque 1 3 288 32 0 1 ∷ record (section (codes ".comment") kinds.Opaque 1 0 330 4 0 1) { sh_addr = 0 }
    ∷ names_section 334 26 ∷ [])
    None None

abbrev pub tabled_stack : ℕ → ℕ → Resized
tabled_stack offset size =
    after_edit (tabled offset size) (record (tabled offset size) { segments = segment 1 6 0 0 320 4096 ∷ segment 6 4 offset 64 size 8 ∷ added_stack 7 ∷ [] })

-- the plan, by what becomes of the PT_PHDR
abbrev pub tabled_plan : SegmentHeader → Plan
tabled_plan header = record {
  places = no_place ∷ place 1 3 288 288 32 ∷ place 1 0 0 320 4 ∷ place 3 0 0 324 26 ∷ [];
  segments = segment 1 6 0 0 320 4096 ∷ header ∷ added_stack 7 ∷ [];
  e_phoff = 64;
  e_shoff = 352;
  rounds = 1;
  looked = 0;
}

pub record TableRows : Type 0 where
  -- one just over the section goes where that goes
  pub over_section : IsPlan (tabled_stack 330 4) (tabled_plan (segment 6 4 320 64 4 8))
  -- one over the table has the size of three entries
  pub over_table : IsPlan (tabled_stack 64 112) (tabled_plan (segment 6 4 64 64 168 8))
  -- as has one over no byte
  pub over_nothing : IsPlan (tabled_stack 330 0) (tabled_plan (segment 6 4 330 64 168 8))
