-- A small library, edited, and where everything of it goes. Each row is computed.
use Rattle.std.specs.Prelude.{ℕ, ◌≡◌, List, [], ◌∷◌, ◌++◌, true, Some, None, codes, replicate}
use Rattle.elf_format.specs.declared.records.SegmentHeader.{SegmentHeader}
use Rattle.elf_format.specs.declared.section_data.SectionData.TheVariants as kinds
use Rattle.elf_format.specs.Dynamic.{Auto, Entry, Integer, Text}
use Rattle.elf_format.specs.Image.{Image, ImageSection}
use Rattle.elf_image_headers.specs.Segments.{added_stack}
use Rattle.elf_layout_plan.specs.Memory.{Resized}
use Rattle.elf_layout_plan.specs.Plan.{IsOverlapping, IsPlan, Plan}
use Rattle.elf_layout_plan.specs.Rounds.{do_move}
use Rattle.elf_layout_plan.specs.Sizes.{new_sizes}
use Rattle.elf_layout_plan.specs.RowParts.{after_edit, image_of_parts, names_section, no_place, null_section, place, section, segment}

-- ## A small library: it needs libc.so.6 and has the run path /a. Behind its strings at 176 there is room up to its dynamic list
-- at 240, and none behind that list.

abbrev pub small_load : SegmentHeader
small_load = segment 1 6 0 0 320 4096

abbrev pub small_list : SegmentHeader
small_list = record (segment 2 6 240 240 80 8) { p_paddr = 0 }

abbrev pub small_entries : List Entry
small_entries = Text 1 (codes "libc.so.6") ∷ Text 29 (codes "/a") ∷ Auto 5 ∷ Auto 10 ∷ []

abbrev pub small_strings : ImageSection
small_strings = section (codes ".dynstr") kinds.Strings 3 2 176 14 0 1

abbrev pub small_dynamic : ImageSection
small_dynamic = section (codes ".dynamic") kinds.Dynamic 6 3 240 80 1 8

abbrev pub small_image : Image
small_image = image_of_parts 608 352 3 (small_load ∷ small_list ∷ []) (null_section ∷ small_strings ∷ small_dynamic ∷ names_section 320 28 ∷ []) (Some small_entries) None

abbrev pub small_with : List Entry → Resized
small_with entries = after_edit small_image (record small_image { entries = Some entries })

-- with a run path
abbrev pub small_run_path : List ℕ → Resized
small_run_path text = small_with (Text 1 (codes "libc.so.6") ∷ Text 29 text ∷ Auto 5 ∷ Auto 10 ∷ [])

-- with a name of its own, which takes one entry more
abbrev pub small_named : Resized
small_named = small_with (small_entries ++ Text 14 (codes "x") ∷ [])

-- with a program header for the stack
abbrev pub small_stack : Resized
small_stack = after_edit small_image (record small_image { segments = small_load ∷ small_list ∷ added_stack 7 ∷ [] })

-- a plan in which nothing moves, by the size of the strings
abbrev pub small_plan : ℕ → Plan
small_plan size = record {
  places = no_place ∷ place 3 2 176 176 size ∷ place 6 3 240 240 80 ∷ place 3 0 0 320 28 ∷ [];
  segments = small_load ∷ small_list ∷ [];
  e_phoff = 64;
  e_shoff = 352;
  rounds = 1;
  looked = 0;
}

-- a plan in which the strings move, by where they stood and by their size: behind the end of the file part, on the next page, and
-- the section of names behind them
abbrev pub moved_plan : ℕ → ℕ → ℕ → Plan
moved_plan size names e_shoff = record {
  places = no_place ∷ place 3 2 4416 320 size ∷ place 6 3 240 240 80 ∷ place 3 0 0 names 28 ∷ [];
  segments = small_load ∷ segment 1 4 320 4416 size 4096 ∷ small_list ∷ [];
  e_phoff = 64;
  e_shoff = e_shoff;
  rounds = 2;
  looked = 1;
}

-- a small library whose strings were empty and stood at the end of the file part
abbrev pub small_empty : Image
small_empty = image_of_parts 608 352 3 (small_load ∷ small_list ∷ [])
    (null_section ∷ section (codes ".dynstr") kinds.Strings 3 2 320 0 0 1 ∷ small_dynamic ∷ names_section 320 28 ∷ [])
    (Some (Integer 21 0 ∷ Auto 5 ∷ Auto 10 ∷ [])) None

abbrev pub small_empty_named : Resized
small_empty_named = after_edit small_empty (record small_empty { entries = Some (Integer 21 0 ∷ Auto 5 ∷ Auto 10 ∷ Text 14 (codes "x") ∷ []) })

-- the library without its first entry, then with a name of its own
abbrev pub small_renamed : Resized
small_renamed = small_with (Text 29 (codes "/a") ∷ Auto 5 ∷ Auto 10 ∷ Text 14 (codes "x") ∷ [])

-- the library with a section that isn't loaded before the section of names, which was deleted
abbrev pub small_noted : Image
small_noted = image_of_parts 688 368 4 (small_load ∷ small_list ∷ [])
    (null_section ∷ small_strings ∷ small_dynamic ∷ record (section (codes ".comment") kinds.Opaque 1 0 320 4 0 1) { sh_addr = 0 } ∷ names_section 324 37 ∷ [])
    (Some small_entries) None

abbrev pub small_without_note : Resized
small_without_note = after_edit small_noted (record small_noted {
  sections = null_section ∷ small_strings ∷ small_dynamic ∷ names_section 324 37 ∷ [];
  section_numbers = 0 ∷ 1 ∷ 2 ∷ 4 ∷ [];
})

-- the library with an empty loaded section behind all that is written
abbrev pub small_marked : Image
small_marked = image_of_parts 672 352 4 (small_load ∷ small_list ∷ [])
    (null_section ∷ small_strings ∷ small_dynamic ∷ record (section (codes ".mark") kinds.Opaque 1 2 600 0 0 1) { sh_addr = 4096 } ∷ names_section 320 34 ∷ [])
    (Some small_entries) None

abbrev pub small_marked_again : Resized
small_marked_again = after_edit small_marked (record small_marked { changed = true })

-- the library with a damaged reserved section header, number 0: it has a type, the alignment of a page, and so many bytes
abbrev pub small_damaged : ℕ → Image
small_damaged size = image_of_parts 608 352 3 (small_load ∷ small_list ∷ [])
    (section [] kinds.Opaque 1 0 0 size 0 4096 ∷ small_strings ∷ small_dynamic ∷ names_section 320 28 ∷ [])
    (Some small_entries) None

abbrev pub small_damaged_again : ℕ → Resized
small_damaged_again size = after_edit (small_damaged size) (record (small_damaged size) { changed = true })

pub record SmallRows : Type 0 where
  -- without an edit
  pub sizes : new_sizes small_image small_image ≡ 0 ∷ 14 ∷ 80 ∷ 28 ∷ []
  pub none_moves : do_move (after_edit small_image small_image) 0 [] ≡ true
  pub unedited : IsPlan (after_edit small_image small_image) (small_plan 14)
  -- a longer run path, up to the last byte before the dynamic list
  pub longer : IsPlan (small_run_path (codes "/a:/b")) (small_plan 17)
  pub longest : IsPlan (small_run_path (replicate 52 120)) (small_plan 64)
  -- a run path that ends another text
  pub shared : IsPlan (small_run_path (codes ".6")) (small_plan 11)
  -- without a run path the strings are copied; with another text in place of one they aren't
  pub copied : IsPlan (small_with (Text 1 (codes "libc.so.6") ∷ Auto 5 ∷ Auto 10 ∷ [])) (small_plan 14)
  pub renamed : IsPlan small_renamed (small_plan 6)
  -- one byte more
  pub moves : IsPlan (small_run_path (replicate 53 120)) (moved_plan 65 385 416)
  -- an entry more takes the list past the end of memory
  pub list_grows : IsOverlapping small_named
  -- strings that were empty have no room where they stood
  pub from_nothing : IsPlan small_empty_named (moved_plan 3 323 352)
  -- the table of four program headers would reach into the dynamic list
  pub stack : IsOverlapping small_stack

pub record SectionRows : Type 0 where
  -- what isn't loaded closes up, the names are copied, and the last section is still the section of names
  pub closes_up : IsPlan small_without_note (record (small_plan 14) {
    places = no_place ∷ place 3 2 176 176 14 ∷ place 6 3 240 240 80 ∷ place 3 0 0 320 37 ∷ [];
    e_shoff = 360;
  })
  -- an empty section ends up where the content does
  pub empty_last : IsPlan small_marked_again (record (small_plan 14) {
    places = no_place ∷ place 3 2 176 176 14 ∷ place 6 3 240 240 80 ∷ place 1 2 4096 354 0 ∷ place 3 0 0 320 34 ∷ [];
    e_shoff = 360;
  })
  -- the reserved section without bytes stays at the file's start, whatever type and alignment it has
  pub reserved_stays : IsPlan (small_damaged_again 0) (record (small_plan 14) {
    places = place 1 0 0 0 0 ∷ place 3 2 176 176 14 ∷ place 6 3 240 240 80 ∷ place 3 0 0 320 28 ∷ [];
  })
  -- with bytes the reserved section is placed behind the segments, as any that isn't loaded
  pub reserved_with_bytes : IsPlan (small_damaged_again 5) (record (small_plan 14) {
    places = place 1 0 0 4096 5 ∷ place 3 2 176 176 14 ∷ place 6 3 240 240 80 ∷ place 3 0 0 4101 28 ∷ [];
    e_shoff = 4136;
  })
