-- A plan: where everything of an edited image goes.
use Rattle.std.specs.Prelude.{ℕ, ◌+◌, ◌≡◌, List, [], ◌∷◌, length, Bool, ◌&&◌, not, IsTrue, count_by, nat_lt}
use Rattle.std.specs.List.{list_all}
use Rattle.elf_format.specs.declared.constants.TheConstants.{PN_XNUM, SHN_LORESERVE}
use Rattle.elf_format.specs.File.{is_loaded}
use Rattle.elf_format.specs.declared.form.Form.{Form}
use Rattle.elf_format.specs.Image.{Image}
use Rattle.elf_format.specs.declared.records.SegmentHeader.{SegmentHeader}
use Rattle.elf_format.specs.Places.{Place}
use Rattle.elf_tables.specs.Kept.{image_at_read}
use Rattle.elf_layout_plan.specs.Memory.{Resized}
use Rattle.elf_layout_plan.specs.Rounds.{AreRounds, is_stuck_with, leads_to}
use Rattle.elf_layout_plan.specs.Sizes.{fits_field, new_sizes}
use Rattle.elf_layout_plan.specs.Standing.{places, sections_offset, table_offset}
use Rattle.elf_layout_plan.specs.Written.{written_segments}

-- The place of each section, the program headers, where the two header tables stand; how many rounds it took, and how many program
-- headers more the last of them looked with, which may be more than are written.
pub record Plan : Type 0 where
  pub places : List Place
  pub segments : List SegmentHeader
  pub e_phoff : ℕ
  pub e_shoff : ℕ
  pub rounds : ℕ
  pub looked : ℕ

-- the image with its new sizes
abbrev pub resized : Image → Resized
resized image =
    let read = image_at_read image in
    record { read = read; image = image; sizes = new_sizes read image }

-- what follows from the sections that move
unfoldable pub plan_for : Resized → ℕ → ℕ → List ℕ → Plan
plan_for r rounds looked moved = record {
  places = places r moved;
  segments = written_segments r moved;
  e_phoff = table_offset r moved;
  e_shoff = sections_offset r moved;
  rounds = rounds;
  looked = looked;
}

-- ## Limits

abbrev pub does_place_fit : Form → Place → Bool
does_place_fit form s = list_all (fits_field form) (s.sh_addr ∷ s.sh_offset ∷ s.sh_size ∷ [])

abbrev pub does_segment_fit : Form → SegmentHeader → Bool
does_segment_fit form p =
    list_all (fits_field form) (p.p_offset ∷ p.p_vaddr ∷ p.p_paddr ∷ p.p_filesz ∷ p.p_memsz ∷ p.p_align ∷ [])

-- Each number fits its field, and there are no more sections and program headers than plain numbering has (gABI, ELF Header,
-- e_phnum and e_shnum).
unfoldable pub does_plan_fit : Form → Plan → Bool
does_plan_fit form plan =
    list_all (does_place_fit form) plan.places && list_all (does_segment_fit form) plan.segments
    && fits_field form plan.e_phoff && fits_field form plan.e_shoff
    && nat_lt (length plan.segments) PN_XNUM && nat_lt (length plan.places) SHN_LORESERVE

-- ## Plans and refusals

-- A plan for an image: rounds came to an end, what follows from the sections that move is the plan, and every number fits.
pub record IsPlan (r : Resized) (plan : Plan) : Type 0 where
  pub before : List (List ℕ)
  pub moved : List ℕ
  pub ended : AreRounds r before plan.looked moved
  pub counted : plan.rounds ≡ length before + 1
  pub follows : plan ≡ plan_for r plan.rounds plan.looked moved
  pub fits : IsTrue (does_plan_fit r.image.form plan)

-- There is no plan, since rounds lead to a number of entries with which two blocks overlap that can't move.
pub record IsOverlapping (r : Resized) : Type 0 where
  pub before : List (List ℕ)
  pub looked : ℕ
  pub lead : IsTrue (leads_to r 0 before looked)
  pub stuck : IsTrue (is_stuck_with r looked)

-- There is no plan, since rounds came to an end, and a number of what follows doesn't fit.
pub record IsTooLarge (r : Resized) : Type 0 where
  pub before : List (List ℕ)
  pub moved : List ℕ
  pub looked : ℕ
  pub ended : AreRounds r before looked moved
  pub too_large : IsTrue (not (does_plan_fit r.image.form (plan_for r (length before + 1) looked moved)))

-- as many program headers as aren't loaded, and four more: each of them may be split, and there are four sets of flags
abbrev pub most_added : Image → ℕ
most_added image = count_by (λ p. not (is_loaded p)) image.segments + 4
