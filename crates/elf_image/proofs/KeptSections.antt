-- The sections of an image, with the numbers that they had at read.
use Rattle.std.proofs.Common.{◌≡◌, inl, inr, ℕ, suc, ◌+◌, ◌∙◌, List, [], ◌∷◌, Bool, true, false, Option, Some, None, length, refl, sym, ap, arith, get_or, zero, ◌<◌}
use Rattle.std.specs.Prelude.{find, position, nat_lt, not, slice_index, ◌==◌, if◌then◌else◌}
use Rattle.std.specs.Option.{option_map}
use Rattle.std.specs.List.{position_or_len}
use Rattle.std.proofs.lemmas.Bool.{cases_lt, lt-ltb, le-ltb}
use Rattle.patch_bytes.specs.Memory.{◌>>=◌}
use Rattle.elf_format.specs.Image.{Image, ImageSection}
use Rattle.elf_format.specs.declared.constants.TheConstants.{PT_INTERP}
use Rattle.elf_format.specs.declared.records.SegmentHeader.{SegmentHeader}
use Rattle.elf_format.specs.File.{segment_of_type}
use Rattle.elf_image.specs.Edited.{IsEdited}
use Rattle.elf_image.specs.Lookups.{interpreter_position}
use Rattle.elf_image.specs.Kept.{KeptSection, interpreter_number, kept_from, kept_sections, link_in_sections, link_of_type, stands_as_interpreter}

-- as many numbers as sections
pub as_many : (image : Image) → IsEdited image → length image.section_numbers ≡ length image.sections
as_many image is = is.is_edit.sections.numbered

-- a search by the section alone comes to the same section
found_by : (b : Bool) (k : KeptSection) (rest : Option KeptSection) (other : Option ImageSection) → (rest >>= λ s. Some s.section.sh_link) ≡ (other >>= λ s. Some s.sh_link)
    → ((if b then Some k else rest) >>= λ s. Some s.section.sh_link) ≡ ((if b then Some k.section else other) >>= λ s. Some s.sh_link)
found_by true k rest other same = refl
found_by false k rest other same = same

link_kept : (type position : ℕ) (numbers : List ℕ) (sections : List ImageSection) → length numbers ≡ length sections
    → (find (λ s. s.section.sh_type == type) (kept_from position numbers sections) >>= λ s. Some s.section.sh_link) ≡ link_in_sections type sections
link_kept type position [] [] same = refl
link_kept type position [] (s ∷ ss) same = absurd (omega arith)
link_kept type position (n ∷ ns) [] same = absurd (omega arith)
link_kept type position (n ∷ ns) (s ∷ ss) same =
    found_by (s.sh_type == type) (record { position = position; number = n; section = s }) (find (λ k. k.section.sh_type == type) (kept_from (position + 1) ns ss))
    (find (λ x. x.sh_type == type) ss) (link_kept type (position + 1) ns ss (omega arith))

-- the link of the first section of a type, by the sections alone
pub link_by_sections : (type : ℕ) (image : Image) → IsEdited image → link_of_type type image ≡ link_in_sections type image.sections
link_by_sections type image is = link_kept type 0 image.section_numbers image.sections (as_many image is)

-- ## The interpreter's section

-- the place in a list that goes on
place_on : (b : Bool) (k n : ℕ)
    → (if nat_lt (if not b then 1 + k else 0) (suc n) then Some (if not b then 1 + k else 0) else None) ≡ (if b then Some 0 else option_map (λ i. suc i) (if nat_lt k n then Some k else None))
place_on true k n = ap (λ (t : Bool). if t then Some 0 else None) (lt-ltb 0 (suc n) (omega arith))
place_on false k n =
    let next : 1 + k ≡ suc k = omega arith in
    elim (cases_lt k n) [
      | inl less ↦
          ap (λ (t : Bool). if t then Some (1 + k) else None) (lt-ltb (1 + k) (suc n) (omega arith)) ∙ ap (λ i. Some i) next
          ∙ sym (ap (λ (t : Bool). option_map (λ i. suc i) (if t then Some k else None)) (lt-ltb k n less))
      | inr past ↦
          ap (λ (t : Bool). if t then Some (1 + k) else None) (le-ltb (1 + k) (suc n) (omega arith))
          ∙ sym (ap (λ (t : Bool). option_map (λ i. suc i) (if t then Some k else None)) (le-ltb k n past))
    ]

position_on : (test : ImageSection → Bool) (s : ImageSection) (ss : List ImageSection) → position test (s ∷ ss) ≡ (if test s then Some 0 else option_map (λ i. suc i) (position test ss))
position_on test s ss = place_on (test s) (position_or_len test ss) (length ss)

step_by : (b : Bool) (k : KeptSection) (rest : Option KeptSection) (ns : List ℕ) (other : Option ℕ) → (rest >>= λ s. Some s.number) ≡ (other >>= λ i. Some (slice_index ns i))
    → ((if b then Some k else rest) >>= λ s. Some s.number) ≡ ((if b then Some 0 else option_map (λ i. suc i) other) >>= λ i. Some (slice_index (k.number ∷ ns) i))
step_by true k rest ns other same = refl
step_by false k rest ns None same = same
step_by false k rest ns (Some i) same = same

number_kept : (test : ImageSection → Bool) (at : ℕ) (numbers : List ℕ) (sections : List ImageSection) → length numbers ≡ length sections
    → (find (λ s. test s.section) (kept_from at numbers sections) >>= λ s. Some s.number) ≡ (position test sections >>= λ i. Some (slice_index numbers i))
number_kept test at [] [] same = refl
number_kept test at [] (s ∷ ss) same = absurd (omega arith)
number_kept test at (n ∷ ns) [] same = absurd (omega arith)
number_kept test at (n ∷ ns) (s ∷ ss) same =
    step_by (test s) (record { position = at; number = n; section = s }) (find (λ k. test k.section) (kept_from (at + 1) ns ss)) ns (position test ss)
    (number_kept test (at + 1) ns ss (omega arith))
    ∙ ap (λ (o : Option ℕ). o >>= λ i. Some (slice_index (n ∷ ns) i)) (sym (position_on test s ss))

-- the number of the interpreter's section, by where it stands
pub number_by_position : (read : Image) → IsEdited read → interpreter_number read ≡ (interpreter_position read >>= λ i. Some (slice_index read.section_numbers i))
number_by_position read is = by_segment (segment_of_type PT_INTERP read.segments)
  where
    by_segment : (o : Option SegmentHeader)
        → (o >>= λ p. find (λ s. stands_as_interpreter p s.section) (kept_sections read) >>= λ s. Some s.number)
        ≡ ((o >>= (λ p. position (stands_as_interpreter p) read.sections)) >>= λ i. Some (slice_index read.section_numbers i))
    by_segment None = refl
    by_segment (Some p) = number_kept (stands_as_interpreter p) 0 read.section_numbers read.sections (as_many read is)

-- ## Each at its position

kept_from-at : (k : ℕ) (ns : List ℕ) (ss : List ImageSection) (i : ℕ) (d : KeptSection) (s : ImageSection) → i < length ns → i < length ss
    → get_or (kept_from k ns ss) i d ≡ record { position = k + i; number = slice_index ns i; section = get_or ss i s }
kept_from-at k [] ss i d s h g = absurd (omega (arith, h))
kept_from-at k (n ∷ ns) [] i d s h g = absurd (omega (arith, g))
kept_from-at k (n ∷ ns) (t ∷ ss) zero d s h g =
    let e : k ≡ k + 0 = omega arith in
    ap (λ (j : ℕ). record { position = j; number = n; section = t }) e
kept_from-at k (n ∷ ns) (t ∷ ss) (suc i) d s h g =
    let e : k + 1 + i ≡ k + suc i = omega arith in
    kept_from-at (k + 1) ns ss i d s (omega (arith, h)) (omega (arith, g))
    ∙ ap (λ (j : ℕ). record { position = j; number = slice_index ns i; section = get_or ss i s }) e

pub kept-at : (image : Image) (i : ℕ) (d : KeptSection) (s : ImageSection) → length image.section_numbers ≡ length image.sections → i < length image.sections
    → get_or (kept_sections image) i d ≡ record { position = i; number = slice_index image.section_numbers i; section = get_or image.sections i s }
kept-at image i d s long h =
    let e : 0 + i ≡ i = omega arith in
    kept_from-at 0 image.section_numbers image.sections i d s (omega (arith, long, h)) h
    ∙ ap (λ (j : ℕ). record { position = j; number = slice_index image.section_numbers i; section = get_or image.sections i s }) e

length-kept_from : (k : ℕ) (ns : List ℕ) (ss : List ImageSection) → length ns ≡ length ss → length (kept_from k ns ss) ≡ length ss
length-kept_from k [] [] e = refl
length-kept_from k [] (t ∷ ss) e = e
length-kept_from k (n ∷ ns) [] e = refl
length-kept_from k (n ∷ ns) (t ∷ ss) e = ap suc (length-kept_from (k + 1) ns ss (omega (arith, e)))

pub length-kept : (image : Image) → length image.section_numbers ≡ length image.sections → length (kept_sections image) ≡ length image.sections
length-kept image long = length-kept_from 0 image.section_numbers image.sections long
