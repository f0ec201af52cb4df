-- The sections that are there, each at its position, with the number that it was read at; these numbers rise.
use Rattle.std.proofs.Common.{◌≡◌, ◌<◌, ◌≤◌, ℕ, zero, suc, ◌+◌, ◌-◌, List, [], ◌∷◌, length, refl, ap, ◌∙◌, inl, inr, Option, Some, None, arith}
use Rattle.std.specs.Prelude.{◌==◌, slice_index}
use Rattle.std.specs.List.{slice_get}
use Rattle.std.proofs.lemmas.Bool.{cases_order, eq-eqb, eqb-true, ne_eqb}
use Rattle.std.proofs.lemmas.Option.{get_or_from_slice_get, none-some, same_Some, slice_get-get_or, slice_get_within}
use Rattle.elf_format.specs.Image.{Image, ImageSection, counted}
use Rattle.elf_format.proofs.ForCallers.Lengths.{length-counted, slice_index-counted}
use Rattle.elf_image.specs.Kept.{KeptSection, kept_at_number, kept_from, kept_sections}
use Rattle.elf_image.proofs.ForCallers.KeptSections as sections_kept
use Rattle.elf_layout_plan.proofs.ForCallers.ApartLists.{find-at}
use Rattle.elf_layout_plan.proofs.ForCallers.ApartSections.{kept-at as kept-parts}
use Rattle.elf_write_spec.specs.Final.{new_number}
use Rattle.elf_write_spec.proofs.WholeLists.{find-is}

-- the section at a position, with its number
abbrev pub kept_as : ℕ → ℕ → ImageSection → KeptSection
kept_as i n s = record { position = i; number = n; section = s }

-- ## Numbers that rise

abbrev pub AreRising : List ℕ → Type 0
AreRising ns = (i j : ℕ) → i < j → j < length ns → slice_index ns i < slice_index ns j

-- none of the numbers that rise is less than its position
pub number_behind : (ns : List ℕ) → AreRising ns → (i : ℕ) → i < length ns → i ≤ slice_index ns i
number_behind ns rising zero less = omega arith
number_behind ns rising (suc i) less =
    let before : i ≤ slice_index ns i = number_behind ns rising i (omega (arith, less)) in
    omega (arith, before, rising i (suc i) (omega arith) less)

-- each of the numbers that rise stands once
pub one_position : (ns : List ℕ) → AreRising ns → (i j n : ℕ) → slice_get ns i ≡ Some n → slice_get ns j ≡ Some n → i ≡ j
one_position ns rising i j n at_i at_j = elim (cases_order i j) [
  | inl same ↦ same
  | inr other ↦ elim other [
    | inl less ↦ absurd (omega (
      arith,
      rising i j less (slice_get_within ns j n at_j),
      get_or_from_slice_get ns i n 0 at_i,
      get_or_from_slice_get ns j n 0 at_j,
    ))
    | inr more ↦ absurd (omega (
      arith,
      rising j i more (slice_get_within ns i n at_i),
      get_or_from_slice_get ns i n 0 at_i,
      get_or_from_slice_get ns j n 0 at_j,
    ))
  ]
]

-- where there are as many as there are numbers below a bound, each of these is there, at its own position
rise_by : (ns : List ℕ) → AreRising ns → (i k : ℕ) → i + k < length ns → slice_index ns i + k ≤ slice_index ns (i + k)
rise_by ns rising i zero less =
    let here : slice_index ns (i + 0) ≡ slice_index ns i = ap (slice_index ns) (omega arith) in
    omega (arith, here)
rise_by ns rising i (suc k) less =
    let before : slice_index ns i + k ≤ slice_index ns (i + k) = rise_by ns rising i k (omega (arith, less)) in
    omega (arith, before, rising (i + k) (i + suc k) (omega arith) less)

pub each_there : (ns : List ℕ) (count : ℕ) → AreRising ns → ((i n : ℕ) → slice_get ns i ≡ Some n → n < count) → length ns ≡ count
    → (i : ℕ) → i < count → slice_get ns i ≡ Some i
each_there ns count rising below many i less =
    let last : ℕ = slice_index ns (i + (count - 1 - i)) in
    let inside : i + (count - 1 - i) < length ns = omega (arith, less, many) in
    let ends : last < count = below (i + (count - 1 - i)) last (slice_get-get_or ns (i + (count - 1 - i)) 0 inside) in
    let here : i < length ns = omega (arith, less, many) in
    let same : slice_index ns i ≡ i =
    omega (arith, number_behind ns rising i here, rise_by ns rising i (count - 1 - i) inside, ends, less) in
    slice_get-get_or ns i 0 here ∙ ap (λ (n : ℕ). Some n) same

-- the numbers below a number rise
pub counted_rise : (n : ℕ) → AreRising (counted n)
counted_rise n i j less within =
    let below : j < n = omega (arith, within, length-counted n) in
    omega (arith, slice_index-counted n i (omega (arith, less, below)), slice_index-counted n j below, less)

-- ## Each section at its position

at_from : (p : ℕ) (ns : List ℕ) (ss : List ImageSection) (i n : ℕ) (s : ImageSection) → slice_get ns i ≡ Some n → slice_get ss i ≡ Some s
    → slice_get (kept_from p ns ss) i ≡ Some (kept_as (p + i) n s)
at_from p [] ss i n s n_at s_at = absurd (none-some n n_at)
at_from p (m ∷ ns) [] i n s n_at s_at = absurd (none-some s s_at)
at_from p (m ∷ ns) (t ∷ ss) zero n s n_at s_at =
    ap (λ (k : ℕ). Some (kept_as p k t)) (same_Some m n n_at) ∙ ap (λ (x : ImageSection). Some (kept_as p n x)) (same_Some t s s_at)
    ∙ ap (λ (k : ℕ). Some (kept_as k n s)) (omega arith)
at_from p (m ∷ ns) (t ∷ ss) (suc i) n s n_at s_at =
    at_from (p + 1) ns ss i n s n_at s_at ∙ ap (λ (k : ℕ). Some (kept_as k n s)) (omega arith)

-- the number of a section that is there is its position; another number stays
pub new-there : (image : Image) (n : ℕ) (k : KeptSection) → kept_at_number n image ≡ Some k → new_number image n ≡ k.position
new-there image n k is = ap (λ (o : Option KeptSection). elim o as (λ _. ℕ) [ Some s ↦ s.position | None ↦ n ]) is

pub new-gone : (image : Image) (n : ℕ) → kept_at_number n image ≡ None → new_number image n ≡ n
new-gone image n is = ap (λ (o : Option KeptSection). elim o as (λ _. ℕ) [ Some s ↦ s.position | None ↦ n ]) is

module _ (image : Image) (as_many : length image.section_numbers ≡ length image.sections) where
  pub length-kept : length (kept_sections image) ≡ length image.sections
  length-kept = sections_kept.length-kept image as_many

  -- the section at a position
  pub kept-at : (i n : ℕ) (s : ImageSection) → slice_get image.section_numbers i ≡ Some n → slice_get image.sections i ≡ Some s
      → slice_get (kept_sections image) i ≡ Some (kept_as i n s)
  kept-at i n s n_at s_at =
      at_from 0 image.section_numbers image.sections i n s n_at s_at ∙ ap (λ (k : ℕ). Some (kept_as k n s)) (omega arith)

  -- what is known of it
  pub kept_has : (i : ℕ) (k : KeptSection) → slice_get (kept_sections image) i ≡ Some k
      → (k.position ≡ i) × (slice_get image.section_numbers i ≡ Some k.number) × (slice_get image.sections i ≡ Some k.section)
  kept_has i k at =
      let (position, number, section) = kept-parts 0 image.section_numbers image.sections i k at in
      (omega (arith, position), number, section)

module _ (image : Image) (as_many : length image.section_numbers ≡ length image.sections) (rising : AreRising image.section_numbers) where
  -- the one that was read at a number
  pub kept_is : (i : ℕ) (k : KeptSection) → slice_get (kept_sections image) i ≡ Some k → kept_at_number k.number image ≡ Some k
  kept_is i k at =
      find-is (λ s. s.number == k.number) (kept_sections image) i k at (eq-eqb k.number k.number refl) (λ j x less x_at.
      let (_, x_number, _) = kept_has image as_many j x x_at in
      let (_, k_number, _) = kept_has image as_many i k at in
      ne_eqb x.number k.number (λ same.
      let one : j ≡ i = one_position image.section_numbers rising j i k.number (x_number ∙ ap (λ (n : ℕ). Some n) same) k_number in
      omega (arith, one, less)))

  pub kept_found : (n : ℕ) (k : KeptSection) → kept_at_number n image ≡ Some k
      → (slice_get (kept_sections image) k.position ≡ Some k) × (k.number ≡ n)
  kept_found n k is =
      let (i, at, passes) = find-at (λ s. s.number == n) (kept_sections image) k is in
      let (position, _, _) = kept_has image as_many i k at in
      (ap (slice_get (kept_sections image)) position ∙ at, eqb-true k.number n passes)
