-- Sections with their sizes: each has a position of its own.
use Rattle.std.proofs.Common.{◌≡◌, ◌≤◌, ◌<◌, ℕ, zero, suc, ◌+◌, List, [], ◌∷◌, ap, ◌∙◌, subst, inl, inr, Some, arith}
use Rattle.std.specs.List.{slice_get}
use Rattle.elf_format.specs.Image.{ImageSection}
use Rattle.elf_tables.specs.Kept.{KeptSection, kept_from, kept_sections}
use Rattle.elf_layout_plan.specs.Memory.{Resized, SizedSection, sized_from, sized_sections}
use Rattle.elf_layout_plan.proofs.PlacedLists.{Has, Pairs, has_cases, has_here, has_none, has_there, pairs-first, pairs-more, pairs-none, pairs-rest, pairs-two}
use Rattle.elf_layout_plan.proofs.PlacedRead.{kept_at}

sized_kept : (ks : List KeptSection) (sizes : List ℕ) (s : SizedSection) → Has s (sized_from ks sizes) → Has s.kept ks
sized_kept [] sizes s h = absurd (has_none s h)
sized_kept (k ∷ ks) [] s h = absurd (has_none s h)
sized_kept (k ∷ ks) (n ∷ ns) s h = elim (has_cases s (record { kept = k; size = n }) (sized_from ks ns) h) [
  | inl same ↦ subst (λ (x : SizedSection). Has x.kept (k ∷ ks)) same (has_here k ks)
  | inr later ↦ has_there s.kept k ks (sized_kept ks ns s later)
]

-- a section with its size is one that is there
pub is_kept : (r : Resized) (s : SizedSection) → Has s (sized_sections r) → Has s.kept (kept_sections r.image)
is_kept r s h = sized_kept (kept_sections r.image) r.sizes s h

abbrev pub IsBefore : SizedSection → SizedSection → Type 0
IsBefore s t = s.kept.position < t.kept.position

kept_ordered : (n : ℕ) (ns : List ℕ) (ss : List ImageSection) → Pairs (λ k l. k.position < l.position) (kept_from n ns ss)
kept_ordered n [] ss = pairs-none (λ k l. k.position < l.position)
kept_ordered n (m ∷ ms) [] = pairs-none (λ k l. k.position < l.position)
kept_ordered n (m ∷ ms) (s ∷ ss) =
    pairs-more (λ k l. k.position < l.position) (record { position = n; number = m; section = s }) (kept_from (n + 1) ms ss)
    (λ k here. let at : n + 1 ≤ k.position = omega (arith, (kept_at (n + 1) ms ss k here).position) in omega arith) (kept_ordered (n + 1) ms ss)

sized_ordered : (ks : List KeptSection) (sizes : List ℕ) → Pairs (λ k l. k.position < l.position) ks → Pairs IsBefore (sized_from ks sizes)
sized_ordered [] sizes h = pairs-none IsBefore
sized_ordered (k ∷ ks) [] h = pairs-none IsBefore
sized_ordered (k ∷ ks) (n ∷ ns) h =
    pairs-more IsBefore (record { kept = k; size = n }) (sized_from ks ns)
    (λ s here. pairs-first (λ x y. x.position < y.position) k ks h s.kept (sized_kept ks ns s here))
    (sized_ordered ks ns (pairs-rest (λ x y. x.position < y.position) k ks h))

-- the sections stand in the order of their positions
pub ordered : (r : Resized) → Pairs IsBefore (sized_sections r)
ordered r = sized_ordered (kept_sections r.image) r.sizes (kept_ordered 0 r.image.section_numbers r.image.sections)

-- two with one position are one
pub same_section : (r : Resized) (s t : SizedSection) → Has s (sized_sections r) → Has t (sized_sections r)
    → s.kept.position ≡ t.kept.position → s ≡ t
same_section r s t s_here t_here e = elim (pairs-two IsBefore (sized_sections r) (ordered r) s t s_here t_here) [
  | inl same ↦ same
  | inr (inl less) ↦ absurd (omega (arith, less, e))
  | inr (inr more) ↦ absurd (omega (arith, more, e))
]

-- each is found at its position
record IsAt (n : ℕ) (all : List SizedSection) (s : SizedSection) : Type 0 where
  index : ℕ
  position : s.kept.position ≡ n + index
  there : slice_get all index ≡ Some s

found_at : (n : ℕ) (ns : List ℕ) (ss : List ImageSection) (sizes : List ℕ) (s : SizedSection) → Has s (sized_from (kept_from n ns ss) sizes)
    → IsAt n (sized_from (kept_from n ns ss) sizes) s
found_at n [] ss sizes s h = absurd (has_none s h)
found_at n (m ∷ ms) [] sizes s h = absurd (has_none s h)
found_at n (m ∷ ms) (x ∷ xs) [] s h = absurd (has_none s h)
found_at n (m ∷ ms) (x ∷ xs) (size ∷ sizes) s h =
    elim (has_cases s (record { kept = record { position = n; number = m; section = x }; size = size })
    (sized_from (kept_from (n + 1) ms xs) sizes) h) [
      | inl same ↦ record {
        index = zero;
        position = omega (arith, ap (λ (y : SizedSection). y.kept.position) same);
        there = ap (λ (y : SizedSection). Some y) same;
      }
      | inr later ↦
          let more = found_at (n + 1) ms xs sizes s later in
          record { index = suc more.index; position = omega (arith, more.position); there = more.there }
    ]

pub at_position : (r : Resized) (s : SizedSection) → Has s (sized_sections r) → slice_get (sized_sections r) s.kept.position ≡ Some s
at_position r s h =
    let at = found_at 0 r.image.section_numbers r.image.sections r.sizes s h in
    let e : s.kept.position ≡ at.index = omega (arith, at.position) in
    ap (λ (i : ℕ). slice_get (sized_sections r) i) e ∙ at.there
