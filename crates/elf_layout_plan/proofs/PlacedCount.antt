-- How many program headers are written.
use Rattle.std.proofs.Common.{◌≡◌, ◌≤◌, ℕ, ◌+◌, Bool, true, false, cond, List, [], ◌∷◌, ◌++◌, map, length, refl, sym, ◌∙◌, subst, Option, Some, None, arith}
use Rattle.std.specs.Prelude.{◌&&◌, not, filter, if◌then◌else◌, slice_get}
use Rattle.std.specs.List.{cons_option, flat_map, list_any}
use Rattle.std.proofs.lemmas.Bool.{both_ways, cond-false, false_from_ne_true, or_right}
use Rattle.std.proofs.lemmas.List.{length-append, length-map}
use Rattle.std.proofs.lemmas.List.Sums.{length-filter}
use Rattle.elf_format.specs.declared.records.SegmentHeader.{SegmentHeader}
use Rattle.elf_format.specs.Places.{Place}
use Rattle.elf_layout_plan.specs.Added.{added_loads, header_count}
use Rattle.elf_layout_plan.specs.Anchors.{HeaderTable, Itself, Anchor, Notes, OneSection, is_moved, is_parted, is_split, anchor_of, moved_notes, staying_notes}
use Rattle.elf_tables.specs.Kept.{KeptSection}
use Rattle.elf_layout_plan.specs.Memory.{Resized}
use Rattle.elf_layout_plan.specs.Rounds.{headers_needed}
use Rattle.elf_layout_plan.specs.Standing.{places}
use Rattle.elf_layout_plan.specs.Written.{Target, anchored_to, places_of_kept, resized_table, target_at, targets_of, targets_of_notes, targets_over, written_from, written_segments}
use Rattle.elf_layout_plan.proofs.PlacedLists.{any-from, has_here}
use Rattle.elf_layout_plan.proofs.PlacedAdded.{length-added}
use Rattle.elf_layout_plan.proofs.PlacedWritten.{headers_added, length-behind}

-- one more where a test passes
abbrev one_if : Bool → ℕ
one_if b = cond b 1 0

none_kept : {A : Type 0} (test : A → Bool) (xs : List A) → list_any test xs ≡ false → filter test xs ≡ []
none_kept test [] h = refl
none_kept test (x ∷ xs) h =
    cond-false (test x) (x ∷ filter test xs) (filter test xs)
    (false_from_ne_true (test x) (λ e. both_ways (list_any test (x ∷ xs)) h (any-from test (x ∷ xs) x (has_here x xs) e)))
    ∙ none_kept test xs (false_from_ne_true (list_any test xs) (λ e. both_ways (list_any test (x ∷ xs)) h (later e)))
  where
    later : list_any test xs ≡ true → list_any test (x ∷ xs) ≡ true
    later e = or_right (test x) (list_any test xs) e

-- several places give one target
length-over : (all : List Place) → length (targets_over all) ≤ 1
length-over [] = omega arith
length-over (s ∷ ss) = omega arith

pub length-one : (o : Option Place) → length (map target_at (cons_option o [])) ≤ 1
length-one None = omega arith
length-one (Some s) = omega arith

notes_by : (moved : List ℕ) (all : List Place) (notes : List KeptSection) (a : Bool) → list_any (is_moved moved) notes ≡ a
    → (b : Bool) → list_any (λ s. not (is_moved moved s)) notes ≡ b
    → length (if a then targets_over (places_of_kept all (staying_notes moved notes)) ++ targets_over
    (places_of_kept all (moved_notes moved notes)) else []) ≤ 1 + one_if (a && b)
notes_by moved all notes false some b stay = omega arith
notes_by moved all notes true some true stay =
    let first : List Target = targets_over (places_of_kept all (staying_notes moved notes)) in
    let last : List Target = targets_over (places_of_kept all (moved_notes moved notes)) in
    omega (
      arith,
      length-append first last,
      length-over (places_of_kept all (staying_notes moved notes)),
      length-over
          (places_of_kept all (moved_notes moved notes)),
    )
notes_by moved all notes true some false stay =
    let last : List Target = targets_over (places_of_kept all (moved_notes moved notes)) in
    let none : staying_notes moved notes ≡ [] = none_kept (λ s. not (is_moved moved s)) notes stay in
    subst (λ (l : List KeptSection). length (targets_over (places_of_kept all l) ++ last) ≤ 1 + one_if (true && false)) (sym none)
    (omega (arith, length-over (places_of_kept all (moved_notes moved notes))))

module _ (r : Resized) (moved : List ℕ) where
  targets_by : (anchor : Anchor) → length (elim anchor as (λ _. List Target) [
    | Itself ↦ []
    | HeaderTable ↦ []
    | OneSection s ↦ map target_at (places_of_kept (places r moved) (s ∷ []))
    | Notes notes ↦ targets_of_notes moved (places r moved) notes
  ]) ≤ 1 + one_if (is_parted moved anchor)
  targets_by Itself = omega arith
  targets_by HeaderTable = omega arith
  targets_by (OneSection s) = length-one (slice_get (places r moved) s.position)
  targets_by (Notes notes) = notes_by moved (places r moved) notes (list_any (is_moved moved) notes) refl
      (list_any (λ s. not (is_moved moved s)) notes) refl

  length-targets : (p : SegmentHeader) → length (targets_of r moved p) ≤ 1 + one_if (is_split r moved p)
  unfolding targets_of is_split
  length-targets p = targets_by (anchor_of r.read r.image p)

  written_by : (p : SegmentHeader) (n : ℕ) (targets : List Target) → length targets ≤ 1 + n
      → length (elim targets as (λ _. List SegmentHeader) [ [] ↦ resized_table r moved p ∷ [] | t ∷ ts ↦ map (anchored_to r.image.form p) (t ∷ ts) ]) ≤ 1 + n
  written_by p n [] h = omega arith
  written_by p n (t ∷ ts) h = omega (arith, length-map (t ∷ ts) (anchored_to r.image.form p), h)

  length-from : (p : SegmentHeader) → length (written_from r moved p) ≤ 1 + one_if (is_split r moved p)
  length-from p = written_by p (one_if (is_split r moved p)) (targets_of r moved p) (length-targets p)

  length-if : (p : SegmentHeader) (ps : List SegmentHeader) (b : Bool) → length (cond b (p ∷ ps) ps) ≡ one_if b + length ps
  length-if p ps true = omega arith
  length-if p ps false = omega arith

  length-base : (ps : List SegmentHeader) → length (flat_map (written_from r moved) ps) ≤ length ps + length (filter (is_split r moved) ps)
  length-base [] = omega arith
  length-base (p ∷ ps) = omega (
    arith,
    length-append (written_from r moved p) (flat_map (written_from r moved) ps),
    length-base ps,
    length-from p,
    length-if p (filter (is_split r moved) ps) (is_split r moved p),
  )

  -- as many program headers are written as the image has, and as the sections that move need, or fewer
  pub length-written : length (written_segments r moved) ≤ header_count r moved
  unfolding written_segments headers_needed
  length-written =
      let base : List SegmentHeader = flat_map (written_from r moved) r.image.segments in
      omega (
        arith,
        length-behind (headers_added r moved) base,
        length-base r.image.segments,
        length-filter (is_split r moved) r.image.segments,
        length-map (added_loads r moved) (λ load. load.header),
        length-added r moved,
      )
