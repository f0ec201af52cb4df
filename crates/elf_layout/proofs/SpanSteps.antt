-- Places of sections joined in any order are those that are found section by section.
use Rattle.std.proofs.Common.{◌≡◌, ℕ, ◌+◌, ◌-◌, ◌<◌, ◌≤◌, max, Bool, true, false, ◌&&◌, ◌||◌, cond, List, [], ◌∷◌, map, refl, sym, ap, ◌∙◌, subst, Option, Some, None, option_map, arith}
use Rattle.std.specs.Prelude.{filter, fold, if◌then◌else◌, nat_lt, ◌==◌, IsPermutation}
use Rattle.std.specs.List.{slice_get}
use Rattle.std.proofs.lemmas.Bool.{le-ltb, true≢false}
use Rattle.std.proofs.lemmas.List.Sorted.{IsPermutation-map}
use Rattle.elf_format.specs.Image.{Image, ImageSection}
use Rattle.elf_format.specs.Places.{Place, file_range}
use Rattle.elf_format.specs.Ranges.{end_of, range}
use Rattle.elf_format.specs.declared.range.Range.{Range}
use Rattle.elf_image.specs.Kept.{kept_from}
use Rattle.elf_layout_plan.specs.Written.{Target, address_in_memory, target_at}
use Rattle.elf_layout_segments.specs.declared.starts.Begin.{Begin}
use Rattle.elf_layout_segments.specs.SplitCounts.{chosen_begins, is_chosen}
use Rattle.elf_layout_segments.specs.InOrder.{is_in}
use Rattle.elf_layout_segments.specs.Sections.{has_bytes_at, section_at, indexed_sections}
use Rattle.elf_layout.specs.declared.reaches.Reach.{Reach}
use Rattle.elf_layout.specs.Reaches.{is_before, joined, reach_at, reach_in, reach_of_place}
use Rattle.elf_layout.specs.Targets.{Span, span_of, span_over, target_of_span}
use Rattle.elf_layout.proofs.ReachLaws.{joined_all-permutation}

-- ## Section by section

-- one place more
abbrev pub span_with : Option Span → Place → Option Span
span_with None t = Some (record { first = t; end = end_of (file_range t) })
span_with (Some s) t = Some (record { first = if nat_lt t.sh_offset s.first.sh_offset then t else s.first; end = max s.end (end_of (file_range t)) })

-- the place of one more section, if it begins in a range
unfoldable pub span_step : List Place → Range → Option Span → Begin → Option Span
span_step all part span b =
    if is_in part b.start then elim (slice_get all b.position) [ Some t ↦ span_with span t | None ↦ span ] else span

-- ## Positions that rise

-- each position is at least that number, and above those of the sections in front
abbrev DoRise : ℕ → List Begin → Type 0
DoRise low [] = Unit {0}
DoRise low (b ∷ bs) = (low ≤ b.position) × DoRise (b.position + 1) bs

rise_from : (low high : ℕ) (bs : List Begin) → low ≤ high → DoRise high bs → DoRise low bs
rise_from low high [] h rise = tt
rise_from low high (b ∷ bs) h rise = (omega (arith, h, rise.0), rise.1)

rise_with : {X : Type 0} (b : Bool) (k : ℕ) (f : X → Begin) (x : X) (rest : List X) → (f x).position ≡ k → DoRise (k + 1) (map f rest) → DoRise k (map f (cond b (x ∷ rest) rest))
rise_with true k f x rest e h = (omega (arith, e), subst (λ (n : ℕ). DoRise (n + 1) (map f rest)) (sym e) h)
rise_with false k f x rest e h = rise_from k (k + 1) (map f rest) (omega arith) h

begins_rise : (moving : Bool) (marks : List Bool) (k : ℕ) (ns : List ℕ) (ss : List ImageSection) → DoRise k (chosen_begins moving marks (map section_at (kept_from k ns ss)))
begins_rise moving marks k [] ss = tt
begins_rise moving marks k (n ∷ ns) [] = tt
begins_rise moving marks k (n ∷ ns) (s ∷ ss) =
    rise_with (has_bytes_at (section_at (record { position = k; number = n; section = s })) && is_chosen moving marks k) k
    _ (section_at (record { position = k; number = n; section = s })) (filter (λ t. has_bytes_at t && is_chosen moving marks t.position) (map section_at (kept_from (k + 1) ns ss)))
    refl (begins_rise moving marks (k + 1) ns ss)

-- ## Both ways

module _ (all : List Place) (part : Range) where
  -- what is joined so far shows what is found so far, and is of sections below a position
  record IsShown (low : ℕ) (r : Reach) (s : Span) : Type 0 where
    offset : r.offset ≡ s.first.sh_offset
    end : r.end ≡ s.end
    there : slice_get all r.position ≡ Some s.first
    below : r.position < low

  abbrev DoesShow : ℕ → Option Reach → Option Span → Type 0
  DoesShow low None None = Unit {0}
  DoesShow low None (Some s) = ⊥
  DoesShow low (Some r) None = ⊥
  DoesShow low (Some r) (Some s) = IsShown low r s

  shown_from : (low high : ℕ) (o : Option Reach) (s : Option Span) → low ≤ high → DoesShow low o s → DoesShow high (joined o None) s
  shown_from low high None None h is = tt
  shown_from low high None (Some s) h is = absurd is
  shown_from low high (Some r) None h is = absurd is
  shown_from low high (Some r) (Some s) h is = record { offset = is.offset; end = is.end; there = is.there; below = omega (arith, h, is.below) }

  -- one place more
  shown_with : (low position : ℕ) (t : Place) (o : Option Reach) (s : Option Span) → slice_get all position ≡ Some t → low ≤ position → DoesShow low o s
      → DoesShow (position + 1) (joined o (Some (reach_of_place position t))) (span_with s t)
  shown_with low position t None None at h is = record { offset = refl; end = refl; there = at; below = omega arith }
  shown_with low position t None (Some s) at h is = absurd is
  shown_with low position t (Some r) None at h is = absurd is
  shown_with low position t (Some r) (Some s) at h is = by_tests (is_before (reach_of_place position t) r) (nat_lt t.sh_offset s.first.sh_offset) same
    where
      or_false : (a b : Bool) → (a || (b && false)) ≡ a
      or_false true b = refl
      or_false false true = refl
      or_false false false = refl

      same : is_before (reach_of_place position t) r ≡ nat_lt t.sh_offset s.first.sh_offset
      same =
          ap (λ (c : Bool). nat_lt t.sh_offset r.offset || t.sh_offset == r.offset && c) (le-ltb position r.position (omega (arith, h, is.below)))
          ∙ or_false (nat_lt t.sh_offset r.offset) (t.sh_offset == r.offset)
          ∙ ap (nat_lt t.sh_offset) is.offset

      by_tests : (a b : Bool) → a ≡ b
          → DoesShow (position + 1)
          (let f : Reach = if a then reach_of_place position t else r in Some (record { offset = f.offset; position = f.position; end = max r.end (end_of (file_range t)) }))
          (Some (record { first = if b then t else s.first; end = max s.end (end_of (file_range t)) }))
      by_tests true true e = record { offset = refl; end = ap (λ n. max n (end_of (file_range t))) is.end; there = at; below = omega arith }
      by_tests true false e = absurd (true≢false e)
      by_tests false true e = absurd (true≢false (sym e))
      by_tests false false e = record { offset = is.offset; end = ap (λ n. max n (end_of (file_range t))) is.end; there = is.there; below = omega (arith, h, is.below) }

  shown_step : (inside : Bool) (at : Option Place) (low position : ℕ) (o : Option Reach) (s : Option Span) → slice_get all position ≡ at → low ≤ position → DoesShow low o s
      → DoesShow (position + 1)
      (joined o (if inside then elim at as (λ _. Option Reach) [ Some t ↦ Some (reach_of_place position t) | None ↦ None ] else None))
      (if inside then elim at as (λ _. Option Span) [ Some t ↦ span_with s t | None ↦ s ] else s)
  shown_step false at low position o s is h shows = shown_from low (position + 1) o s (omega (arith, h)) shows
  shown_step true None low position o s is h shows = shown_from low (position + 1) o s (omega (arith, h)) shows
  shown_step true (Some t) low position o s is h shows = shown_with low position t o s is h shows

  shown_end : (low : ℕ) (o : Option Reach) (s : Option Span) → DoesShow low o s → span_of all o ≡ s
  shown_end low None None is = refl
  shown_end low None (Some s) is = absurd is
  shown_end low (Some r) None is = absurd is
  shown_end low (Some r) (Some s) is =
      ap (option_map (λ (t : Place). let span : Span = record { first = t; end = r.end } in span)) is.there
      ∙ ap (λ (n : ℕ). let span : Span = record { first = s.first; end = n } in Some span) is.end

  span_steps : (bs : List Begin) (low : ℕ) (o : Option Reach) (s : Option Span) → DoesShow low o s → DoRise low bs
      → span_of all (fold joined o (map (reach_in all part) bs)) ≡ fold (span_step all part) s bs
  unfolding span_step
  span_steps [] low o s is rise = shown_end low o s is
  span_steps (b ∷ bs) low o s is rise =
      span_steps bs (b.position + 1) (joined o (reach_in all part b)) (span_step all part s b)
      (shown_step (is_in part b.start) (slice_get all b.position) low b.position o s refl rise.0 is) rise.1

  -- over sections in any order
  pub span_found : (moving : Bool) (marks : List Bool) (image : Image) (found : List Begin) → IsPermutation (chosen_begins moving marks (indexed_sections image)) found
      → span_over all part found ≡ fold (span_step all part) None (chosen_begins moving marks (indexed_sections image))
  span_found moving marks image found same =
      let bs : List Begin = chosen_begins moving marks (indexed_sections image) in
      ap (span_of all) (joined_all-permutation (map (reach_in all part) bs) (map (reach_in all part) found) (IsPermutation-map (reach_in all part) bs found same))
      ∙ span_steps bs 0 None None tt (begins_rise moving marks 0 image.section_numbers image.sections)

-- ## One section

-- from one place to its own end
pub one_place : (all : List Place) (position : ℕ) → option_map target_of_span (span_of all (reach_at all position)) ≡ option_map target_at (slice_get all position)
one_place all position = by_place (slice_get all position) refl
  where
    by_place : (o : Option Place) → slice_get all position ≡ o
        → option_map target_of_span (span_of all (elim o as (λ _. Option Reach) [ Some t ↦ Some (reach_of_place position t) | None ↦ None ])) ≡ option_map target_at o
    by_place None is = refl
    by_place (Some t) is =
        ap (λ (o : Option Place). option_map target_of_span (option_map (λ (u : Place). let span : Span = record { first = u; end = end_of (file_range t) } in span) o)) is
        ∙ ap (λ (n : ℕ). let target : Target = record { part = range t.sh_offset n; address = address_in_memory t } in Some target)
        (let e : end_of (file_range t) - t.sh_offset ≡ t.sh_size = omega arith in e)
