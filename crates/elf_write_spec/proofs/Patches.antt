-- The patches of a written file: they share no byte, lie in the file, and each stands in it.
use Rattle.std.proofs.Common.{◌≡◌, ◌≤◌, ℕ, zero, suc, ◌*◌, Bool, true, false, List, [], ◌∷◌, ◌++◌, map, length, refl, sym, ap, ◌∙◌, subst, Some, arith, suc-mul}
use Rattle.std.specs.Prelude.{◌&&◌, not, filter, if◌then◌else◌}
use Rattle.std.specs.List.{flat_map, list_all, slice_get}
use Rattle.std.proofs.lemmas.Bool.{and_from, and_parts, both_ways, cond-true, leb-true, not_from_false}
use Rattle.std.proofs.lemmas.List.{length-append}
use Rattle.std.proofs.lemmas.Option.{none-some, same_Some, slice_get_within}
use Rattle.patch_bytes.specs.Number.{field}
use Rattle.byte_store.specs.Laid.{LiesIn, Patch}
use Rattle.elf_format.specs.declared.range.Range.{Range}
use Rattle.elf_format.specs.declared.form.Form.{Form}
use Rattle.elf_format.specs.File.{loads_of}
use Rattle.elf_format.specs.Placement.{ends_by, file_part}
use Rattle.elf_format.specs.Places.{Place, file_range, occupies_file}
use Rattle.elf_format.specs.Ranges.{end_of, range}
use Rattle.elf_format.specs.Records.{file_header_size, section_header_size, segment_header_size}
use Rattle.elf_layout_plan.specs.Spelled.{spelled_file_header, spelled_section_header, spelled_segment_header}
use Rattle.elf_layout_plan.proofs.ForCallers.FileHeaderBack.{file_headers_are_read_back}
use Rattle.elf_layout_plan.proofs.ForCallers.SectionHeaderBack.{section_headers_are_read_back}
use Rattle.elf_layout_plan.proofs.ForCallers.SegmentHeaderBack.{segment_headers_are_read_back}
use Rattle.elf_layout_plan.specs.FilePlaced.{written_size, written_table}
use Rattle.elf_image.specs.Kept.{KeptSection, kept_sections}
use Rattle.elf_layout_plan.specs.Memory.{Resized}
use Rattle.elf_layout_plan.specs.Plan.{resized}
use Rattle.elf_layout_plan.proofs.ForCallers.ApartBlocks.{all_apart_pairs}
use Rattle.elf_layout_plan.proofs.ForCallers.ApartLists.{Each, Pairs, all-at, each-append, each-at, each-back, each-front, each-more, each-unfilter, each-unmap, pairs-unfilter, pairs-unmap}
use Rattle.elf_layout_plan.proofs.ForCallers.PlacedPlans.{plans_are_placed}
use Rattle.elf_layout_plan.proofs.ForCallers.PlacedRanges.{apart-swap}
use Rattle.elf_write_spec.specs.Base.{base, base_byte, is_data}
use Rattle.elf_write_spec.specs.Headers.{written_header}
use Rattle.elf_write_spec.specs.Output.{IsPlannedOutput, Output, patch, patches, patches_of_section, patches_of_sections, written_bytes}
use Rattle.elf_write_spec.proofs.ApartInFile.{plans_are_apart_in_file}
use Rattle.elf_write_spec.proofs.HeadersInFile.{headers_end_before}
use Rattle.elf_write_spec.proofs.Laying.{AreApart, StandsIn, all_stand, field-laid_apart, length-laid, length-values, range_of}
use Rattle.elf_write_spec.proofs.WholeFacts.{SectionAt, lengths, read_facts, section_at}

pub swapped : (x y : Range) → AreApart x y → AreApart y x
swapped x y h = (apart-swap x y (record { tested = h })).tested

-- ## The patches of sections

-- each content has as many bytes as its place
abbrev pub AreSized : List Place → List (List ℕ) → Type 0
AreSized places contents = (i : ℕ) (p : Place) (bytes : List ℕ) → slice_get places i ≡ Some p → slice_get contents i ≡ Some bytes
    → length bytes ≡ (if occupies_file p then p.sh_size else 0)

long_as : (p : Place) (bytes : List ℕ) → length bytes ≡ (if occupies_file p then p.sh_size else 0) → occupies_file p ≡ true
    → length bytes ≡ p.sh_size
long_as p bytes sized stored = sized ∙ cond-true (occupies_file p) p.sh_size 0 stored

range_as : (p : Place) (bytes : List ℕ) → length bytes ≡ (if occupies_file p then p.sh_size else 0) → occupies_file p ≡ true
    → range_of (patch p.sh_offset bytes) ≡ file_range p
range_as p bytes sized stored = ap (range p.sh_offset) (long_as p bytes sized stored)

-- what holds of each place in the file holds of each patch
pub sections-each : (P : Range → Type 0) (r : Resized) (ks : List KeptSection) (ps : List Place) (cs : List (List ℕ)) → AreSized ps cs
    → Each (λ p. occupies_file p ≡ true → P (file_range p)) ps → Each (λ q. P (range_of q)) (patches_of_sections r ks ps cs)
sections-each P r [] ps cs sized h = tt
sections-each P r (k ∷ ks) [] cs sized h = tt
sections-each P r (k ∷ ks) (p ∷ ps) [] sized h = tt
sections-each P r (k ∷ ks) (p ∷ ps) (bytes ∷ cs) sized h =
    each-append (λ q. P (range_of q)) (patches_of_section r k p bytes) (patches_of_sections r ks ps cs)
    (by_tests (occupies_file p) (is_data r.read k) refl)
    (sections-each P r ks ps cs (λ i. sized (suc i)) h.1)
  where
    by_tests : (a d : Bool) → occupies_file p ≡ a → Each (λ q. P (range_of q)) (if a && not d then patch p.sh_offset bytes ∷ [] else [])
    by_tests true false e = (subst P (sym (range_as p bytes (sized zero p bytes refl refl) e)) (h.0 e), tt)
    by_tests true true e = tt
    by_tests false d e = tt

-- what holds of each two places in the file holds of each two patches
pub sections-pairs : (R : Range → Range → Type 0) (r : Resized) (ks : List KeptSection) (ps : List Place) (cs : List (List ℕ))
    → AreSized ps cs
    → Pairs (λ x y. occupies_file x ≡ true → occupies_file y ≡ true → R (file_range x) (file_range y)) ps
    → Pairs (λ a b. R (range_of a) (range_of b)) (patches_of_sections r ks ps cs)
sections-pairs R r [] ps cs sized h = tt
sections-pairs R r (k ∷ ks) [] cs sized h = tt
sections-pairs R r (k ∷ ks) (p ∷ ps) [] sized h = tt
sections-pairs R r (k ∷ ks) (p ∷ ps) (bytes ∷ cs) sized h =
    by_tests (occupies_file p) (is_data r.read k) refl (sections-pairs R r ks ps cs (λ i. sized (suc i)) h.1)
  where
    behind : occupies_file p ≡ true → Each (λ q. R (range_of (patch p.sh_offset bytes)) (range_of q)) (patches_of_sections r ks ps cs)
    behind e =
        let same = range_as p bytes (sized zero p bytes refl refl) e in
        sections-each (λ x. R (range_of (patch p.sh_offset bytes)) x) r ks ps cs (λ i. sized (suc i))
        (each-more (λ y. occupies_file p ≡ true → occupies_file y ≡ true → R (file_range p) (file_range y))
        (λ y. occupies_file y ≡ true → R (range_of (patch p.sh_offset bytes)) (file_range y))
        (λ y tells stored. subst (λ (x : Range). R x (file_range y)) (sym same) (tells e stored)) ps h.0)

    by_tests : (a d : Bool) → occupies_file p ≡ a → Pairs (λ x y. R (range_of x) (range_of y)) (patches_of_sections r ks ps cs)
        → Pairs (λ x y. R (range_of x) (range_of y))
        ((if a && not d then patch p.sh_offset bytes ∷ [] else []) ++ patches_of_sections r ks ps cs)
    by_tests true false e rest = (behind e, rest)
    by_tests true true e rest = rest
    by_tests false d e rest = rest

-- what holds of each patch holds of that of a section, where it has one
pub section-patch : (Q : Patch → Type 0) (r : Resized) (ks : List KeptSection) (ps : List Place) (cs : List (List ℕ))
    → Each Q (patches_of_sections r ks ps cs)
    → (i : ℕ) (k : KeptSection) (p : Place) (bytes : List ℕ) → slice_get ks i ≡ Some k → slice_get ps i ≡ Some p
    → slice_get cs i ≡ Some bytes
    → occupies_file p ≡ true → is_data r.read k ≡ false → Q (patch p.sh_offset bytes)
section-patch Q r [] ps cs h i k p bytes at_k at_p at_bytes stored other = absurd (none-some k at_k)
section-patch Q r (x ∷ ks) [] cs h i k p bytes at_k at_p at_bytes stored other = absurd (none-some p at_p)
section-patch Q r (x ∷ ks) (y ∷ ps) [] h i k p bytes at_k at_p at_bytes stored other = absurd (none-some bytes at_bytes)
section-patch Q r (x ∷ ks) (y ∷ ps) (z ∷ cs) h zero k p bytes at_k at_p at_bytes stored other =
    let here : Each Q (patches_of_section r x y z) = each-front Q (patches_of_section r x y z) (patches_of_sections r ks ps cs) h in
    let same : patches_of_section r x y z ≡ patch p.sh_offset bytes ∷ [] =
    ap (λ (s : KeptSection). patches_of_section r s y z) (same_Some x k at_k)
    ∙ ap (λ (s : Place). patches_of_section r k s z) (same_Some y p at_p)
    ∙ ap (λ (s : List ℕ). patches_of_section r k p s) (same_Some z bytes at_bytes)
    ∙ cond-true (occupies_file p && not (is_data r.read k)) (patch p.sh_offset bytes ∷ []) []
    (and_from (occupies_file p) (not (is_data r.read k)) stored (not_from_false (is_data r.read k) other)) in
    (subst (λ (l : List Patch). Each Q l) same here).0
section-patch Q r (x ∷ ks) (y ∷ ps) (z ∷ cs) h (suc i) k p bytes at_k at_p at_bytes stored other =
    section-patch Q r ks ps cs
    (each-back Q (patches_of_section r x y z) (patches_of_sections r ks ps cs) h) i k p bytes at_k at_p at_bytes stored other

-- a place of data shares no byte with the patches of other sections, and data has none
pub sections-others : (r : Resized) (ks : List KeptSection) (ps : List Place) (cs : List (List ℕ)) → AreSized ps cs
    → Pairs (λ x y. occupies_file x ≡ true → occupies_file y ≡ true → AreApart (file_range x) (file_range y)) ps
    → (i : ℕ) (k : KeptSection) (p : Place) → slice_get ks i ≡ Some k → slice_get ps i ≡ Some p → occupies_file p ≡ true
    → is_data r.read k ≡ true
    → Each (λ q. AreApart (file_range p) (range_of q)) (patches_of_sections r ks ps cs)
sections-others r [] ps cs sized h i k p at_k at_p stored is = tt
sections-others r (x ∷ ks) [] cs sized h i k p at_k at_p stored is = tt
sections-others r (x ∷ ks) (y ∷ ps) [] sized h i k p at_k at_p stored is = tt
sections-others r (x ∷ ks) (y ∷ ps) (z ∷ cs) sized h zero k p at_k at_p stored is =
    each-append (λ q. AreApart (file_range p) (range_of q)) (patches_of_section r x y z) (patches_of_sections r ks ps cs)
    (by_tests (occupies_file y) (is_data r.read x) refl)
    (sections-each (AreApart (file_range p)) r ks ps cs (λ j. sized (suc j))
    (each-more (λ b. occupies_file y ≡ true → occupies_file b ≡ true → AreApart (file_range y) (file_range b))
    (λ b. occupies_file b ≡ true → AreApart (file_range p) (file_range b))
    (λ b tells b_stored. subst (λ (a : Place). AreApart (file_range a) (file_range b)) same
    (tells (ap occupies_file same ∙ stored) b_stored)) ps h.0))
  where
    same : y ≡ p
    same = same_Some y p at_p

    by_tests : (a d : Bool) → is_data r.read x ≡ d
        → Each (λ q. AreApart (file_range p) (range_of q)) (if a && not d then patch y.sh_offset z ∷ [] else [])
    by_tests true false e = absurd (both_ways (is_data r.read x) e (ap (is_data r.read) (same_Some x k at_k) ∙ is))
    by_tests true true e = tt
    by_tests false d e = tt
sections-others r (x ∷ ks) (y ∷ ps) (z ∷ cs) sized h (suc i) k p at_k at_p stored is =
    each-append (λ q. AreApart (file_range p) (range_of q)) (patches_of_section r x y z) (patches_of_sections r ks ps cs)
    (by_tests (occupies_file y) (is_data r.read x) refl)
    (sections-others r ks ps cs (λ j. sized (suc j)) h.1 i k p at_k at_p stored is)
  where
    by_tests : (a d : Bool) → occupies_file y ≡ a
        → Each (λ q. AreApart (file_range p) (range_of q)) (if a && not d then patch y.sh_offset z ∷ [] else [])
    by_tests true false e = (
      subst (λ (b : Range). AreApart (file_range p) b) (sym (range_as y z (sized zero y z refl refl) e))
          (swapped (file_range y) (file_range p)
          (each-at (λ b. occupies_file y ≡ true → occupies_file b ≡ true → AreApart (file_range y) (file_range b)) ps h.0 i p at_p e stored)),
      tt,
    )
    by_tests true true e = tt
    by_tests false d e = tt

-- ## Tables

-- records of one length end to end
pub length-table : {A : Type 0} (spelled : A → List ℕ) (size : ℕ) → ((x : A) → length (spelled x) ≡ size) → (xs : List A)
    → length (flat_map spelled xs) ≡ length xs * size
length-table spelled size long [] = omega arith
length-table spelled size long (x ∷ xs) =
    length-append (spelled x) (flat_map spelled xs) ∙ omega (arith, long x, length-table spelled size long xs, suc-mul (length xs) size)

-- ## All patches

same_apart : (r s x y : Range) → r ≡ x → s ≡ y → AreApart x y → AreApart r s
same_apart r s x y e f h = subst (λ (z : Range). AreApart z s) (sym e) (subst (λ (z : Range). AreApart x z) (sym f) h)

module _ (w : Output) (is : IsPlannedOutput w) where
  abbrev r : Resized
  r = resized w.image

  abbrev form : Form
  form = w.image.form

  abbrev first : Patch
  first = patch 0 (spelled_file_header form (written_header w.image w.plan))

  abbrev second : Patch
  second = patch w.plan.e_phoff (flat_map (spelled_segment_header form) w.plan.segments)

  abbrev third : Patch
  third = patch w.plan.e_shoff (flat_map (spelled_section_header form) w.headers)

  abbrev stored : List Range
  stored = map file_range (filter occupies_file w.plan.places)

  pub as_many : length w.headers ≡ length w.plan.places
  as_many = let l = lengths w is (read_facts w is) in l.headers ∙ sym l.places

  pub are_sized : AreSized w.plan.places w.contents
  are_sized i p bytes at_p at_bytes =
      let f = read_facts w is in
      let l = lengths w is f in
      let below = slice_get_within w.plan.places i p at_p in
      let at : SectionAt w f.parts i = section_at w is f i (omega (arith, below, l.places)) in
      let same_place : at.place ≡ p = same_Some at.place p (sym at.is_place ∙ at_p) in
      let same_bytes : at.bytes ≡ bytes = same_Some at.bytes bytes (sym at.is_bytes ∙ at_bytes) in
      ap length (sym same_bytes) ∙ at.written.sized ∙ ap (λ (x : Place). if occupies_file x then x.sh_size else 0) same_place

  -- the ranges of the headers
  pub first_range : range_of first ≡ range 0 (file_header_size form)
  first_range = ap (range 0) ((file_headers_are_read_back form).long (written_header w.image w.plan))

  pub second_range : range_of second ≡ written_table r w.plan
  second_range = ap (range w.plan.e_phoff)
      (length-table (spelled_segment_header form) (segment_header_size form) (segment_headers_are_read_back form).long w.plan.segments)

  pub third_range : range_of third ≡ range w.plan.e_shoff (length w.plan.places * section_header_size form)
  third_range = ap (range w.plan.e_shoff)
      (length-table (spelled_section_header form) (section_header_size form) (section_headers_are_read_back form).long w.headers
      ∙ ap (λ (n : ℕ). n * section_header_size form) as_many)

  abbrev third_is : Range
  third_is = range w.plan.e_shoff (length w.plan.places * section_header_size form)

  abbrev of_sections : List Patch
  of_sections = patches_of_sections r (kept_sections w.image) w.plan.places w.contents

  all_apart_there : Pairs AreApart (range 0 (file_header_size form) ∷ written_table r w.plan ∷ third_is ∷ stored)
  all_apart_there = all_apart_pairs (range 0 (file_header_size form) ∷ written_table r w.plan ∷ third_is ∷ stored)
      (plans_are_apart_in_file w.image w.plan is.edited is.planned is.written.headers)

  -- a range that is apart from all stored places is apart from the patches of sections
  pub apart_from_sections : (x : Range) → Each (AreApart x) stored → Each (λ q. AreApart x (range_of q)) of_sections
  apart_from_sections x h = sections-each (AreApart x) r (kept_sections w.image) w.plan.places w.contents are_sized
      (each-unfilter (λ p. AreApart x (file_range p)) occupies_file w.plan.places
      (each-unmap (AreApart x) file_range (filter occupies_file w.plan.places) h))

  -- two places in the file share no byte
  pub places_apart : Pairs (λ x y. occupies_file x ≡ true → occupies_file y ≡ true → AreApart (file_range x) (file_range y)) w.plan.places
  places_apart = pairs-unfilter (λ x y. AreApart (file_range x) (file_range y)) occupies_file w.plan.places
      (pairs-unmap AreApart file_range (filter occupies_file w.plan.places) all_apart_there.1.1.1)

  sections_apart : Pairs (λ a b. AreApart (range_of a) (range_of b)) of_sections
  sections_apart = sections-pairs AreApart r (kept_sections w.image) w.plan.places w.contents are_sized places_apart

  clear_of : (q : Patch) (x : Range) → range_of q ≡ x → Each (AreApart x) stored
      → Each (λ b. AreApart (range_of q) (range_of b)) of_sections
  clear_of q x same h = apart_from_sections (range_of q) (subst (λ (y : Range). Each (AreApart y) stored) (sym same) h)

  -- no two patches share a byte
  pub patches_are_apart : Pairs (λ a b. AreApart (range_of a) (range_of b)) (patches w)
  patches_are_apart =
      let one = all_apart_there.0 in
      let two = all_apart_there.1.0 in
      let three = all_apart_there.1.1.0 in (
        (
          same_apart (range_of first) (range_of second) (range 0 (file_header_size form))
              (written_table r w.plan) first_range second_range one.0,
          (
            same_apart (range_of first) (range_of third) (range 0 (file_header_size form)) third_is first_range third_range one.1.0,
            clear_of first (range 0 (file_header_size form)) first_range one.1.1,
          ),
        ),
        (
          (
            same_apart (range_of second) (range_of third) (written_table r w.plan) third_is second_range third_range two.0,
            clear_of second (written_table r w.plan) second_range two.1,
          ),
          (clear_of third third_is third_range three, sections_apart),
        ),
      )

  -- ## In the file

  abbrev size : ℕ
  size = written_size r w.plan

  pub places_in_file : Each (λ p. occupies_file p ≡ true → end_of (file_range p) ≤ size) w.plan.places
  places_in_file =
      let both = and_parts (list_all (λ s. ends_by size (file_range s)) (filter occupies_file w.plan.places))
      (list_all (λ p. ends_by size (file_part p)) (loads_of w.plan.segments))
      (plans_are_placed w.image w.plan is.edited is.planned).in_file in
      each-unfilter (λ p. end_of (file_range p) ≤ size) occupies_file w.plan.places
      (each-more (λ p. ends_by size (file_range p) ≡ true) (λ p. end_of (file_range p) ≤ size)
      (λ p h. leb-true (end_of (file_range p)) size h)
      (filter occupies_file w.plan.places) (all-at (λ s. ends_by size (file_range s)) (filter occupies_file w.plan.places) both.0))

  ends_in : (q : Patch) (x : Range) → range_of q ≡ x → end_of x ≤ size → LiesIn size q
  ends_in q x same h = subst (λ (y : Range). end_of y ≤ size) (sym same) h

  pub patches_lie : Each (LiesIn size) (patches w)
  patches_lie =
      let ends = headers_end_before w.image w.plan is.edited is.planned in
      let header : file_header_size form ≤ w.plan.e_shoff = ends.header in
      let table : end_of (written_table r w.plan) ≤ w.plan.e_shoff = ends.table in (
        ends_in first (range 0 (file_header_size form)) first_range (omega (arith, header)),
        (
          ends_in second (written_table r w.plan) second_range (omega (arith, table)),
          (
            ends_in third third_is third_range (omega arith),
            sections-each (λ x. end_of x ≤ size) r (kept_sections w.image) w.plan.places w.contents are_sized places_in_file,
          ),
        ),
      )

  pub length-base : length (base r size) ≡ size
  unfolding base
  length-base = length-values (base_byte r) 0 size

  pub patches_lie_in_base : Each (LiesIn (length (base r size))) (patches w)
  patches_lie_in_base = subst (λ (n : ℕ). Each (LiesIn n) (patches w)) (sym length-base) patches_lie

  pub length-written : length (written_bytes w) ≡ size
  unfolding written_bytes
  length-written = length-laid (patches w) (base r size) patches_lie_in_base ∙ length-base

  -- each patch stands in the file
  pub patches_stand : Each (StandsIn (written_bytes w)) (patches w)
  unfolding written_bytes
  patches_stand = all_stand (patches w) (base r size) patches_lie_in_base patches_are_apart

  -- a place of data shares no byte with any patch
  pub data_is_apart : (i : ℕ) (k : KeptSection) (p : Place) → slice_get (kept_sections w.image) i ≡ Some k
      → slice_get w.plan.places i ≡ Some p
      → occupies_file p ≡ true → is_data r.read k ≡ true → Each (λ q. AreApart (file_range p) (range_of q)) (patches w)
  data_is_apart i k p at_k at_p is_stored is_it =
      let from : (x : Range) → Each (AreApart x) stored → AreApart x (file_range p) = λ x h.
      each-at (λ s. occupies_file s ≡ true → AreApart x (file_range s)) w.plan.places
      (each-unfilter (λ s. AreApart x (file_range s)) occupies_file w.plan.places
      (each-unmap (AreApart x) file_range (filter occupies_file w.plan.places) h)) i p at_p is_stored in
      let to : (q : Patch) (x : Range) → range_of q ≡ x → Each (AreApart x) stored → AreApart (file_range p) (range_of q) = λ q x same h.
      subst (λ (y : Range). AreApart (file_range p) y) (sym same) (swapped x (file_range p) (from x h)) in (
        to first (range 0 (file_header_size form)) first_range all_apart_there.0.1.1,
        (
          to second (written_table r w.plan) second_range all_apart_there.1.0.1,
          (
            to third third_is third_range all_apart_there.1.1.0,
            sections-others r (kept_sections w.image) w.plan.places w.contents are_sized places_apart i k p at_k at_p is_stored is_it,
          ),
        ),
      )

  -- a range that is apart from all patches has the base's bytes
  pub keeps_base : (x : Range) → Each (λ q. AreApart x (range_of q)) (patches w)
      → field x.size x.start (written_bytes w) ≡ field x.size x.start (base r size)
  unfolding written_bytes
  keeps_base x h = field-laid_apart x (patches w) (base r size) patches_lie_in_base h
