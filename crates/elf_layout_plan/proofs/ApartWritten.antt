-- The program headers of a plan: which of them are loaded, and how many there are.
use Rattle.std.proofs.Common.{◌≡◌, ℕ, zero, suc, ◌+◌, ◌≤◌, Bool, true, false, not, cond, ◌&&◌, ◌⊎◌, List, [], ◌∷◌, ◌++◌, map, length, refl, sym, ap, ◌∙◌, subst, inl, inr, arith, Option, Some, None}
use Rattle.std.specs.Prelude.{◌==◌, count_by, filter, find, if◌then◌else◌}
use Rattle.std.specs.List.{cons_option, list_any, flat_map, slice_get}
use Rattle.std.specs.Option.{option_or}
use Rattle.std.proofs.lemmas.Bool.{cases_Bool, false≢true}
use Rattle.std.proofs.lemmas.List.{append-nil, length-append}
use Rattle.std.proofs.lemmas.List.Elements.{filter-append}
use Rattle.std.proofs.lemmas.List.Folds.{find-append}
use Rattle.std.proofs.lemmas.List.Sums.{length-filter}
use Rattle.std.proofs.lemmas.Option.{none-some}
use Rattle.elf_format.specs.declared.constants.TheConstants.{PT_LOAD}
use Rattle.elf_format.specs.declared.records.SegmentHeader.{SegmentHeader}
use Rattle.elf_format.specs.File.{is_loaded, loads_of}
use Rattle.elf_format.specs.Places.{Place}
use Rattle.elf_layout_plan.specs.Added.{AddedLoad, added_loads, header_count, kept_end, load_alignment, loads_from, memory_end}
use Rattle.elf_layout_plan.specs.Anchors.{HeaderTable, Itself, Anchor, Notes, OneSection, are_parted, is_moved, is_parted, is_split, anchor_of, moved_notes, staying_notes}
use Rattle.elf_tables.specs.Kept.{KeptSection}
use Rattle.elf_layout_plan.specs.Memory.{Resized, SizedSection}
use Rattle.elf_layout_plan.specs.Rounds.{added_flags, headers_needed, sections_at}
use Rattle.elf_layout_plan.specs.Standing.{places}
use Rattle.elf_layout_plan.specs.Written.{Target, behind_last_load, anchored_to, places_of_kept, resized_table, target_at, targets_of, targets_of_notes, targets_over, with_table_size, written_from, written_segments}
use Rattle.elf_layout_plan.proofs.ApartLists.{Each, append-back_at, at-map, each-all, each-append, each-map, each-more, flat_map-at, none-at}
use Rattle.elf_layout_plan.proofs.ApartSections.{file_behind, first_load, memory_behind}

-- ## Loaded program headers stay as they are

filter-none : {A : Type 0} (test : A → Bool) (xs : List A) → Each (λ x. test x ≡ false) xs → filter test xs ≡ []
filter-none test [] h = refl
filter-none {A} test (x ∷ xs) h = ap (λ b. cond b (x ∷ filter test xs) (filter test xs)) h.0 ∙ filter-none test xs h.1

filter-same : {A : Type 0} (test : A → Bool) (xs : List A) → Each (λ x. test x ≡ true) xs → filter test xs ≡ xs
filter-same test [] h = refl
filter-same {A} test (x ∷ xs) h = ap (λ b. cond b (x ∷ filter test xs) (filter test xs)) h.0 ∙ ap (λ ys. x ∷ ys) (filter-same test xs h.1)

module _ (r : Resized) (moved : List ℕ) where
  -- where a program header goes, and what becomes of it, by what it goes by
  pub targets_by : Anchor → List Target
  targets_by anchor = elim anchor [
    | Itself ↦ []
    | HeaderTable ↦ []
    | OneSection s ↦ map target_at (places_of_kept (places r moved) (s ∷ []))
    | Notes notes ↦ targets_of_notes moved (places r moved) notes
  ]

  pub targets_are : (p : SegmentHeader) → targets_of r moved p ≡ targets_by (anchor_of r.read r.image p)
  unfolding targets_of targets_by
  targets_are p = refl

  pub written_by : SegmentHeader → List Target → List SegmentHeader
  written_by p targets = elim targets [ [] ↦ resized_table r moved p ∷ [] | t ∷ ts ↦ map (anchored_to r.image.form p) (t ∷ ts) ]

  pub written_is : (p : SegmentHeader) → written_from r moved p ≡ written_by p (targets_of r moved p)
  unfolding written_by
  written_is p = refl

  pub load_anchor : (p : SegmentHeader) → is_loaded p ≡ true → anchor_of r.read r.image p ≡ Itself
  unfolding anchor_of
  load_anchor p h = by_type (p.p_type == PT_LOAD) _ h
    where
      by_type : (b : Bool) (other : Anchor) → b ≡ true → cond b Itself other ≡ Itself
      by_type true other e = refl
      by_type false other e = absurd (false≢true e)

  table_by : SegmentHeader → Anchor → SegmentHeader
  table_by p anchor = elim anchor [ HeaderTable ↦ with_table_size r moved p | _ ↦ p ]

  table_is : (p : SegmentHeader) → resized_table r moved p ≡ table_by p (anchor_of r.read r.image p)
  unfolding table_by
  table_is p = refl

  load_written : (p : SegmentHeader) → is_loaded p ≡ true → written_from r moved p ≡ p ∷ []
  unfolding targets_by written_by table_by
  load_written p h =
      written_is p ∙ ap (written_by p) (targets_are p ∙ ap targets_by (load_anchor p h))
      ∙ ap (λ q. q ∷ []) (table_is p ∙ ap (table_by p) (load_anchor p h))

  table_type : (p : SegmentHeader) (anchor : Anchor) → (table_by p anchor).p_type ≡ p.p_type
  unfolding table_by
  table_type p Itself = refl
  table_type p HeaderTable = refl
  table_type p (OneSection s) = refl
  table_type p (Notes notes) = refl

  written_type : (p : SegmentHeader) (targets : List Target) → Each (λ q. q.p_type ≡ p.p_type) (written_by p targets)
  unfolding written_by
  written_type p [] = (ap (λ (q : SegmentHeader). q.p_type) (table_is p) ∙ table_type p (anchor_of r.read r.image p), tt)
  written_type p (t ∷ ts) = each-map (λ (q : SegmentHeader). q.p_type ≡ p.p_type) (anchored_to r.image.form p) (t ∷ ts) (each-all (λ t. p.p_type ≡ p.p_type) (λ t. refl) (t ∷ ts))

  loads_from_one : (p : SegmentHeader) → loads_of (written_from r moved p) ≡ cond (is_loaded p) (p ∷ []) []
  loads_from_one p = elim (cases_Bool (is_loaded p)) [
    | inl h ↦ ap loads_of (load_written p h) ∙ ap (λ b. cond b (p ∷ []) []) refl
    | inr h ↦
        filter-none is_loaded (written_from r moved p)
        (each-more (λ q. q.p_type ≡ p.p_type) (λ q. is_loaded q ≡ false) (λ q e. ap (λ n. n == PT_LOAD) e ∙ h) (written_from r moved p)
        (subst (λ (l : List SegmentHeader). Each (λ q. q.p_type ≡ p.p_type) l) (sym (written_is p)) (written_type p (targets_of r moved p))))
        ∙ sym (ap (λ b. cond b (p ∷ []) []) h)
  ]

  loads_written : (ps : List SegmentHeader) → loads_of (flat_map (written_from r moved) ps) ≡ loads_of ps
  loads_written [] = refl
  loads_written (p ∷ ps) =
      filter-append is_loaded (written_from r moved p) (flat_map (written_from r moved) ps)
      ∙ ap (λ front. front ++ loads_of (flat_map (written_from r moved) ps)) (loads_from_one p)
      ∙ ap (λ back. cond (is_loaded p) (p ∷ []) [] ++ back) (loads_written ps) ∙ by_test (is_loaded p)
    where
      by_test : (b : Bool) → cond b (p ∷ []) [] ++ loads_of ps ≡ cond b (p ∷ loads_of ps) (loads_of ps)
      by_test true = refl
      by_test false = refl

-- the segments that are added stand behind the loaded ones, if there are any
pub loads_behind : (adds ps : List SegmentHeader) → Each (λ p. is_loaded p ≡ true) adds
    → (loads_of (behind_last_load adds ps) ≡ loads_of ps ++ adds) ⊎ (loads_of (behind_last_load adds ps) ≡ loads_of ps)
unfolding behind_last_load
loads_behind adds [] all = inr refl
loads_behind adds (p ∷ ps) all = by_tests (is_loaded p) refl (list_any is_loaded ps) refl (loads_behind adds ps all)
  where
    by_tests : (a : Bool) → is_loaded p ≡ a → (b : Bool) → list_any is_loaded ps ≡ b
        → (loads_of (behind_last_load adds ps) ≡ loads_of ps ++ adds) ⊎ (loads_of (behind_last_load adds ps) ≡ loads_of ps)
        → (loads_of (elim (a && not b) [ true ↦ p ∷ adds ++ ps | _ ↦ p ∷ behind_last_load adds ps ]) ≡ cond a (p ∷ loads_of ps) (loads_of ps) ++ adds)
        ⊎ (loads_of (elim (a && not b) [ true ↦ p ∷ adds ++ ps | _ ↦ p ∷ behind_last_load adds ps ]) ≡ cond a (p ∷ loads_of ps) (loads_of ps))
    by_tests true ea false eb rest =
        let no_more : loads_of ps ≡ [] = filter-none is_loaded ps (none-at is_loaded ps eb) in
        inl (ap (λ b. cond b (p ∷ loads_of (adds ++ ps)) (loads_of (adds ++ ps))) ea
        ∙ ap (λ l. p ∷ l) (filter-append is_loaded adds ps ∙ ap (λ l. l ++ loads_of ps) (filter-same is_loaded adds all) ∙ ap (λ l. adds ++ l) no_more ∙ append-nil adds)
        ∙ ap (λ l. (p ∷ l) ++ adds) (sym no_more))
    by_tests true ea true eb (inl e) = inl (ap (λ b. cond b (p ∷ loads_of (behind_last_load adds ps)) (loads_of (behind_last_load adds ps))) ea ∙ ap (λ l. p ∷ l) e)
    by_tests true ea true eb (inr e) = inr (ap (λ b. cond b (p ∷ loads_of (behind_last_load adds ps)) (loads_of (behind_last_load adds ps))) ea ∙ ap (λ l. p ∷ l) e)
    by_tests false ea b eb (inl e) = inl (ap (λ c. cond c (p ∷ loads_of (behind_last_load adds ps)) (loads_of (behind_last_load adds ps))) ea ∙ e)
    by_tests false ea b eb (inr e) = inr (ap (λ c. cond c (p ∷ loads_of (behind_last_load adds ps)) (loads_of (behind_last_load adds ps))) ea ∙ e)

-- the headers of segments that are added
abbrev pub added_headers : Resized → List ℕ → List SegmentHeader
added_headers r moved = map (λ load. load.header) (added_loads r moved)

added_are_loaded : (leave : Bool) (align end memory : ℕ) (flags : List ℕ) (ss : List SizedSection) → Each (λ load. is_loaded load.header ≡ true) (loads_from leave align end memory flags ss)
unfolding loads_from
added_are_loaded leave align end memory [] ss = tt
added_are_loaded leave align end memory (f ∷ more) ss =
    let load = first_load leave align f end memory ss in
    (refl, added_are_loaded leave align (file_behind load) (memory_behind load) more ss)

pub all_added_are_loaded : (r : Resized) (moved : List ℕ) → Each (λ p. is_loaded p ≡ true) (added_headers r moved)
unfolding added_loads
all_added_are_loaded r moved =
    each-map (λ p. is_loaded p ≡ true) (λ (load : AddedLoad). load.header) (added_loads r moved)
    (added_are_loaded r.image.moves_dynamic (load_alignment r.read r.image) (kept_end r moved) (memory_end r) (added_flags r moved) (sections_at r moved))

-- the loaded program headers of a plan: those of the image, perhaps with those that are added behind them
pub plan_loads : (r : Resized) (moved : List ℕ)
    → (loads_of (written_segments r moved) ≡ loads_of r.image.segments ++ added_headers r moved) ⊎ (loads_of (written_segments r moved) ≡ loads_of r.image.segments)
unfolding written_segments
plan_loads r moved = elim (loads_behind (added_headers r moved) (flat_map (written_from r moved) r.image.segments) (all_added_are_loaded r moved)) [
  | inl e ↦ inl (e ∙ ap (λ l. l ++ added_headers r moved) (loads_written r moved r.image.segments))
  | inr e ↦ inr (e ∙ loads_written r moved r.image.segments)
]

pub plan_loads-each : (P : SegmentHeader → Type 0) (r : Resized) (moved : List ℕ) → Each P (loads_of r.image.segments) → Each P (added_headers r moved) → Each P (loads_of (written_segments r moved))
plan_loads-each P r moved image added = elim (plan_loads r moved) [
  | inl e ↦ subst (λ (l : List SegmentHeader). Each P l) (sym e) (each-append P (loads_of r.image.segments) (added_headers r moved) image added)
  | inr e ↦ subst (λ (l : List SegmentHeader). Each P l) (sym e) image
]

or_none : (o : Option SegmentHeader) → option_or o None ≡ o
or_none None = refl
or_none (Some p) = refl

-- what no added one passes is found in the image
pub plan_loads-find : (test : SegmentHeader → Bool) (r : Resized) (moved : List ℕ) → find test (added_headers r moved) ≡ None
    → find test (loads_of (written_segments r moved)) ≡ find test (loads_of r.image.segments)
plan_loads-find test r moved none = elim (plan_loads r moved) [
  | inl e ↦
      ap (find test) e ∙ find-append test (loads_of r.image.segments) (added_headers r moved)
      ∙ ap (λ o. option_or (find test (loads_of r.image.segments)) o) none ∙ or_none (find test (loads_of r.image.segments))
  | inr e ↦ ap (find test) e
]

-- ## How many there are

length-targets_over : (ss : List Place) → length (targets_over ss) ≤ 1
length-targets_over [] = omega arith
length-targets_over (s ∷ ss) = omega arith

length-map : {A B : Type 0} (f : A → B) (xs : List A) → length (map f xs) ≡ length xs
length-map f [] = refl
length-map f (x ∷ xs) = ap suc (length-map f xs)

-- both lists of targets, where a program header over notes is split
abbrev both_targets : List ℕ → List Place → List KeptSection → List KeptSection → List Target
both_targets moved all staying moving = targets_over (places_of_kept all staying) ++ targets_over (places_of_kept all moving)

length-both : (moved : List ℕ) (all : List Place) (staying moving : List KeptSection) (parted : Bool) → (parted ≡ false → staying ≡ []) → length (both_targets moved all staying moving) ≤ 1 + cond parted 1 0
length-both moved all staying moving true none =
    omega (
      arith,
      length-append (targets_over (places_of_kept all staying)) (targets_over (places_of_kept all moving)),
      length-targets_over (places_of_kept all staying),
      length-targets_over (places_of_kept all moving),
    )
length-both moved all staying moving false none =
    let P : List KeptSection → Type 0 = λ l. length (both_targets moved all l moving) ≤ 1 + cond false 1 0 in
    subst P (sym (none refl)) (omega (arith, length-targets_over (places_of_kept all moving)))

length-notes : (moved : List ℕ) (all : List Place) (notes : List KeptSection) → length (targets_of_notes moved all notes) ≤ 1 + cond (are_parted moved notes) 1 0
length-notes moved all notes = by_tests (list_any (is_moved moved) notes) (list_any (λ s. not (is_moved moved s)) notes) refl
  where
    by_tests : (a b : Bool) → list_any (λ s. not (is_moved moved s)) notes ≡ b
        → length (if a then both_targets moved all (staying_notes moved notes) (moved_notes moved notes) else []) ≤ 1 + cond (a && b) 1 0
    by_tests false b e = omega arith
    by_tests true b e =
        length-both moved all (staying_notes moved notes) (moved_notes moved notes) b
        (λ no. filter-none (λ s. not (is_moved moved s)) notes (none-at (λ s. not (is_moved moved s)) notes (e ∙ no)))

length-one : (all : List Place) (s : KeptSection) → length (map target_at (places_of_kept all (s ∷ []))) ≤ 1
length-one all s = by_place (slice_get all s.position)
  where
    by_place : (o : Option Place) → length (map target_at (cons_option o [])) ≤ 1
    by_place None = omega arith
    by_place (Some p) = omega arith

length-targets : (r : Resized) (moved : List ℕ) (anchor : Anchor) → length (targets_by r moved anchor) ≤ 1 + cond (is_parted moved anchor) 1 0
unfolding targets_by
length-targets r moved Itself = omega arith
length-targets r moved HeaderTable = omega arith
length-targets r moved (OneSection s) = omega (arith, length-one (places r moved) s)
length-targets r moved (Notes notes) = length-notes moved (places r moved) notes

length-written_by : (r : Resized) (moved : List ℕ) (p : SegmentHeader) (targets : List Target) (n : ℕ) → length targets ≤ 1 + n → length (written_by r moved p targets) ≤ 1 + n
unfolding written_by
length-written_by r moved p [] n h = omega arith
length-written_by r moved p (t ∷ ts) n h = omega (arith, h, length-map (anchored_to r.image.form p) (t ∷ ts))

length-written : (r : Resized) (moved : List ℕ) (p : SegmentHeader) → length (written_from r moved p) ≤ 1 + cond (is_split r moved p) 1 0
unfolding is_split
length-written r moved p =
    let P : List SegmentHeader → Type 0 = λ l. length l ≤ 1 + cond (is_split r moved p) 1 0 in
    let Q : List Target → Type 0 = λ l. length l ≤ 1 + cond (is_split r moved p) 1 0 in
    subst P (sym (written_is r moved p)) (length-written_by r moved p (targets_of r moved p) (cond (is_split r moved p) 1 0)
    (subst Q (sym (targets_are r moved p)) (length-targets r moved (anchor_of r.read r.image p))))

count-more : (test : SegmentHeader → Bool) (p : SegmentHeader) (ps : List SegmentHeader) → count_by test (p ∷ ps) ≡ cond (test p) 1 0 + count_by test ps
count-more test p ps = sym (length-filter test (p ∷ ps)) ∙ by_test (test p)
  where
    by_test : (b : Bool) → length (cond b (p ∷ filter test ps) (filter test ps)) ≡ cond b 1 0 + count_by test ps
    by_test true = omega (arith, length-filter test ps)
    by_test false = omega (arith, length-filter test ps)

length-all_written : (r : Resized) (moved : List ℕ) (ps : List SegmentHeader) → length (flat_map (written_from r moved) ps) ≤ length ps + count_by (is_split r moved) ps
length-all_written r moved [] = omega arith
length-all_written r moved (p ∷ ps) =
    omega (arith, length-append (written_from r moved p) (flat_map (written_from r moved) ps), length-written r moved p, length-all_written r moved ps, count-more (is_split r moved) p ps)

length-behind : (adds ps : List SegmentHeader) → length (behind_last_load adds ps) ≤ length adds + length ps
unfolding behind_last_load
length-behind adds [] = omega arith
length-behind adds (p ∷ ps) = by_test (is_loaded p && not (list_any is_loaded ps)) (length-behind adds ps)
  where
    by_test : (b : Bool) → length (behind_last_load adds ps) ≤ length adds + length ps
        → length {A = SegmentHeader} (elim b [ true ↦ p ∷ adds ++ ps | _ ↦ p ∷ behind_last_load adds ps ]) ≤ length adds + length (p ∷ ps)
    by_test true h = omega (arith, length-append adds ps)
    by_test false h = omega (arith, h)

length-loads_from : (leave : Bool) (align end memory : ℕ) (flags : List ℕ) (ss : List SizedSection) → length (loads_from leave align end memory flags ss) ≡ length flags
unfolding loads_from
length-loads_from leave align end memory [] ss = refl
length-loads_from leave align end memory (f ∷ more) ss = let load = first_load leave align f end memory ss in ap suc (length-loads_from leave align (file_behind load) (memory_behind load) more ss)

pub length-plan : (r : Resized) (moved : List ℕ) → length (written_segments r moved) ≤ header_count r moved
unfolding written_segments headers_needed added_loads
length-plan r moved =
    omega (
      arith,
      length-behind (added_headers r moved) (flat_map (written_from r moved) r.image.segments),
      length-all_written r moved r.image.segments,
      length-map (λ (load : AddedLoad). load.header) (added_loads r moved),
      length-loads_from r.image.moves_dynamic (load_alignment r.read r.image) (kept_end r moved) (memory_end r) (added_flags r moved) (sections_at r moved),
    )

-- ## A program header for notes

-- where none of the notes of a program header moves, it stays as it is
pub notes_stay : (r : Resized) (moved : List ℕ) (p : SegmentHeader) (notes : List KeptSection) → anchor_of r.read r.image p ≡ Notes notes → list_any (is_moved moved) notes ≡ false → written_from r moved p ≡ p ∷ []
unfolding targets_by written_by table_by
notes_stay r moved p notes anchor none =
    let targets : List Target = targets_over (places_of_kept (places r moved) (staying_notes moved notes)) ++ targets_over (places_of_kept (places r moved) (moved_notes moved notes)) in
    let no_targets : targets_of r moved p ≡ [] = targets_are r moved p ∙ ap (targets_by r moved) anchor ∙ ap (λ b. if b then targets else []) none in
    written_is r moved p ∙ ap (written_by r moved p) no_targets ∙ ap (λ q. q ∷ []) (table_is r moved p ∙ ap (table_by r moved p) anchor)

-- the program header for a target
written_by-at : (r : Resized) (moved : List ℕ) (p : SegmentHeader) (targets : List Target) (j : ℕ) (t : Target) → slice_get targets j ≡ Some t → slice_get (written_by r moved p targets) j ≡ Some (anchored_to r.image.form p t)
unfolding written_by
written_by-at r moved p [] j t at = absurd (none-some t at)
written_by-at r moved p (u ∷ targets) j t at = at-map (anchored_to r.image.form p) (u ∷ targets) j t at

pub written-at : (r : Resized) (moved : List ℕ) (p : SegmentHeader) (targets : List Target) → targets_of r moved p ≡ targets → (j : ℕ) (t : Target) → slice_get targets j ≡ Some t
    → slice_get (written_from r moved p) j ≡ Some (anchored_to r.image.form p t)
written-at r moved p targets are j t at =
    ap (λ (l : List SegmentHeader). slice_get l j) (written_is r moved p ∙ ap (written_by r moved p) are) ∙ written_by-at r moved p targets j t at

-- the targets of a program header over notes of which some move, and of one that is just over a section
pub notes_targets : (r : Resized) (moved : List ℕ) (p : SegmentHeader) (notes : List KeptSection) → anchor_of r.read r.image p ≡ Notes notes → list_any (is_moved moved) notes ≡ true
    → targets_of r moved p ≡ targets_over (places_of_kept (places r moved) (staying_notes moved notes)) ++ targets_over (places_of_kept (places r moved) (moved_notes moved notes))
unfolding targets_by
notes_targets r moved p notes anchor some =
    let targets : List Target = targets_over (places_of_kept (places r moved) (staying_notes moved notes)) ++ targets_over (places_of_kept (places r moved) (moved_notes moved notes)) in
    targets_are r moved p ∙ ap (targets_by r moved) anchor ∙ ap (λ b. if b then targets else []) some

pub section_targets : (r : Resized) (moved : List ℕ) (p : SegmentHeader) (s : KeptSection) (x : Place) → anchor_of r.read r.image p ≡ OneSection s → slice_get (places r moved) s.position ≡ Some x → targets_of r moved p ≡ target_at x ∷ []
unfolding targets_by
section_targets r moved p s x anchor at = targets_are r moved p ∙ ap (targets_by r moved) anchor ∙ ap (λ o. map target_at (cons_option o [])) at

-- what is written is among the program headers of the plan
behind-at : (adds ps : List SegmentHeader) (i : ℕ) (p : SegmentHeader) → slice_get ps i ≡ Some p → (j : ℕ) × (slice_get (behind_last_load adds ps) j ≡ Some p)
unfolding behind_last_load
behind-at adds [] i p at = absurd (none-some p at)
behind-at adds (q ∷ ps) zero p at = by_test (is_loaded q && not (list_any is_loaded ps))
  where
    by_test : (b : Bool) → (j : ℕ) × (slice_get {X = SegmentHeader} (elim b [ true ↦ q ∷ adds ++ ps | _ ↦ q ∷ behind_last_load adds ps ]) j ≡ Some p)
    by_test true = (zero, at)
    by_test false = (zero, at)
behind-at adds (q ∷ ps) (suc i) p at = by_test (is_loaded q && not (list_any is_loaded ps)) (behind-at adds ps i p at)
  where
    by_test : (b : Bool) → ((j : ℕ) × (slice_get (behind_last_load adds ps) j ≡ Some p)) → (j : ℕ) × (slice_get {X = SegmentHeader} (elim b [ true ↦ q ∷ adds ++ ps | _ ↦ q ∷ behind_last_load adds ps ]) j ≡ Some p)
    by_test true rest = let (j, at_j) = append-back_at adds ps i p at in (suc j, at_j)
    by_test false rest = (suc rest.0, rest.1)

pub plan-at : (r : Resized) (moved : List ℕ) (k : ℕ) (p : SegmentHeader) (i : ℕ) (q : SegmentHeader) → slice_get r.image.segments k ≡ Some p → slice_get (written_from r moved p) i ≡ Some q
    → (j : ℕ) × (slice_get (written_segments r moved) j ≡ Some q)
unfolding written_segments
plan-at r moved k p i q at_p at =
    let (j, at_j) = flat_map-at (written_from r moved) r.image.segments k p i q at_p at in
    behind-at (added_headers r moved) (flat_map (written_from r moved) r.image.segments) j q at_j
