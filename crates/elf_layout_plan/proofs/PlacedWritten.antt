-- The program headers that are written: which of them are loaded, and how many there are.
use Rattle.std.proofs.Common.{◌≡◌, ◌≤◌, ◌⊎◌, ℕ, ◌+◌, Bool, true, false, cond, List, [], ◌∷◌, ◌++◌, map, length, refl, sym, ap, ◌∙◌, subst, inl, inr, arith}
use Rattle.std.specs.Prelude.{◌&&◌, ◌||◌, not, ◌==◌}
use Rattle.std.specs.List.{flat_map, list_any}
use Rattle.std.proofs.lemmas.Bool.{both_ways, cond-false, cond-true, eq-eqb, eqb-true, false_from_ne_true, false≢true, or_parts, true≢false}
use Rattle.std.proofs.lemmas.List.{append-nil, length-append}
use Rattle.std.proofs.lemmas.List.Elements.{filter-append}
use Rattle.elf_format.specs.declared.constants.TheConstants.{PT_LOAD}
use Rattle.elf_format.specs.declared.records.SegmentHeader.{SegmentHeader}
use Rattle.elf_format.specs.File.{is_loaded, loads_of}
use Rattle.elf_layout_plan.specs.Added.{added_loads}
use Rattle.elf_layout_plan.specs.Anchors.{HeaderTable, Itself, Anchor, Notes, OneSection, anchor_of}
use Rattle.elf_layout_plan.specs.Memory.{Resized}
use Rattle.elf_layout_plan.specs.Standing.{places}
use Rattle.elf_layout_plan.specs.Written.{Target, behind_last_load, anchored_to, places_of_kept, resized_table, target_at, targets_of, targets_of_notes, with_table_size, written_from, written_segments}
use Rattle.elf_layout_plan.proofs.PlacedLists.{Has, any-at, any-from, append-at, filter-at, filter-from, flat_map-at, has_cases, has_here, has_none, has_there, map-at}
use Rattle.elf_layout_plan.proofs.PlacedAdded.{is_added}

-- ## Loaded segments of a list

none_loaded : (ps : List SegmentHeader) → ((q : SegmentHeader) → Has q ps → is_loaded q ≡ false) → loads_of ps ≡ []
none_loaded [] none = refl
none_loaded (p ∷ ps) none =
    cond-false (is_loaded p) (p ∷ loads_of ps) (loads_of ps) (none p (has_here p ps)) ∙ none_loaded ps (λ q here. none q (has_there q p ps here))

all_loaded : (ps : List SegmentHeader) → ((q : SegmentHeader) → Has q ps → is_loaded q ≡ true) → loads_of ps ≡ ps
all_loaded [] all = refl
all_loaded (p ∷ ps) all =
    cond-true (is_loaded p) (p ∷ loads_of ps) (loads_of ps) (all p (has_here p ps))
    ∙ ap (λ (qs : List SegmentHeader). p ∷ qs) (all_loaded ps (λ q here. all q (has_there q p ps here)))

any_none : (ps : List SegmentHeader) → list_any is_loaded ps ≡ false → loads_of ps ≡ []
any_none ps none = none_loaded ps (λ q here. false_from_ne_true (is_loaded q)
    (λ loaded. both_ways (list_any is_loaded ps) none (any-from is_loaded ps q here loaded)))

pub any_loaded : (ps qs : List SegmentHeader) → loads_of ps ≡ loads_of qs → list_any is_loaded ps ≡ true → list_any is_loaded qs ≡ true
any_loaded ps qs same any =
    let found = any-at is_loaded ps any in
    let among = subst (λ (l : List SegmentHeader). Has found.element l) same (filter-from is_loaded ps found.element found.here found.passes) in
    let back = filter-at is_loaded qs found.element among in
    any-from is_loaded qs found.element back.0 back.1

-- ## What becomes of one program header

module _ (r : Resized) (moved : List ℕ) where
  -- with a new size of the table it keeps its type
  pub table_type : (p : SegmentHeader) (anchor : Anchor) → (elim
      anchor as (λ _. SegmentHeader) [ HeaderTable ↦ with_table_size r moved p | _ ↦ p ]).p_type ≡ p.p_type
  table_type p Itself = refl
  table_type p HeaderTable = refl
  table_type p (OneSection s) = refl
  table_type p (Notes notes) = refl

  written_by : (p : SegmentHeader) (targets : List Target) (q : SegmentHeader)
      → Has q (elim targets as (λ _. List SegmentHeader) [ [] ↦ resized_table r moved p ∷ [] | t ∷ ts ↦ map (anchored_to r.image.form p) (t ∷ ts) ])
      → q.p_type ≡ p.p_type
  written_by p [] q h = elim (has_cases q (resized_table r moved p) [] h) [
    | inl same ↦ ap (λ (x : SegmentHeader). x.p_type) (sym same) ∙ table_type p (anchor_of r.read r.image p)
    | inr later ↦ absurd (has_none q later)
  ]
  written_by p (t ∷ ts) q h = let made = map-at (anchored_to r.image.form p) (t ∷ ts) q h in ap (λ (x : SegmentHeader). x.p_type) (sym made.made)

  -- a program header that is written keeps its type
  same_type : (p q : SegmentHeader) → Has q (written_from r moved p) → q.p_type ≡ p.p_type
  same_type p q h = written_by p (targets_of r moved p) q h

  -- a loaded one stays as it is
  pub anchor-load : (p : SegmentHeader) → (p.p_type == PT_LOAD) ≡ true → anchor_of r.read r.image p ≡ Itself
  unfolding anchor_of
  anchor-load p h = cond-true (p.p_type == PT_LOAD) Itself _ h

  targets-itself : (p : SegmentHeader) → anchor_of r.read r.image p ≡ Itself → targets_of r moved p ≡ []
  unfolding targets_of
  targets-itself p h = ap (λ (anchor : Anchor). elim anchor as (λ _. List Target) [
    | Itself ↦ []
    | HeaderTable ↦ []
    | OneSection s ↦ map target_at (places_of_kept (places r moved) (s ∷ []))
    | Notes notes ↦ targets_of_notes moved (places r moved) notes
  ]) h

  load_stays : (p : SegmentHeader) → is_loaded p ≡ true → written_from r moved p ≡ p ∷ []
  load_stays p h =
      let anchor = anchor-load p h in
      ap (λ (ts : List Target). elim ts as (λ _. List SegmentHeader) [
        | [] ↦ resized_table r moved p ∷ []
        | t ∷ us ↦ map (anchored_to r.image.form p) (t ∷ us)
      ]) (targets-itself p anchor)
      ∙ ap (λ (l : Anchor). (elim l as (λ _. SegmentHeader) [ HeaderTable ↦ with_table_size r moved p | _ ↦ p ]) ∷ []) anchor

  loads_by : (p : SegmentHeader) (b : Bool) → is_loaded p ≡ b → loads_of (written_from r moved p) ≡ cond b (p ∷ []) []
  loads_by p true h = ap loads_of (load_stays p h) ∙ cond-true (is_loaded p) (p ∷ []) [] h
  loads_by p false h = none_loaded (written_from r moved p) (λ q here. ap (λ (n : ℕ). n == PT_LOAD) (same_type p q here) ∙ h)

  append_one : (p : SegmentHeader) (ps : List SegmentHeader) (b : Bool) → cond b (p ∷ []) [] ++ ps ≡ cond b (p ∷ ps) ps
  append_one p ps true = refl
  append_one p ps false = refl

  -- the loaded ones are the image's
  loads_written : (ps : List SegmentHeader) → loads_of (flat_map (written_from r moved) ps) ≡ loads_of ps
  loads_written [] = refl
  loads_written (p ∷ ps) =
      filter-append is_loaded (written_from r moved p) (flat_map (written_from r moved) ps)
      ∙ ap (λ (l : List SegmentHeader). l ++ loads_of (flat_map (written_from r moved) ps)) (loads_by p (is_loaded p) refl)
      ∙ ap (λ (l : List SegmentHeader). cond (is_loaded p) (p ∷ []) [] ++ l) (loads_written ps)
      ∙ append_one p (loads_of ps) (is_loaded p)

-- ## Those that are added

-- behind the last loaded one, or nowhere
put_by : (more : List SegmentHeader) (p : SegmentHeader) (ps : List SegmentHeader)
    → (list_any is_loaded ps ≡ true → loads_of (behind_last_load more ps) ≡ loads_of ps ++ loads_of more)
    → (list_any is_loaded ps ≡ false → loads_of (behind_last_load more ps) ≡ [])
    → (a : Bool) → is_loaded p ≡ a → (b : Bool) → list_any is_loaded ps ≡ b → (a || b) ≡ true
    → loads_of (elim (a && not b) as (λ _. List SegmentHeader) [ true ↦ p ∷ more ++ ps | _ ↦ p ∷ behind_last_load more ps ]) ≡ loads_of
    (p ∷ ps) ++ loads_of more
put_by more p ps some none true loaded true later h =
    cond-true (is_loaded p) (p ∷ loads_of (behind_last_load more ps)) (loads_of (behind_last_load more ps)) loaded
    ∙ ap (λ (l : List SegmentHeader). p ∷ l) (some later)
    ∙ sym (ap (λ (l : List SegmentHeader). l ++ loads_of more) (cond-true (is_loaded p) (p ∷ loads_of ps) (loads_of ps) loaded))
put_by more p ps some none true loaded false later h =
    cond-true (is_loaded p) (p ∷ loads_of (more ++ ps)) (loads_of (more ++ ps)) loaded
    ∙ ap (λ (l : List SegmentHeader). p ∷ l) (filter-append is_loaded more ps
    ∙ ap (λ (l : List SegmentHeader). loads_of more ++ l) (any_none ps later) ∙ append-nil (loads_of more))
    ∙ sym (ap (λ (l : List SegmentHeader). l ++ loads_of more)
    (cond-true (is_loaded p) (p ∷ loads_of ps) (loads_of ps) loaded ∙ ap (λ (l : List SegmentHeader). p ∷ l) (any_none ps later)))
put_by more p ps some none false loaded true later h =
    cond-false (is_loaded p) (p ∷ loads_of (behind_last_load more ps)) (loads_of (behind_last_load more ps)) loaded
    ∙ some later
    ∙ sym (ap (λ (l : List SegmentHeader). l ++ loads_of more) (cond-false (is_loaded p) (p ∷ loads_of ps) (loads_of ps) loaded))
put_by more p ps some none false loaded false later h = absurd (false≢true h)

none_by : (more : List SegmentHeader) (p : SegmentHeader) (ps : List SegmentHeader) → loads_of (behind_last_load more ps) ≡ [] → (a : Bool)
    → is_loaded p ≡ a → a ≡ false → (b : Bool)
    → loads_of (elim (a && not b) as (λ _. List SegmentHeader) [ true ↦ p ∷ more ++ ps | _ ↦ p ∷ behind_last_load more ps ]) ≡ []
none_by more p ps none true loaded is b = absurd (true≢false is)
none_by more p ps none false loaded is b = cond-false (is_loaded p) (p ∷ loads_of (behind_last_load more ps))
    (loads_of (behind_last_load more ps)) loaded ∙ none

put_nowhere : (more ps : List SegmentHeader) → list_any is_loaded ps ≡ false → loads_of (behind_last_load more ps) ≡ []
unfolding behind_last_load
put_nowhere more [] none = refl
put_nowhere more (p ∷ ps) none =
    let both = or_parts (is_loaded p) (list_any is_loaded ps) none in
    none_by more p ps (put_nowhere more ps both.1) (is_loaded p) refl both.0 (list_any is_loaded ps)

put_behind : (more ps : List SegmentHeader) → list_any is_loaded ps ≡ true → loads_of (behind_last_load more ps) ≡ loads_of ps ++ loads_of more
unfolding behind_last_load
put_behind more [] some = absurd (false≢true some)
put_behind more (p ∷ ps) some = put_by more p ps (put_behind more ps) (put_nowhere more ps) (is_loaded p) refl (list_any is_loaded ps) refl some

among_by : (more : List SegmentHeader) (p : SegmentHeader) (ps : List SegmentHeader) (q : SegmentHeader)
    → (Has q (behind_last_load more ps) → Has q more ⊎ Has q ps) → (b : Bool)
    → Has q (elim b as (λ _. List SegmentHeader) [ true ↦ p ∷ more ++ ps | _ ↦ p ∷ behind_last_load more ps ]) → Has q more ⊎ Has q (p ∷ ps)
among_by more p ps q rest true h = elim (has_cases q p (more ++ ps) h) [
  | inl same ↦ inr (subst (λ (x : SegmentHeader). Has x (p ∷ ps)) same (has_here p ps))
  | inr later ↦ elim (append-at more ps q later) [ inl l ↦ inl l | inr l ↦ inr (has_there q p ps l) ]
]
among_by more p ps q rest false h = elim (has_cases q p (behind_last_load more ps) h) [
  | inl same ↦ inr (subst (λ (x : SegmentHeader). Has x (p ∷ ps)) same (has_here p ps))
  | inr later ↦ elim (rest later) [ inl l ↦ inl l | inr l ↦ inr (has_there q p ps l) ]
]

among : (more ps : List SegmentHeader) (q : SegmentHeader) → Has q (behind_last_load more ps) → Has q more ⊎ Has q ps
unfolding behind_last_load
among more [] q h = absurd (has_none q h)
among more (p ∷ ps) q h = among_by more p ps q (among more ps q) (is_loaded p && not (list_any is_loaded ps)) h

length_by : (more : List SegmentHeader) (p : SegmentHeader) (ps : List SegmentHeader)
    → length (behind_last_load more ps) ≤ length more + length ps → (b : Bool)
    → length (elim b as (λ _. List SegmentHeader) [ true ↦ p ∷ more ++ ps | _ ↦ p ∷ behind_last_load more ps ]) ≤ length more + length (p ∷ ps)
length_by more p ps rest true = omega (arith, length-append more ps)
length_by more p ps rest false = omega (arith, rest)

pub length-behind : (more ps : List SegmentHeader) → length (behind_last_load more ps) ≤ length more + length ps
unfolding behind_last_load
length-behind more [] = omega arith
length-behind more (p ∷ ps) = length_by more p ps (length-behind more ps) (is_loaded p && not (list_any is_loaded ps))

-- ## All of them

abbrev pub headers_added : Resized → List ℕ → List SegmentHeader
headers_added r moved = map (λ load. load.header) (added_loads r moved)

module _ (r : Resized) (moved : List ℕ) where
  added_loaded : (q : SegmentHeader) → Has q (headers_added r moved) → is_loaded q ≡ true
  added_loaded q h =
      let made = map-at (λ load. load.header) (added_loads r moved) q h in
      eq-eqb q.p_type PT_LOAD (ap (λ (x : SegmentHeader). x.p_type) (sym made.made) ∙ (is_added r moved made.source made.here).loaded)

  -- the loaded ones are the image's, and behind them those that are added
  pub written_loads : list_any is_loaded r.image.segments ≡ true
      → loads_of (written_segments r moved) ≡ loads_of r.image.segments ++ headers_added r moved
  unfolding written_segments
  written_loads any =
      let base : List SegmentHeader = flat_map (written_from r moved) r.image.segments in
      let same : loads_of base ≡ loads_of r.image.segments = loads_written r moved r.image.segments in
      put_behind (headers_added r moved) base (any_loaded r.image.segments base (sym same) any)
      ∙ ap (λ (l : List SegmentHeader). l ++ loads_of (headers_added r moved)) same
      ∙ ap (λ (l : List SegmentHeader). loads_of r.image.segments ++ l) (all_loaded (headers_added r moved) added_loaded)

  -- without any, none is loaded
  pub no_loads : list_any is_loaded r.image.segments ≡ false → loads_of (written_segments r moved) ≡ []
  unfolding written_segments
  no_loads none =
      let base : List SegmentHeader = flat_map (written_from r moved) r.image.segments in
      let same : loads_of base ≡ loads_of r.image.segments = loads_written r moved r.image.segments in
      put_nowhere (headers_added r moved) base
      (false_from_ne_true (list_any is_loaded base) (λ any. both_ways (list_any is_loaded r.image.segments) none
      (any_loaded base r.image.segments same any)))

  -- a program header of a type that isn't loaded is made of one of the image
  pub type_was : (type : ℕ) → (PT_LOAD == type) ≡ false → list_any (λ p. p.p_type == type) (written_segments r moved) ≡ true
      → list_any (λ p. p.p_type == type) r.image.segments ≡ true
  unfolding written_segments
  type_was type other any =
      let base : List SegmentHeader = flat_map (written_from r moved) r.image.segments in
      let found = any-at (λ p. p.p_type == type) (behind_last_load (headers_added r moved) base) any in
      elim (among (headers_added r moved) base found.element found.here) [
        | inl added ↦
            let loaded : found.element.p_type ≡ PT_LOAD = eqb-true found.element.p_type PT_LOAD (added_loaded found.element added) in
            absurd (both_ways (PT_LOAD == type) other (ap (λ (n : ℕ). n == type) (sym loaded) ∙ found.passes))
        | inr kept ↦
            let at = flat_map-at (written_from r moved) r.image.segments found.element kept in
            any-from (λ p. p.p_type == type) r.image.segments at.source at.here
            (ap (λ (n : ℕ). n == type) (sym (same_type r moved at.source found.element at.among)) ∙ found.passes)
      ]
