-- The loaded segments that are left of those that were read: what holds of all that were read, and which tests find the same.
use Rattle.std.proofs.Common.{◌≡◌, ℕ, Bool, true, false, cond, ◌||◌, List, [], ◌∷◌, refl, sym, ap, ◌∙◌, subst, inl, inr, Option, Some}
use Rattle.std.specs.Prelude.{find, if◌then◌else◌}
use Rattle.std.specs.List.{list_any}
use Rattle.elf_format.specs.declared.records.SegmentHeader.{SegmentHeader}
use Rattle.elf_format.specs.File.{is_loaded, loads_of}
use Rattle.elf_tables.specs.Edited.{AreUnclaimed, IsReclaimed}
use Rattle.elf_layout_plan.proofs.ApartLists.{Each, Pairs, each-filter, each-more, each-unfilter, pairs-filter, pairs-more, pairs-unfilter}

module _ (table end : ℕ) where
  -- ## Facts of those that were read

  all_left : (P : SegmentHeader → Type 0) (olds ps : List SegmentHeader) → AreUnclaimed table end olds ps → Each P olds → Each P ps
  all_left P [] [] h each = tt
  all_left P [] (p ∷ ps) h each = absurd h
  all_left P (old ∷ olds) [] h each = tt
  all_left P (old ∷ olds) (p ∷ ps) h each = elim h [
    | inl same ↦ (subst P (sym same.0) each.0, all_left P olds ps same.1 each.1)
    | inr gone ↦ all_left P olds (p ∷ ps) gone.1 each.1
  ]

  two_left : (R : SegmentHeader → SegmentHeader → Type 0) (olds ps : List SegmentHeader) → AreUnclaimed table end olds ps → Pairs R olds → Pairs R ps
  two_left R [] [] h pairs = tt
  two_left R [] (p ∷ ps) h pairs = absurd h
  two_left R (old ∷ olds) [] h pairs = tt
  two_left R (old ∷ olds) (p ∷ ps) h pairs = elim h [
    | inl same ↦ (subst (λ (q : SegmentHeader). Each (R q) ps) (sym same.0) (all_left (R old) olds ps same.1 pairs.0), two_left R olds ps same.1 pairs.1)
    | inr gone ↦ two_left R olds (p ∷ ps) gone.1 pairs.1
  ]

  pub each_left : (P : SegmentHeader → Type 0) (olds ps : List SegmentHeader) → AreUnclaimed table end olds ps → Each P (loads_of olds) → Each P (loads_of ps)
  each_left P olds ps h each =
      let If : SegmentHeader → Type 0 = λ p. is_loaded p ≡ true → P p in
      each-more (λ p. (is_loaded p ≡ true) × If p) P (λ p k. k.1 k.0) (loads_of ps)
      (each-filter If is_loaded ps (all_left If olds ps h (each-unfilter P is_loaded olds each)))

  pub pairs_left : (R : SegmentHeader → SegmentHeader → Type 0) (olds ps : List SegmentHeader) → AreUnclaimed table end olds ps → Pairs R (loads_of olds) → Pairs R (loads_of ps)
  pairs_left R olds ps h pairs =
      let If : SegmentHeader → SegmentHeader → Type 0 = λ p q. is_loaded p ≡ true → is_loaded q ≡ true → R p q in
      let left : Pairs If ps = two_left If olds ps h (pairs-unfilter R is_loaded olds pairs) in
      let loaded : Each (λ p. is_loaded p ≡ true) (loads_of ps) =
      each-more (λ p. (is_loaded p ≡ true) × Unit {0}) (λ p. is_loaded p ≡ true) (λ p k. k.0) (loads_of ps) (each-filter (λ p. Unit {0}) is_loaded ps (units ps)) in
      pairs-more If (λ p. is_loaded p ≡ true) R (λ p q a b k. k a b) (loads_of ps) loaded (pairs-filter If is_loaded ps left)
    where
      units : (qs : List SegmentHeader) → Each (λ p. Unit {0}) qs
      units [] = tt
      units (q ∷ qs) = (tt, units qs)

  -- ## A test that fails of each that went

  module _ (test : SegmentHeader → Bool) (fails : (p : SegmentHeader) → IsReclaimed table end p → test p ≡ false) where
    find_skips : (p : SegmentHeader) (ps : List SegmentHeader) → test p ≡ false → find test (loads_of (p ∷ ps)) ≡ find test (loads_of ps)
    find_skips p ps e = by_load (is_loaded p)
      where
        by_load : (b : Bool) → find test (cond b (p ∷ loads_of ps) (loads_of ps)) ≡ find test (loads_of ps)
        by_load true = ap (λ (c : Bool). if c then Some p else find test (loads_of ps)) e
        by_load false = refl

    find_behind : (p : SegmentHeader) (ps qs : List SegmentHeader) → find test (loads_of ps) ≡ find test (loads_of qs)
        → (b : Bool) → find test (cond b (p ∷ loads_of ps) (loads_of ps)) ≡ find test (cond b (p ∷ loads_of qs) (loads_of qs))
    find_behind p ps qs e true = ap (λ (o : Option SegmentHeader). if test p then Some p else o) e
    find_behind p ps qs e false = e

    -- the first that passes is the same
    pub find_left : (olds ps : List SegmentHeader) → AreUnclaimed table end olds ps → find test (loads_of ps) ≡ find test (loads_of olds)
    find_left [] [] h = refl
    find_left [] (p ∷ ps) h = absurd h
    find_left (old ∷ olds) [] h = find_left olds [] h.1 ∙ sym (find_skips old olds (fails old h.0))
    find_left (old ∷ olds) (p ∷ ps) h = elim h [
      | inl same ↦ ap (λ (q : SegmentHeader). find test (loads_of (q ∷ ps))) same.0 ∙ find_behind old ps olds (find_left olds ps same.1) (is_loaded old)
      | inr gone ↦ find_left olds (p ∷ ps) gone.1 ∙ sym (find_skips old olds (fails old gone.0))
    ]

    any_skips : (p : SegmentHeader) (ps : List SegmentHeader) → test p ≡ false → list_any test (loads_of (p ∷ ps)) ≡ list_any test (loads_of ps)
    any_skips p ps e = by_load (is_loaded p)
      where
        by_load : (b : Bool) → list_any test (cond b (p ∷ loads_of ps) (loads_of ps)) ≡ list_any test (loads_of ps)
        by_load true = ap (λ (c : Bool). c || list_any test (loads_of ps)) e
        by_load false = refl

    any_behind : (p : SegmentHeader) (ps qs : List SegmentHeader) → list_any test (loads_of ps) ≡ list_any test (loads_of qs)
        → (b : Bool) → list_any test (cond b (p ∷ loads_of ps) (loads_of ps)) ≡ list_any test (cond b (p ∷ loads_of qs) (loads_of qs))
    any_behind p ps qs e true = ap (λ (c : Bool). test p || c) e
    any_behind p ps qs e false = e

    -- some of the loaded segments that are left pass where some passed
    pub any_left : (olds ps : List SegmentHeader) → AreUnclaimed table end olds ps → list_any test (loads_of ps) ≡ list_any test (loads_of olds)
    any_left [] [] h = refl
    any_left [] (p ∷ ps) h = absurd h
    any_left (old ∷ olds) [] h = any_left olds [] h.1 ∙ sym (any_skips old olds (fails old h.0))
    any_left (old ∷ olds) (p ∷ ps) h = elim h [
      | inl same ↦ ap (λ (q : SegmentHeader). list_any test (loads_of (q ∷ ps))) same.0 ∙ any_behind old ps olds (any_left olds ps same.1) (is_loaded old)
      | inr gone ↦ any_left olds (p ∷ ps) gone.1 ∙ sym (any_skips old olds (fails old gone.0))
    ]
