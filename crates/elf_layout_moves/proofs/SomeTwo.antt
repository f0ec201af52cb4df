-- Whether a test holds of some two blocks of a list: in whatever order the list stands, and for a part of it.
use Rattle.std.proofs.Common.{◌≡◌, ◌≢◌, ℕ, zero, suc, ◌<◌, List, [], ◌∷◌, ◌++◌, Bool, true, false, ◌||◌, length, refl, sym, ap, ◌∙◌, subst, inl, inr, get_or, arith}
use Rattle.std.specs.Prelude.{IsPermutation, Some, slice_get}
use Rattle.std.specs.List.{list_any}
use Rattle.std.proofs.lemmas.Bool.{cases_Bool, or_from, or_parts, or_right}
use Rattle.std.proofs.lemmas.List.Folds.{list_any_at, list_any_none}
use Rattle.std.proofs.lemmas.List.Sorted.{IsPermutation-sym}
use Rattle.std.proofs.lemmas.Option.{get_or_from_slice_get, slice_get_within}
use Rattle.elf_layout_plan.specs.Blocks.{Block, some_two}
use Rattle.elf_layout_moves.proofs.TwoPlaces.{AtAnyTwo, at_any_two-IsPermutation}

module _ (test : Block → Block → Bool) where
  -- the test fails of two blocks
  abbrev pub Fails : Block → Block → Type 0
  Fails a b = test a b ≡ false

  abbrev either : Block → Block → Bool
  either b c = test b c || test c b

  -- a test that fails of each two blocks fails of the first and each other one
  none_with_first : (b : Block) (bs : List Block) → AtAnyTwo Fails (b ∷ bs) → list_any (either b) bs ≡ false
  none_with_first b bs all = list_any_none (either b) bs (λ k d within.
      or_from (test b (get_or bs k d)) (test (get_or bs k d) b) (all zero (suc k) d (omega arith) (omega arith) (omega arith)) (all (suc k) zero d (omega arith) (omega arith) (omega arith)))

  pub none_of_two : (bs : List Block) → AtAnyTwo Fails bs → some_two test bs ≡ false
  unfolding some_two
  none_of_two [] all = refl
  none_of_two (b ∷ bs) all =
      or_from (list_any (either b) bs) (some_two test bs) (none_with_first b bs all)
      (none_of_two bs (λ m n d apart p q. all (suc m) (suc n) d (omega arith) (omega arith) (omega arith)))

  -- one element that passes is in the list
  any_fails : (p : Block → Bool) (bs : List Block) (k : ℕ) (d : Block) → k < length bs → list_any p bs ≡ false → p (get_or bs k d) ≡ false
  any_fails p bs k d within none = elim (cases_Bool (p (get_or bs k d))) [
    | inl is ↦ let there = list_any_at p bs k d within is in cc (there, none)
    | inr isnt ↦ isnt
  ]

  -- a test that fails of the first and each other block, and of each two others, fails of each two
  at_places : (b : Block) (bs : List Block) → list_any (either b) bs ≡ false → AtAnyTwo Fails bs → AtAnyTwo Fails (b ∷ bs)
  at_places b bs none rest zero zero d apart p q = absurd (apart refl)
  at_places b bs none rest zero (suc n) d apart p q =
      (or_parts (test b (get_or bs n d)) (test (get_or bs n d) b) (any_fails (either b) bs n d (omega arith) none)).0
  at_places b bs none rest (suc m) zero d apart p q =
      (or_parts (test b (get_or bs m d)) (test (get_or bs m d) b) (any_fails (either b) bs m d (omega arith) none)).1
  at_places b bs none rest (suc m) (suc n) d apart p q = rest m n d (λ same. apart (ap suc same)) (omega arith) (omega arith)

  pub fails_of_two : (bs : List Block) → some_two test bs ≡ false → AtAnyTwo Fails bs
  unfolding some_two
  fails_of_two [] none = λ m n d apart p q. absurd (omega (arith, p))
  fails_of_two (b ∷ bs) none =
      let parts = or_parts (list_any (either b) bs) (some_two test bs) none in
      at_places b bs parts.0 (fails_of_two bs parts.1)

  -- a test that holds of two blocks at different places holds of some two
  pub holds_of_two : (bs : List Block) (m n : ℕ) (a b : Block) → m ≢ n → slice_get bs m ≡ Some a → slice_get bs n ≡ Some b → test a b ≡ true
      → some_two test bs ≡ true
  holds_of_two bs m n a b apart at_m at_n is = elim (cases_Bool (some_two test bs)) [
    | inl some ↦ some
    | inr none ↦
        let fails = fails_of_two bs none m n a apart (slice_get_within bs m a at_m) (slice_get_within bs n b at_n) in
        let x : get_or bs m a ≡ a = get_or_from_slice_get bs m a a at_m in
        let y : get_or bs n a ≡ b = get_or_from_slice_get bs n b a at_n in
        let isnt : test a b ≡ false = subst (λ (c : Block). test c b ≡ false) x (subst (λ (c : Block). test (get_or bs m a) c ≡ false) y fails) in
        cc (is, isnt)
  ]

  -- the order of the list doesn't matter
  pub some_two-IsPermutation : (xs ys : List Block) → IsPermutation xs ys → some_two test xs ≡ some_two test ys
  some_two-IsPermutation xs ys same = elim (cases_Bool (some_two test xs)) [
    | inr none ↦ none ∙ sym (none_of_two ys (at_any_two-IsPermutation Fails xs ys same (fails_of_two xs none)))
    | inl some ↦ elim (cases_Bool (some_two test ys)) [
      | inl some_there ↦ some ∙ sym some_there
      | inr none_there ↦
          let none : some_two test xs ≡ false = none_of_two xs (at_any_two-IsPermutation Fails ys xs (IsPermutation-sym xs ys same) (fails_of_two ys none_there)) in
          cc (some, none)
    ]
  ]

  -- blocks of which the test fails with any other may be left out
  pub some_two-without : (outs bs : List Block) → ((k : ℕ) (o x : Block) → slice_get outs k ≡ Some o → (test o x ≡ false) × (test x o ≡ false))
      → some_two test (outs ++ bs) ≡ some_two test bs
  unfolding some_two
  some_two-without [] bs fail = refl
  some_two-without (o ∷ outs) bs fail =
      let first : list_any (either o) (outs ++ bs) ≡ false = list_any_none (either o) (outs ++ bs) (λ k d within.
      let both = fail zero o (get_or (outs ++ bs) k d) refl in or_from (test o (get_or (outs ++ bs) k d)) (test (get_or (outs ++ bs) k d) o) both.0 both.1) in
      ap (λ (b : Bool). b || some_two test (outs ++ bs)) first ∙ some_two-without outs bs (λ k p x at. fail (suc k) p x at)

  -- what holds of two of a part holds of two of all
  pub some_two-part : (outs bs : List Block) → some_two test bs ≡ true → some_two test (outs ++ bs) ≡ true
  unfolding some_two
  some_two-part [] bs some = some
  some_two-part (o ∷ outs) bs some = or_right (list_any (either o) (outs ++ bs)) (some_two test (outs ++ bs)) (some_two-part outs bs some)
