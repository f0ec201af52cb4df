-- The marks that a walk makes, one block after the other.
use Rattle.std.proofs.Common.{◌≡◌, ◌≢◌, ℕ, ◌+◌, ◌<◌, ◌≤◌, zero, suc, List, [], ◌∷◌, Bool, true, false, Some, drop, get_or, length, refl, sym, ap, ◌∙◌, subst, inl, inr, arith}
use Rattle.std.specs.Prelude.{if◌then◌else◌, slice_get}
use Rattle.std.proofs.lemmas.Bool.{cases_Bool, cases_eq}
use Rattle.std.proofs.lemmas.List.{drop_more, ext_get_or}
use Rattle.std.proofs.lemmas.Option.{get_or_from_slice_get, same_Some}
use Rattle.elf_layout_plan.specs.Marks.{marks, marks_behind}

module _ {A : Type 0} (earlier later : A → A → Bool) where
  -- the marks of the blocks behind one, and its own
  abbrev own : A → List A → Bool
  own last bs = (marks_behind earlier later last bs).0

  abbrev behind : A → List A → List Bool
  behind last bs = (marks_behind earlier later last bs).1

  abbrev one_more : Bool → Bool → Bool × List Bool → Bool × List Bool → Bool × List Bool
  one_more moves stays over on = if moves then (over.0, true ∷ over.1) else (stays, on.0 ∷ on.1)

  -- the next one moves
  over : (last b : A) (bs : List A) → later last b ≡ true
      → (own last (b ∷ bs) ≡ own last bs) × (behind last (b ∷ bs) ≡ true ∷ behind last bs)
  unfolding marks_behind
  over last b bs is =
      let all = ap (λ (t : Bool). one_more t (earlier last b) (marks_behind earlier later last bs) (marks_behind earlier later b bs)) is in
      (ap (λ (x : Bool × List Bool). x.0) all, ap (λ (x : Bool × List Bool). x.1) all)

  -- the next one stays so far
  on : (last b : A) (bs : List A) → later last b ≡ false
      → (own last (b ∷ bs) ≡ earlier last b) × (behind last (b ∷ bs) ≡ own b bs ∷ behind b bs)
  unfolding marks_behind
  on last b bs isnt =
      let all = ap (λ (t : Bool). one_more t (earlier last b) (marks_behind earlier later last bs) (marks_behind earlier later b bs)) isnt in
      (ap (λ (x : Bool × List Bool). x.0) all, ap (λ (x : Bool × List Bool). x.1) all)

  length-behind : (last : A) (bs : List A) → length (behind last bs) ≡ length bs
  unfolding marks_behind
  length-behind last [] = refl
  length-behind last (b ∷ bs) = elim (cases_Bool (later last b)) [
    | inl is ↦ ap length (over last b bs is).1 ∙ ap suc (length-behind last bs)
    | inr isnt ↦ ap length (on last b bs isnt).1 ∙ ap suc (length-behind b bs)
  ]

  pub length-marks : (bs : List A) → length (marks earlier later bs) ≡ length bs
  length-marks [] = refl
  length-marks (b ∷ bs) = ap suc (length-behind b bs)

  none_behind : (last : A) → (own last [] ≡ false) × (behind last [] ≡ [])
  unfolding marks_behind
  none_behind last = (refl, refl)

  -- What a walk has marked so far, of which one was the last that stays.
  pub record IsMarked (blocks : List A) (moves : List Bool) (last next : ℕ) : Type 0 where
    pub others : (k : ℕ) → k < next → k ≢ last → get_or moves k false ≡ get_or (marks earlier later blocks) k false
    pub own_mark : (x : A) → slice_get blocks last ≡ Some x → get_or (marks earlier later blocks) last false ≡ own x (drop next blocks)
    pub rest : (x : A) → slice_get blocks last ≡ Some x → drop next (marks earlier later blocks) ≡ behind x (drop next blocks)

  pub marking_starts : (blocks : List A) (moves : List Bool) → IsMarked blocks moves 0 1
  marking_starts [] moves = record {
    others = λ k early other. absurd (other (omega arith));
    own_mark = λ x at. cc at;
    rest = λ x at. cc at;
  }
  marking_starts (b ∷ bs) moves = record {
    others = λ k early other. absurd (other (omega arith));
    own_mark = λ x at. ap (λ (y : A). own y bs) (same_Some b x at);
    rest = λ x at. ap (λ (y : A). behind y bs) (same_Some b x at);
  }

  -- what begins a list is at its place, and the rest behind it
  first_at : (ms : List Bool) (k : ℕ) (m : Bool) (rest : List Bool) → drop k ms ≡ m ∷ rest → (get_or ms k false ≡ m) × (drop (k + 1) ms ≡ rest)
  first_at [] zero m rest is = cc is
  first_at [] (suc k) m rest is = cc is
  first_at (x ∷ ms) zero m rest is = (ap (λ (l : List Bool). get_or l 0 false) is, ap (λ (l : List Bool). drop 1 l) is)
  first_at (x ∷ ms) (suc k) m rest is =
      let there = first_at ms k m rest is in
      let same : suc k + 1 ≡ suc (k + 1) = omega arith in
      (there.0, ap (λ (n : ℕ). drop n (x ∷ ms)) same ∙ there.1)

  module _ (blocks : List A) (moves : List Bool) (last next : ℕ) (l b : A) (before : last < next) (within : next < length blocks)
      (at_last : slice_get blocks last ≡ Some l) (at_next : slice_get blocks next ≡ Some b) (w : IsMarked blocks moves last next) where
    abbrev others_behind : List A
    others_behind = drop (next + 1) blocks

    ahead : drop next blocks ≡ b ∷ others_behind
    ahead = drop_more blocks next b within ∙ ap (λ (x : A). x ∷ others_behind) (get_or_from_slice_get blocks next b b at_next)

    abbrev all : List Bool
    all = marks earlier later blocks

    pub marking_over : (made : List Bool) → later l b ≡ true → ((k : ℕ) → k ≢ next → get_or made k false ≡ get_or moves k false)
        → get_or made next false ≡ true → IsMarked blocks made last (next + 1)
    marking_over made is kept there =
        let parts = over l b others_behind is in
        let told : drop next all ≡ true ∷ behind l others_behind = w.rest l at_last ∙ ap (behind l) ahead ∙ parts.1 in
        let first = first_at all next true (behind l others_behind) told in
        record {
          others = λ k early other. elim (cases_eq k next) [
            | inl same ↦ subst (λ (n : ℕ). get_or made n false ≡ get_or all n false) (sym same) (there ∙ sym first.0)
            | inr apart ↦ kept k apart ∙ w.others k (omega (arith, early, apart)) other
          ];
          own_mark = λ x at. w.own_mark l at_last ∙ ap (own l) ahead ∙ parts.0 ∙ ap (λ (y : A). own y others_behind) (same_Some l x (sym at_last ∙ at));
          rest = λ x at. first.1 ∙ ap (λ (y : A). behind y others_behind) (same_Some l x (sym at_last ∙ at));
        }

    pub marking_on : (made : List Bool) → later l b ≡ false → ((k : ℕ) → k ≢ last → get_or made k false ≡ get_or moves k false)
        → get_or made last false ≡ earlier l b → IsMarked blocks made next (next + 1)
    marking_on made isnt kept there =
        let parts = on l b others_behind isnt in
        let told : drop next all ≡ own b others_behind ∷ behind b others_behind = w.rest l at_last ∙ ap (behind l) ahead ∙ parts.1 in
        let first = first_at all next (own b others_behind) (behind b others_behind) told in
        let mine : get_or all last false ≡ earlier l b = w.own_mark l at_last ∙ ap (own l) ahead ∙ parts.0 in
        record {
          others = λ k early other. elim (cases_eq k last) [
            | inl same ↦ subst (λ (n : ℕ). get_or made n false ≡ get_or all n false) (sym same) (there ∙ sym mine)
            | inr apart ↦ kept k apart ∙ w.others k (omega (arith, early, other)) apart
          ];
          own_mark = λ x at. first.0 ∙ ap (λ (y : A). own y others_behind) (same_Some b x (sym at_next ∙ at));
          rest = λ x at. first.1 ∙ ap (λ (y : A). behind y others_behind) (same_Some b x (sym at_next ∙ at));
        }

  -- nothing is left: the marks are those of the blocks
  pub marking_ends : (blocks : List A) (moves : List Bool) (last next : ℕ) → length moves ≡ length blocks → length blocks ≤ next
      → (last < length blocks → slice_get moves last ≡ Some false) → IsMarked blocks moves last next → moves ≡ marks earlier later blocks
  marking_ends blocks moves last next many past stays w =
      let all : List Bool = marks earlier later blocks in
      ext_get_or false moves all (many ∙ sym (length-marks blocks)) (λ k below. elim (cases_eq k last) [
        | inl same ↦
            let here : last < length blocks = omega (arith, same, below, many) in
            let x : A = get_or_of blocks last here in
            let at : slice_get blocks last ≡ Some x = at_of blocks last here in
            let none : own x (drop next blocks) ≡ false = ap (own x) (drop_past blocks next past) ∙ (none_behind x).0 in
            subst (λ (n : ℕ). get_or moves n false ≡ get_or all n false) (sym same)
            (get_or_from_slice_get moves last false false (stays here) ∙ sym (w.own_mark x at ∙ none))
        | inr apart ↦ w.others k (omega (arith, below, past, many)) apart
      ])
    where
      get_or_of : (xs : List A) (k : ℕ) → k < length xs → A
      get_or_of [] k within = absurd (omega (arith, within))
      get_or_of (x ∷ xs) zero within = x
      get_or_of (x ∷ xs) (suc k) within = get_or_of xs k (omega (arith, within))

      at_of : (xs : List A) (k : ℕ) (within : k < length xs) → slice_get xs k ≡ Some (get_or_of xs k within)
      at_of [] k within = absurd (omega (arith, within))
      at_of (x ∷ xs) zero within = refl
      at_of (x ∷ xs) (suc k) within = at_of xs k (omega (arith, within))

      drop_past : (xs : List A) (k : ℕ) → length xs ≤ k → drop k xs ≡ []
      drop_past [] zero past = refl
      drop_past [] (suc k) past = refl
      drop_past (x ∷ xs) zero past = absurd (omega (arith, past))
      drop_past (x ∷ xs) (suc k) past = drop_past xs k (omega (arith, past))
