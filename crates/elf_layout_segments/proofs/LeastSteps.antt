-- The least of numbers that stand side by side, and of stretches.
use Rattle.std.proofs.Common.{◌≡◌, ◌⊎◌, ℕ, zero, suc, ◌+◌, ◌-◌, ◌<◌, ◌≤◌, List, [], ◌∷◌, ◌++◌, Bool, true, false, ◌||◌, Some, drop, get_or, length, min, replicate, set, take, refl, sym, ap, ◌∙◌, subst, inl, inr, arith}
use Rattle.std.specs.Prelude.{nat_le, slice_get}
use Rattle.std.proofs.Math.Seq.{take-add}
use Rattle.std.proofs.lemmas.Bool.{cases_eq, cases_lt, le-leb, lt-leb, or_left}
use Rattle.std.proofs.lemmas.List.{drop-drop, drop_all, drop_more, get_or-replicate, get_or-set_other, get_or-set_same, length-append, length-replicate, length-set}
use Rattle.std.proofs.lemmas.List.Folds.{list_any-append}
use Rattle.std.proofs.lemmas.Option.{get_or_from_slice_get, same_Some, slice_get-get_or, slice_get_within}
use Rattle.elf_layout_plan.proofs.ForCallers.ApartLists.{push-at}
use Rattle.elf_layout_moves.specs.declared.limits.TheConstants.{NEVER}
use Rattle.elf_layout_segments.specs.declared.leasts.Stretch.{Stretch}
use Rattle.elf_layout_segments.specs.Leasts.{AreLeastBelow, AreLeastIn, AreLeastOf, IsLeast, numbers_at, reaches}

or_false : (b : Bool) → (b || false) ≡ b
or_false true = refl
or_false false = refl

min_le : (a b end : ℕ) → nat_le (min a b) end ≡ (nat_le a end || nat_le b end)
min_le a b end = elim (cases_lt end a) [
  | inr le ↦ le-leb (min a b) end (omega (arith, le)) ∙ sym (ap (λ (t : Bool). t || nat_le b end) (le-leb a end le))
  | inl more ↦ elim (cases_lt end b) [
    | inr le ↦ le-leb (min a b) end (omega (arith, le)) ∙ sym (ap (λ (t : Bool). t || nat_le b end) (lt-leb a end more) ∙ le-leb b end le)
    | inl also ↦ lt-leb (min a b) end (omega (arith, more, also)) ∙ sym (ap (λ (t : Bool). t || nat_le b end) (lt-leb a end more) ∙ lt-leb b end also)
  ]
]

-- ## Numbers side by side

-- some first numbers and the ones behind them
split_at : (numbers : List ℕ) (place a b : ℕ) → numbers_at numbers place (a + b) ≡ numbers_at numbers place a ++ numbers_at numbers (place + a) b
split_at numbers place a b = take-add a b (drop place numbers) ∙ ap (λ (l : List ℕ). numbers_at numbers place a ++ take b l) (drop-drop a place numbers)

reaches_split : (numbers : List ℕ) (place a b end : ℕ) → reaches end (numbers_at numbers place (a + b)) ≡ (reaches end (numbers_at numbers place a) || reaches end (numbers_at numbers (place + a) b))
reaches_split numbers place a b end = ap (reaches end) (split_at numbers place a b) ∙ list_any-append (λ n. nat_le n end) (numbers_at numbers place a) (numbers_at numbers (place + a) b)

none_past : (numbers : List ℕ) (place count end : ℕ) → length numbers ≤ place → reaches end (numbers_at numbers place count) ≡ false
none_past numbers place count end past = ap (λ (l : List ℕ). reaches end (take count l)) (drop_all place numbers past) ∙ none_of count
  where
    none_of : (n : ℕ) → reaches end (take n []) ≡ false
    none_of zero = refl
    none_of (suc n) = refl

pub least_both : (numbers : List ℕ) (place width a b : ℕ) → IsLeast (numbers_at numbers place width) a → IsLeast (numbers_at numbers (place + width) width) b
    → IsLeast (numbers_at numbers place (width + width)) (min a b)
least_both numbers place width a b first second = record {
  tells = λ end near. min_le a b end ∙ ap (λ (t : Bool). t || nat_le b end) (first.tells end near) ∙ ap (λ (t : Bool). reaches end (numbers_at numbers place width) || t) (second.tells end near)
      ∙ sym (reaches_split numbers place width width end);
}

pub least_last : (numbers : List ℕ) (place width a : ℕ) → length numbers ≤ place + width → IsLeast (numbers_at numbers place width) a → IsLeast (numbers_at numbers place (width + width)) a
least_last numbers place width a past first = record {
  tells = λ end near. first.tells end near ∙ sym (reaches_split numbers place width width end
      ∙ ap (λ (t : Bool). reaches end (numbers_at numbers place width) || t) (none_past numbers (place + width) width end past) ∙ or_false (reaches end (numbers_at numbers place width)));
}

-- a place of a row
pub row_at : (numbers row : List ℕ) (width place d : ℕ) → AreLeastOf numbers width row → place < length row → IsLeast (numbers_at numbers place width) (get_or row place d)
row_at numbers row width place d are within = are.each place (get_or row place d) (slice_get-get_or row place d within)

-- the numbers themselves
pub own_leasts : (numbers : List ℕ) → AreLeastOf numbers 1 numbers
own_leasts numbers = record {
  many = refl;
  each = λ place least at. record {
    tells = λ end near.
        let within : place < length numbers = slice_get_within numbers place least at in
        let one : numbers_at numbers place 1 ≡ least ∷ [] =
        ap (take 1) (drop_more numbers place least within) ∙ ap (λ (n : ℕ). n ∷ []) (get_or_from_slice_get numbers place least least at) in
        sym (ap (reaches end) one ∙ or_false (nat_le least end));
  };
}

-- ## A row of twice the width

-- the places so far
pub record AreDoubled (numbers : List ℕ) (width place : ℕ) (made : List ℕ) : Type 0 where
  pub many : length made ≡ place
  pub each : (i least : ℕ) → slice_get made i ≡ Some least → IsLeast (numbers_at numbers i (width + width)) least

pub next_doubled : (numbers : List ℕ) (width place : ℕ) (made after : List ℕ) (least : ℕ) → after ≡ made ++ least ∷ [] → IsLeast (numbers_at numbers place (width + width)) least → AreDoubled numbers width place made
    → AreDoubled numbers width (place + 1) after
next_doubled numbers width place made after least is here are = subst (λ (l : List ℕ). AreDoubled numbers width (place + 1) l) (sym is) (record {
  many = omega (arith, length-append made (least ∷ []), are.many);
  each = λ i n at. elim (push-at made least i n at) [
    | inl before ↦ are.each i n before
    | inr (last, same) ↦ subst (λ (m : ℕ). IsLeast (numbers_at numbers i (width + width)) m) (sym same) (subst (λ (k : ℕ). IsLeast (numbers_at numbers k (width + width)) least) (sym (last ∙ are.many)) here)
  ];
})

-- ## Answers

-- answers for stretches that are short enough: less than a width, or less than two before a place
pub record AreAnswered (numbers : List ℕ) (asked : List Stretch) (width place : ℕ) (answers : List ℕ) : Type 0 where
  pub many : length answers ≡ length asked
  pub each : (j : ℕ) (s : Stretch) (least : ℕ) → slice_get asked j ≡ Some s → slice_get answers j ≡ Some least → (s.until - s.from < width) ⊎ ((j < place) × (s.until - s.from < width + width))
      → IsLeast (numbers_at numbers s.from (s.until - s.from)) least

pub none_answered : (numbers : List ℕ) (asked : List Stretch) (width : ℕ) (answers : List ℕ) → AreLeastBelow numbers asked width answers → AreAnswered numbers asked width 0 answers
none_answered numbers asked width answers are = record {
  many = are.many;
  each = λ j s least at at_answer short. elim short [ inl less ↦ are.each j s least at at_answer less | inr (early, less) ↦ absurd (omega (arith, early)) ];
}

pub all_answered : (numbers : List ℕ) (asked : List Stretch) (width place : ℕ) (answers : List ℕ) → length asked ≤ place → AreAnswered numbers asked width place answers
    → AreLeastBelow numbers asked (width + width) answers
all_answered numbers asked width place answers past are = record {
  many = are.many;
  each = λ j s least at at_answer short. are.each j s least at at_answer (inr (omega (arith, slice_get_within asked j s at, past), short));
}

-- a stretch of another length is left
pub answer_passed : (numbers : List ℕ) (asked : List Stretch) (width place : ℕ) (answers : List ℕ) (s : Stretch) → slice_get asked place ≡ Some s → (s.until - s.from < width) ⊎ (width + width ≤ s.until - s.from)
    → AreAnswered numbers asked width place answers → AreAnswered numbers asked width (place + 1) answers
answer_passed numbers asked width place answers s here other are = record {
  many = are.many;
  each = λ j t least at at_answer short. elim short [
    | inl less ↦ are.each j t least at at_answer (inl less)
    | inr (early, less) ↦ elim (cases_eq j place) [
      | inr apart ↦ are.each j t least at at_answer (inr (omega (arith, early, apart), less))
      | inl same ↦
          let is : s ≡ t = same_Some s t (sym here ∙ subst (λ (k : ℕ). slice_get asked k ≡ Some t) same at) in
          let long : s.until - s.from ≡ t.until - t.from = ap (λ (x : Stretch). x.until - x.from) is in
          elim other [
            | inl small ↦ are.each j t least at at_answer (inl (omega (arith, small, long)))
            | inr large ↦ absurd (omega (arith, large, long, less))
          ]
    ]
  ];
}

-- the least of a stretch is the lesser of those of its first and its last numbers
cover : (x y z : Bool) → (z ≡ true → y ≡ true) → ((x || z) || y) ≡ (x || y)
cover true y z less = refl
cover false true z less = or_right_true z
  where
    or_right_true : (b : Bool) → (b || true) ≡ true
    or_right_true true = refl
    or_right_true false = refl
cover false false true less = sym (less refl)
cover false false false less = refl

pub least_over : (numbers row : List ℕ) (width from until a b : ℕ) → from + width ≤ until → until - from < width + width → IsLeast (numbers_at numbers from width) a → IsLeast (numbers_at numbers (until - width) width) b
    → IsLeast (numbers_at numbers from (until - from)) (min a b)
least_over numbers row width from until a b long short first last = record {
  tells = λ end near.
      let front : ℕ = until - from - width in
      let rest : ℕ = width + width - (until - from) in
      let whole : until - from ≡ front + width = omega (arith, long) in
      let place : from + front ≡ until - width = omega (arith, long) in
      let of_first : width ≡ front + rest = omega (arith, long, short) in
      let of_last : width ≡ rest + front = omega (arith, long, short) in
      let x : Bool = reaches end (numbers_at numbers from front) in
      let y : Bool = reaches end (numbers_at numbers (until - width) width) in
      let z : Bool = reaches end (numbers_at numbers (until - width) rest) in
      let head : reaches end (numbers_at numbers from width) ≡ (x || z) =
      ap (λ (n : ℕ). reaches end (numbers_at numbers from n)) of_first ∙ reaches_split numbers from front rest end ∙ ap (λ (n : ℕ). x || reaches end (numbers_at numbers n rest)) place in
      let tail : y ≡ (z || reaches end (numbers_at numbers (until - width + rest) front)) =
      ap (λ (n : ℕ). reaches end (numbers_at numbers (until - width) n)) of_last ∙ reaches_split numbers (until - width) rest front end in
      min_le a b end
      ∙ ap (λ (t : Bool). t || nat_le b end) (first.tells end near ∙ head)
      ∙ ap (λ (t : Bool). (x || z) || t) (last.tells end near)
      ∙ cover x y z (λ is. tail ∙ or_left z (reaches end (numbers_at numbers (until - width + rest) front)) is)
      ∙ sym (ap (λ (n : ℕ). reaches end (numbers_at numbers from n)) whole ∙ reaches_split numbers from front width end ∙ ap (λ (n : ℕ). x || reaches end (numbers_at numbers n width)) place);
}

-- the least of a stretch is put in its place
pub answer_put : (numbers : List ℕ) (asked : List Stretch) (width place : ℕ) (answers : List ℕ) (s : Stretch) (least : ℕ) → slice_get asked place ≡ Some s → IsLeast (numbers_at numbers s.from (s.until - s.from)) least
    → AreAnswered numbers asked width place answers → AreAnswered numbers asked width (place + 1) (set answers place least)
answer_put numbers asked width place answers s least here is are = record {
  many = length-set answers place least ∙ are.many;
  each = λ j t n at at_answer short.
      let inside : j < length (set answers place least) = slice_get_within (set answers place least) j n at_answer in
      let there : get_or (set answers place least) j n ≡ n = get_or_from_slice_get (set answers place least) j n n at_answer in
      elim (cases_eq j place) [
        | inl same ↦
            let one : s ≡ t = same_Some s t (sym here ∙ subst (λ (k : ℕ). slice_get asked k ≡ Some t) same at) in
            let within : place < length answers = omega (arith, slice_get_within asked place s here, are.many) in
            let put : least ≡ n = sym (get_or-set_same answers place least n within) ∙ ap (λ (k : ℕ). get_or (set answers place least) k n) (sym same) ∙ there in
            subst (λ (x : Stretch). IsLeast (numbers_at numbers x.from (x.until - x.from)) n) one (subst (λ (m : ℕ). IsLeast (numbers_at numbers s.from (s.until - s.from)) m) put is)
        | inr apart ↦
            let old : get_or answers j n ≡ n = sym (get_or-set_other answers place j least n apart) ∙ there in
            let within : j < length answers = omega (arith, inside, length-set answers place least) in
            let at_old : slice_get answers j ≡ Some n = slice_get-get_or answers j n within ∙ ap Some old in
            are.each j t n at at_old (elim short [ inl less ↦ inl less | inr (early, less) ↦ inr (omega (arith, early, apart), less) ])
      ];
}

-- no stretch is answered but the empty ones
pub empty_answered : (numbers : List ℕ) (asked : List Stretch) (answers : List ℕ) → answers ≡ replicate (length asked) NEVER → AreLeastBelow numbers asked 1 answers
empty_answered numbers asked answers are = record {
  many = ap length are ∙ length-replicate (length asked) NEVER;
  each = λ j s least at at_answer short. record {
    tells = λ end near.
        let within : j < length asked = slice_get_within asked j s at in
        let there : get_or answers j least ≡ least = get_or_from_slice_get answers j least least at_answer in
        let never : least ≡ NEVER = sym there ∙ ap (λ (l : List ℕ). get_or l j least) are ∙ get_or-replicate (length asked) j NEVER least within in
        let empty : s.until - s.from ≡ 0 = omega (arith, short) in
        lt-leb least end (omega (arith, never, near)) ∙ sym (ap (λ (n : ℕ). reaches end (numbers_at numbers s.from n)) empty);
  };
}

pub all_leasts : (numbers row : List ℕ) (asked : List Stretch) (width : ℕ) (answers : List ℕ) → length row < width → length row ≡ length numbers
    → ((j : ℕ) (s : Stretch) → slice_get asked j ≡ Some s → s.until ≤ length numbers) → AreLeastBelow numbers asked width answers → AreLeastIn numbers asked answers
all_leasts numbers row asked width answers past many within are = record {
  many = are.many;
  each = λ j s least at at_answer. are.each j s least at at_answer (omega (arith, past, many, within j s at));
}
