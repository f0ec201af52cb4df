-- The change of a symbol: where it stands, and what edits of the list make of it.
use Rattle.std.proofs.Common.{◌≡◌, ◌≢◌, ℕ, zero, suc, ◌+◌, ◌<◌, ◌≤◌, Bool, true, false, cond, List, [], ◌∷◌, length, map, get_or, refl, sym, ap, ◌∙◌, subst, inl, inr, Option, Some, None, arith}
use Rattle.std.specs.Prelude.{◌==◌, insert, nat_lt}
use Rattle.std.specs.List.{All}
use Rattle.std.specs.List.Sorted.{IsNonDecreasingBy, IsPartitionPoint}
use Rattle.std.proofs.lemmas.Bool.{cases_lt, cond-false, cond-true, eq-eqb, eqb-true, ltb-false, ltb-true, ne_eqb}
use Rattle.std.proofs.lemmas.List.{get_or-map, get_or_default, length-map}
use Rattle.std.proofs.lemmas.List.Edits.{length-insert}
use Rattle.std.proofs.lemmas.List.Elements.{All-head, All-tail}
use Rattle.std.proofs.lemmas.Option.{none-some, same_Some}
use Rattle.elf_image_symbols.specs.declared.change.Change.{Change}
use Rattle.elf_image_symbols.specs.Changes.{IsGapFor, IsPlaceOf, change_of, number_of}
use Rattle.elf_image_symbols.specs.EditedList.{changed_at}
use Rattle.elf_image_symbols.specs.Rising.{AreRising}
use Rattle.elf_image_symbols.proofs.RisingLaws.{rising_at, rising_long, rising_ordered}

-- ## A change is found

-- the changes up to a position are of lower numbers than a symbol
abbrev pub AreLower : List Change → ℕ → ℕ → Type 0
AreLower cs n k = (j : ℕ) (d : Change) → j < k → number_of (get_or cs j d) < n

abbrev pub HasNumber : List Change → ℕ → ℕ → Type 0
HasNumber cs n k = (d : Change) → number_of (get_or cs k d) ≡ n

pub change_of-place : (cs : List Change) (n k : ℕ) (d : Change) → k < length cs → AreLower cs n k → HasNumber cs n k → change_of cs n ≡ Some (get_or cs k d)
change_of-place [] n k d less lower here = absurd (omega (arith, less))
change_of-place (c ∷ cs) n zero d less lower here = cond-true (c.number == n) (Some c) (change_of cs n) (eq-eqb c.number n (here c))
change_of-place (c ∷ cs) n (suc k) d less lower here =
    let first : c.number < n = lower zero c (omega arith) in
    cond-false (c.number == n) (Some c) (change_of cs n) (ne_eqb c.number n (λ (e : c.number ≡ n). omega (arith, first, e)))
    ∙ change_of-place cs n k d (omega (arith, less)) (λ j b low. lower (suc j) b (omega (arith, low))) here

pub change_of-none : (cs : List Change) (n : ℕ) → ((j : ℕ) (d : Change) → j < length cs → number_of (get_or cs j d) ≢ n) → change_of cs n ≡ None
change_of-none [] n other = refl
change_of-none (c ∷ cs) n other =
    cond-false (c.number == n) (Some c) (change_of cs n) (ne_eqb c.number n (other zero c (omega arith)))
    ∙ change_of-none cs n (λ j d less. other (suc j) d (omega (arith, less)))

pub change_of-gap : (cs : List Change) (n k : ℕ) → IsGapFor cs n k → change_of cs n ≡ None
change_of-gap cs n k gap = change_of-none cs n (λ j d less. elim (cases_lt j k) [
  | inl before ↦ (λ (e : number_of (get_or cs j d) ≡ n). let low = gap.before j d before in omega (arith, low, e))
  | inr behind ↦ (λ (e : number_of (get_or cs j d) ≡ n). let high = gap.behind j d behind less in omega (arith, high, e))
])

-- ## Where a search ends

-- the numbers of the changes before a position are below that of a symbol, and no others are
abbrev pub IsReached : List Change → ℕ → ℕ → Type 0
IsReached cs n k = IsPartitionPoint (λ (c : Change). nat_lt c.number n ≡ true) (λ (c : Change). nat_lt c.number n ≡ false) cs k

pub place-reached : (cs : List Change) (n k : ℕ) (c : Change) → IsReached cs n k → k < length cs → number_of (get_or cs k c) ≡ n → IsPlaceOf cs n k
place-reached cs n k c reached less same = record {
  within = less;
  before = λ j d low. ltb-true (number_of (get_or cs j d)) n (reached.0 j d (omega arith) low);
  here = λ d. ap number_of (get_or_default cs k d c less) ∙ same;
}

pub gap-end : (cs : List Change) (n k : ℕ) → IsReached cs n k → k ≡ length cs → IsGapFor cs n k
gap-end cs n k reached end = record {
  within = omega (arith, end);
  before = λ j d low. ltb-true (number_of (get_or cs j d)) n (reached.0 j d (omega arith) low);
  behind = λ j d le less. absurd (omega (arith, end, le, less));
}

pub gap-reached : (cs : List Change) (n k : ℕ) (c : Change) → IsNonDecreasingBy number_of cs → IsReached cs n k → k < length cs → number_of (get_or cs k c) ≢ n → IsGapFor cs n k
gap-reached cs n k c never_fall reached less other = record {
  within = omega (arith, less);
  before = λ j d low. ltb-true (number_of (get_or cs j d)) n (reached.0 j d (omega arith) low);
  behind = λ j d le inside.
      let here : number_of (get_or cs k d) ≢ n = λ (e : number_of (get_or cs k d) ≡ n). other (ap number_of (get_or_default cs k c d less) ∙ e) in
      let above : n ≤ number_of (get_or cs k d) = ltb-false (number_of (get_or cs k d)) n (reached.1 k d (omega arith) less) in
      let higher : number_of (get_or cs k d) ≤ number_of (get_or cs j d) = never_fall k j d le inside in
      omega (arith, here, above, higher);
}

-- what is found is one of them, and has the number
pub change_of-some : (P : Change → Type 0) (cs : List Change) (n : ℕ) (c : Change) → All P cs → change_of cs n ≡ Some c → P c × (c.number ≡ n)
change_of-some P [] n c all found = absurd (none-some c found)
change_of-some P (b ∷ cs) n c all found = by_test (b.number == n) refl found (change_of-some P cs n c (All-tail P b cs all))
  where
    by_test : (t : Bool) → (b.number == n) ≡ t → cond t (Some b) (change_of cs n) ≡ Some c → (change_of cs n ≡ Some c → P c × (c.number ≡ n)) → P c × (c.number ≡ n)
    by_test true is here rest =
        let same : b ≡ c = same_Some b c here in
        (subst P same (All-head P b cs all), ap number_of (sym same) ∙ eqb-true b.number n is)
    by_test false is here rest = rest here

-- ## A change is changed, and keeps its number

module _ (f : Change → Change) (keeps : (c : Change) → number_of (f c) ≡ number_of c) where
  pub change_of-changed_here : (cs : List Change) (n k : ℕ) (d : Change) → k < length cs → AreLower cs n k → HasNumber cs n k → change_of (changed_at k f cs) n ≡ Some (f (get_or cs k d))
  change_of-changed_here [] n k d less lower here = absurd (omega (arith, less))
  change_of-changed_here (c ∷ cs) n zero d less lower here =
      cond-true ((f c).number == n) (Some (f c)) (change_of cs n) (eq-eqb (f c).number n (keeps c ∙ here c))
  change_of-changed_here (c ∷ cs) n (suc k) d less lower here =
      let first : c.number < n = lower zero c (omega arith) in
      cond-false (c.number == n) (Some c) (change_of (changed_at k f cs) n) (ne_eqb c.number n (λ (e : c.number ≡ n). omega (arith, first, e)))
      ∙ change_of-changed_here cs n k d (omega (arith, less)) (λ j b low. lower (suc j) b (omega (arith, low))) here

  pub change_of-changed_other : (cs : List Change) (n k m : ℕ) → m ≢ n → k < length cs → HasNumber cs n k → change_of (changed_at k f cs) m ≡ change_of cs m
  change_of-changed_other [] n k m other less here = refl
  change_of-changed_other (c ∷ cs) n zero m other less here =
      cond-false ((f c).number == m) (Some (f c)) (change_of cs m) (ne_eqb (f c).number m (λ (e : (f c).number ≡ m). other (sym e ∙ keeps c ∙ here c)))
      ∙ sym (cond-false (c.number == m) (Some c) (change_of cs m) (ne_eqb c.number m (λ (e : c.number ≡ m). other (sym e ∙ here c))))
  change_of-changed_other (c ∷ cs) n (suc k) m other less here =
      ap (λ (o : Option Change). cond (c.number == m) (Some c) o) (change_of-changed_other cs n k m other (omega (arith, less)) here)

-- ## A change is put in

pub change_of-insert_here : (cs : List Change) (c : Change) (k : ℕ) → k ≤ length cs → AreLower cs c.number k → change_of (insert cs k c) c.number ≡ Some c
change_of-insert_here cs c zero le lower = cond-true (c.number == c.number) (Some c) (change_of cs c.number) (eq-eqb c.number c.number refl)
change_of-insert_here [] c (suc k) le lower = absurd (omega (arith, le))
change_of-insert_here (b ∷ cs) c (suc k) le lower =
    let first : b.number < c.number = lower zero b (omega arith) in
    cond-false (b.number == c.number) (Some b) (change_of (insert cs k c) c.number) (ne_eqb b.number c.number (λ (e : b.number ≡ c.number). omega (arith, first, e)))
    ∙ change_of-insert_here cs c k (omega (arith, le)) (λ j d low. lower (suc j) d (omega (arith, low)))

pub change_of-insert_other : (cs : List Change) (c : Change) (k m : ℕ) → m ≢ c.number → change_of (insert cs k c) m ≡ change_of cs m
change_of-insert_other cs c zero m other = cond-false (c.number == m) (Some c) (change_of cs m) (ne_eqb c.number m (λ (e : c.number ≡ m). other (sym e)))
change_of-insert_other [] c (suc k) m other = cond-false (c.number == m) (Some c) None (ne_eqb c.number m (λ (e : c.number ≡ m). other (sym e)))
change_of-insert_other (b ∷ cs) c (suc k) m other = ap (λ (o : Option Change). cond (b.number == m) (Some b) o) (change_of-insert_other cs c k m other)

-- ## Their numbers rise

pub rising_insert : (low high : ℕ) (cs : List Change) (c : Change) (k : ℕ) → AreRising low high (map number_of cs) → low ≤ c.number → c.number < high → k ≤ length cs → AreLower cs c.number k
    → ((j : ℕ) (d : Change) → k ≤ j → j < length cs → c.number < number_of (get_or cs j d)) → AreRising low high (map number_of (insert cs k c))
rising_insert low high [] c zero rising above below le lower higher = (above, below, tt)
rising_insert low high [] c (suc k) rising above below le lower higher = absurd (omega (arith, le))
rising_insert low high (b ∷ cs) c zero rising above below le lower higher =
    let next : c.number < b.number = higher zero b (omega arith) (omega arith) in (above, below, (omega (arith, next), rising.1, rising.2))
rising_insert low high (b ∷ cs) c (suc k) rising above below le lower higher =
    let first : b.number < c.number = lower zero b (omega arith) in (
      rising.0,
      rising.1,
      rising_insert (b.number + 1) high cs c k rising.2 (omega (arith, first)) below (omega (arith, le)) (λ j d low. lower (suc j) d (omega (arith, low)))
          (λ j d behind less. higher (suc j) d (omega (arith, behind)) (omega (arith, less))),
    )

module _ (high : ℕ) (cs : List Change) (rising : AreRising 0 high (map number_of cs)) where
  number_at : (k : ℕ) (d : Change) → k < length cs → number_of (get_or cs k d) ≡ get_or (map number_of cs) k 0
  number_at k d less = sym (get_or-map number_of cs k d 0 less)

  within_map : (k : ℕ) → k < length cs → k < length (map number_of cs)
  within_map k less = omega (arith, less, length-map cs number_of)

  pub changes_below : All (λ (c : Change). number_of c < high) cs
  changes_below k d less =
      let at = rising_at 0 high (map number_of cs) k rising (within_map k less) in
      omega (arith, at.1, number_at k d less)

  pub changes_ordered : (i j : ℕ) (d : Change) → i < j → j < length cs → number_of (get_or cs i d) < number_of (get_or cs j d)
  changes_ordered i j d before less =
      let lower = rising_ordered 0 high (map number_of cs) i j rising before (within_map j less) in
      omega (arith, lower, number_at i d (omega (arith, before, less)), number_at j d less)

  pub changes_never_fall : IsNonDecreasingBy number_of cs
  changes_never_fall i j d le less = elim (cases_lt i j) [
    | inl before ↦ let lower = changes_ordered i j d before less in omega (arith, lower)
    | inr behind ↦ let same : i ≡ j = omega (arith, le, behind) in subst (λ (k : ℕ). number_of (get_or cs i d) ≤ number_of (get_or cs k d)) same (omega arith)
  ]

  -- a change of another symbol fits in
  pub changes_fit : (c : Change) (k : ℕ) → c.number < high → IsGapFor cs c.number k → length cs < high
  changes_fit c k below gap =
      let more = rising_insert 0 high cs c k rising (omega arith) below gap.within gap.before gap.behind in
      let long = rising_long 0 high (map number_of (insert cs k c)) more (omega arith) in
      omega (arith, long, length-map (insert cs k c) number_of, length-insert cs k c gap.within)

  -- there are no more changes than numbers below the bound
  pub changes_long : length cs ≤ high
  changes_long = let long = rising_long 0 high (map number_of cs) rising (omega arith) in omega (arith, long, length-map cs number_of)

  -- each change is found
  pub change_of-each : (k : ℕ) (d : Change) → k < length cs → change_of cs (number_of (get_or cs k d)) ≡ Some (get_or cs k d)
  change_of-each k d less =
      change_of-place cs (number_of (get_or cs k d)) k d less
      (λ j e before.
      let lower = rising_ordered 0 high (map number_of cs) j k rising before (within_map k less) in
      omega (arith, lower, number_at j e (omega (arith, before, less)), number_at k d less))
      (λ e. number_at k e less ∙ sym (number_at k d less))
