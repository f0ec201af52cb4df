-- Marks at the positions that are told, one after the other.
use Rattle.std.proofs.Common.{◌≡◌, ℕ, ◌+◌, ◌<◌, ◌≤◌, zero, suc, List, ◌∷◌, ◌++◌, Bool, true, false, ◌||◌, length, map, set, take, get_or, replicate, refl, sym, ap, subst, ◌∙◌, inl, inr, arith, []}
use Rattle.std.specs.Prelude.{◌==◌}
use Rattle.std.proofs.lemmas.Bool.{cases_eq, cases_lt, eq-eqb, ne_eqb, or_right}
use Rattle.std.proofs.lemmas.List.{ext_get_or, get_or-append-add, get_or-set_other, get_or-set_same, get_or_append_left, length-map, length-set, map-append, take_all, take_more}
use Rattle.std.proofs.lemmas.List.Folds.{list_any-append}
use Rattle.elf_format.specs.Image.{counted}
use Rattle.elf_format.specs.Options.{is_one_of}
use Rattle.elf_format.proofs.ForCallers.Lengths.{length-counted}

-- the marks of so many sections
abbrev pub marking : List ℕ → ℕ → List Bool
marking positions n = map (is_one_of positions) (counted n)

pub length-marking : (positions : List ℕ) (n : ℕ) → length (marking positions n) ≡ n
length-marking positions n = length-map (counted n) (is_one_of positions) ∙ length-counted n

-- each mark tells of the position where it stands
marking_at : (positions : List ℕ) (n i : ℕ) → i < n → get_or (marking positions n) i false ≡ is_one_of positions i
unfolding counted
marking_at positions zero i below = absurd (omega arith)
marking_at positions (suc n) i below =
    let split = map-append (is_one_of positions) (counted n) (n ∷ []) in elim (cases_lt i n) [
      | inl less ↦ ap (λ l. get_or l i false) split
          ∙ get_or_append_left (marking positions n) (is_one_of positions n ∷ []) false i (subst (λ k. i < k) (sym (length-marking positions n)) less)
          ∙ marking_at positions n i less
      | inr past ↦
          let same : i ≡ n = omega arith in
          let there : i ≡ length (marking positions n) + 0 = omega (arith, length-marking positions n) in
          ap (λ l. get_or l i false) split
          ∙ ap (λ k. get_or (marking positions n ++ is_one_of positions n ∷ []) k false) there
          ∙ get_or-append-add (marking positions n) (is_one_of positions n ∷ []) 0 false
          ∙ ap (is_one_of positions) (sym same)
    ]

-- ## None, one more, all

unmarked : (positions : List ℕ) → map (is_one_of []) positions ≡ replicate (length positions) false
unmarked [] = refl
unmarked (p ∷ ps) = ap (λ l. false ∷ l) (unmarked ps)

pub none_marked : (n : ℕ) → replicate n false ≡ marking [] n
none_marked n = ap (λ k. replicate k false) (sym (length-counted n)) ∙ sym (unmarked (counted n))

-- one position more
one_more : (positions : List ℕ) (p i : ℕ) → is_one_of (positions ++ p ∷ []) i ≡ (is_one_of positions i || (p == i || false))
one_more positions p i = list_any-append (λ x. x == i) positions (p ∷ [])

or_false : (b : Bool) → (b || false) ≡ b
or_false true = refl
or_false false = refl

pub marked_more : (positions : List ℕ) (p n : ℕ) → p < n → set (marking positions n) p true ≡ marking (positions ++ p ∷ []) n
marked_more positions p n within =
    let long : length (set (marking positions n) p true) ≡ n = length-set (marking positions n) p true ∙ length-marking positions n in
    ext_get_or false _ _ (long ∙ sym (length-marking (positions ++ p ∷ []) n)) (λ i below.
    let inside : i < n = omega arith in
    let after = marking_at (positions ++ p ∷ []) n i inside ∙ one_more positions p i in
    elim (cases_eq i p) [
      | inl same ↦
          let here = get_or-set_same (marking positions n) p true false (subst (λ k. p < k) (sym (length-marking positions n)) within) in
          ap (λ k. get_or (set (marking positions n) p true) k false) same ∙ here
          ∙ sym (or_right (is_one_of positions i) (p == i || false) (ap (λ b. b || false) (eq-eqb p i (sym same))))
          ∙ sym after
      | inr other ↦
          get_or-set_other (marking positions n) p i true false other ∙ marking_at positions n i inside
          ∙ sym (ap (λ b. is_one_of positions i || (b || false)) (ne_eqb p i (λ same. other (sym same))) ∙ or_false (is_one_of positions i))
          ∙ sym after
    ])

-- the marks of those before an index, and the one at it
pub marked_next : (moved : List ℕ) (k n : ℕ) (marks : List Bool) → k < length moved → get_or moved k 0 < n → marks ≡ marking (take k moved) n
    → set marks (get_or moved k 0) true ≡ marking (take (k + 1) moved) n
marked_next moved k n marks below within are =
    ap (λ l. set l (get_or moved k 0) true) are ∙ marked_more (take k moved) (get_or moved k 0) n within
    ∙ ap (λ l. marking l n) (sym (take_more moved k 0 below))

pub marked_all : (moved : List ℕ) (k n : ℕ) (marks : List Bool) → length moved ≤ k → marks ≡ marking (take k moved) n → marks ≡ marking moved n
marked_all moved k n marks past are = are ∙ ap (λ l. marking l n) (take_all k moved past)
