-- Steps of walks over texts.
use Rattle.std.proofs.Common.{◌≡◌, ℕ, ◌-◌, length-drop, eq-eqb, inl, inr, ◌+◌, ◌<◌, ◌≤◌, ◌∙◌, List, [], ◌∷◌, ◌++◌, append_assoc, Bool, true, false, length, drop, get_or, refl, sym, ap, arith}
use Rattle.std.proofs.lemmas.List.{drop_more, drop_all}
use Rattle.std.proofs.lemmas.Bool.{cases_lt, ne_eqb}
use Rattle.std.specs.Str.{bytes_eq}
use Rattle.std.specs.Prelude.{nat_eq}
use Rattle.elf_layout_plan.specs.Texts.{is_subsequence}

-- nothing is left of no texts
pub none_left : (ts : List (List ℕ)) → length ts ≡ 0 → is_subsequence ts [] ≡ true
unfolding is_subsequence
none_left [] none = refl
none_left (t ∷ ts) none = absurd (omega arith)

-- some texts are left, which no texts can give
pub some_left : (ts : List (List ℕ)) → 0 < length ts → is_subsequence ts [] ≡ false
unfolding is_subsequence
some_left [] some = absurd (omega arith)
some_left (t ∷ ts) some = refl

-- a text that is the next one is found
pub text_found : (t : List ℕ) (ts : List (List ℕ)) (u : List ℕ) (us : List (List ℕ)) → bytes_eq t u ≡ true → is_subsequence (t ∷ ts) (u ∷ us) ≡ is_subsequence ts us
unfolding is_subsequence
text_found t ts u us same = ap (λ (b : Bool). elim b as (λ _. Bool) [ true ↦ is_subsequence ts us | _ ↦ is_subsequence (t ∷ ts) us ]) same

-- a text that isn't the next one is passed over
pub text_passed : (t : List ℕ) (ts : List (List ℕ)) (u : List ℕ) (us : List (List ℕ)) → bytes_eq t u ≡ false → is_subsequence (t ∷ ts) (u ∷ us) ≡ is_subsequence (t ∷ ts) us
unfolding is_subsequence
text_passed t ts u us other = ap (λ (b : Bool). elim b as (λ _. Bool) [ true ↦ is_subsequence ts us | _ ↦ is_subsequence (t ∷ ts) us ]) other

-- with no text left to be found each further one is passed over
pub all_found : (u : List ℕ) (us : List (List ℕ)) → is_subsequence [] (u ∷ us) ≡ is_subsequence [] us
unfolding is_subsequence
all_found u us = refl

-- the text at a place is the one that is looked at
pub next_found : (some : List (List ℕ)) (next : ℕ) (text : List ℕ) → next < length some → bytes_eq (get_or some next []) text ≡ true
    → (others : List (List ℕ)) → is_subsequence (drop next some) (text ∷ others) ≡ is_subsequence (drop (next + 1) some) others
next_found some next text within same others =
    ap (λ (l : List (List ℕ)). is_subsequence l (text ∷ others)) (drop_more some next [] within)
    ∙ text_found (get_or some next []) (drop (next + 1) some) text others same

-- the text at a place is another one than the one that is looked at
pub next_passed : (some : List (List ℕ)) (next : ℕ) (text : List ℕ) → next < length some → bytes_eq (get_or some next []) text ≡ false
    → (others : List (List ℕ)) → is_subsequence (drop next some) (text ∷ others) ≡ is_subsequence (drop next some) others
next_passed some next text within other others =
    ap (λ (l : List (List ℕ)). is_subsequence l (text ∷ others)) (drop_more some next [] within)
    ∙ (text_passed (get_or some next []) (drop (next + 1) some) text others other
    ∙ ap (λ (l : List (List ℕ)). is_subsequence l others) (sym (drop_more some next [] within)))

-- no text is left to be found
pub next_past : (some : List (List ℕ)) (next : ℕ) (text : List ℕ) → next ≡ length some
    → (others : List (List ℕ)) → is_subsequence (drop next some) (text ∷ others) ≡ is_subsequence (drop next some) others
next_past some next text past others =
    let none : drop next some ≡ [] = drop_all next some (omega arith) in
    ap (λ (l : List (List ℕ)). is_subsequence l (text ∷ others)) none
    ∙ all_found text others
    ∙ ap (λ (l : List (List ℕ)). is_subsequence l others) (sym none)

found_or_not : (b : Bool) (x y : Bool) → x ≡ false → y ≡ false → (elim b as (λ _. Bool) [ true ↦ x | _ ↦ y ]) ≡ false
found_or_not true x y hx hy = hx
found_or_not false x y hx hy = hy

-- more texts aren't left of fewer
pub too_few : (ts us : List (List ℕ)) → length us < length ts → is_subsequence ts us ≡ false
unfolding is_subsequence
too_few [] us fewer = absurd (omega (arith, fewer))
too_few (t ∷ ts) [] fewer = refl
too_few (t ∷ ts) (u ∷ us) fewer =
    found_or_not (bytes_eq t u) (is_subsequence ts us) (is_subsequence (t ∷ ts) us) (too_few ts us (omega (arith, fewer))) (too_few (t ∷ ts) us (omega (arith, fewer)))

-- fewer texts are to be looked at than are to be found
pub subsequence_too_long : (some all : List (List ℕ)) (next i : ℕ) → length all - i < length some - next
    → is_subsequence (drop next some) (drop i all) ≡ is_subsequence some all → false ≡ is_subsequence some all
subsequence_too_long some all next i fewer same =
    sym (too_few (drop next some) (drop i all) (omega (arith, fewer, length-drop next some, length-drop i all))) ∙ same

-- all texts were looked at: they are all found where none is left
pub subsequence_at_end : (some all : List (List ℕ)) (next i : ℕ) → next ≤ length some → length all ≤ i
    → is_subsequence (drop next some) (drop i all) ≡ is_subsequence some all → nat_eq next (length some) ≡ is_subsequence some all
subsequence_at_end some all next i within past same =
    let left : List (List ℕ) = drop next some in
    let long : length left ≡ length some - next = length-drop next some in
    let end : is_subsequence left [] ≡ is_subsequence left (drop i all) = ap (λ (l : List (List ℕ)). is_subsequence left l) (sym (drop_all i all past)) in
    elim (cases_lt next (length some)) [
      | inl less ↦ ne_eqb next (length some) (λ e. absurd (omega arith)) ∙ sym (some_left left (omega arith)) ∙ end ∙ same
      | inr all_there ↦ eq-eqb next (length some) (omega arith) ∙ sym (none_left left (omega arith)) ∙ end ∙ same
    ]

-- six parts that are put behind a list in turn
pub six_parts : (t t₁ t₂ t₃ t₄ t₅ t₆ a b c d e f : List (List ℕ)) → t₁ ≡ t ++ a → t₂ ≡ t₁ ++ b → t₃ ≡ t₂ ++ c → t₄ ≡ t₃ ++ d → t₅ ≡ t₄ ++ e → t₆ ≡ t₅ ++ f
    → t₆ ≡ t ++ (a ++ b ++ c ++ d ++ e ++ f)
six_parts t t₁ t₂ t₃ t₄ t₅ t₆ a b c d e f e₁ e₂ e₃ e₄ e₅ e₆ =
    e₆ ∙ ap (λ l. l ++ f) (e₅ ∙ ap (λ l. l ++ e) (e₄ ∙ ap (λ l. l ++ d) (e₃ ∙ ap (λ l. l ++ c) (e₂ ∙ ap (λ l. l ++ b) e₁)))) ∙ simp append_assoc
