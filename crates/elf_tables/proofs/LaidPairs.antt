-- Texts with their places, one pair put behind others.
use Rattle.std.proofs.Common.{Equal, Greater, Less, Ordering, ◌≡◌, ℕ, zero, suc, ◌+◌, ◌≤◌, ◌<◌, Bool, true, false, cond, List, [], ◌∷◌, ◌++◌, length, drop, take, get_or, reverse, refl, sym, subst, ap, ◌∙◌, Option, Some, None, arith}
use Rattle.std.specs.Cmp.Lexicographic.{bytes_decides, nat_list_cmp_total, slice_cmp}
use Rattle.std.specs.List.{list_any}
use Rattle.std.specs.List.Sorted.{IsSortedBy}
use Rattle.std.specs.Map.{lookup}
use Rattle.std.specs.Ordering.{is_eq, is_lt, nat_cmp, ordering_reverse}
use Rattle.std.specs.Str.{bytes_eq}
use Rattle.std.proofs.lemmas.Bool.{cond-false, cond-true, true≢false}
use Rattle.std.proofs.lemmas.List.{drop_all, drop_more, get_or-take, get_or_default, length-take-le, reverse-reverse}
use Rattle.std.proofs.lemmas.List.Elements.{All-push}
use Rattle.std.proofs.lemmas.List.Sorted.{sorted_far}
use Rattle.std.proofs.lemmas.Map.Text.{is_eq-slice_cmp}
use Rattle.std.proofs.lemmas.Option.{none-some}
use Rattle.elf_tables.specs.StringSteps.{AreTold, Numbered, is_before, with_places}
use Rattle.elf_tables.proofs.TextLists.{Contains-from_Holds, Holds-from_any, by_test}
use Rattle.elf_tables.proofs.TextOrder.{is_before-order}

-- ## What pairs tell

pub lookup-front : {K X : Type 0} (t : K → Bool) (xs ys : List (K × X)) (v : X) → lookup t xs ≡ Some v → lookup t (xs ++ ys) ≡ Some v
lookup-front t [] ys v e = absurd (none-some v e)
lookup-front t (x ∷ xs) ys v e = by_test (t x.0)
    (λ yes. cond-true (t x.0) (Some x.1) (lookup t (xs ++ ys)) yes ∙ sym (cond-true (t x.0) (Some x.1) (lookup t xs) yes) ∙ e)
    (λ no. cond-false (t x.0) (Some x.1) (lookup t (xs ++ ys)) no ∙ lookup-front t xs ys v (sym (cond-false (t x.0) (Some x.1) (lookup t xs) no) ∙ e))

some_none : {X : Type 0} (v : X) → Some v ≡ None → ⊥
some_none v e = none-some v (sym e)

pub lookup-behind : {K X : Type 0} (t : K → Bool) (xs ys : List (K × X)) → lookup t xs ≡ None → lookup t (xs ++ ys) ≡ lookup t ys
lookup-behind t [] ys e = refl
lookup-behind t (x ∷ xs) ys e = by_test (t x.0)
    (λ yes. absurd (some_none x.1 (sym (cond-true (t x.0) (Some x.1) (lookup t xs) yes) ∙ e)))
    (λ no. cond-false (t x.0) (Some x.1) (lookup t (xs ++ ys)) no ∙ lookup-behind t xs ys (sym (cond-false (t x.0) (Some x.1) (lookup t xs) no) ∙ e))

-- what is told once the pairs of a text are in front of others
pub lookup-joined : {K X : Type 0} (t : K → Bool) (xs ys : List (K × X)) (o : Option X) → lookup t xs ≡ o → (o ≡ None → lookup t ys ≡ None) → lookup t (xs ++ ys) ≡ o
lookup-joined t xs ys None e none = lookup-behind t xs ys e ∙ none refl
lookup-joined t xs ys (Some v) e none = lookup-front t xs ys v e

eq-turned : (a b : List ℕ) (r : Bool) → bytes_eq a b ≡ r → bytes_eq b a ≡ r
eq-turned a b true e = (bytes_decides b a).1 (sym ((bytes_decides a b).0 e))
eq-turned a b false e = by_test (bytes_eq b a) (λ yes. absurd (true≢false (sym ((bytes_decides a b).1 (sym ((bytes_decides b a).0 yes))) ∙ e))) (λ no. no)

pub eq-itself : (a : List ℕ) → bytes_eq a a ≡ true
eq-itself a = (bytes_decides a a).1 refl

-- what is told of a text once a pair was put behind the others, of which those with the same text tell the same place
told_of_text : (old : List (List ℕ × ℕ)) (text : List ℕ) (place : ℕ) (o : Option ℕ) → lookup (bytes_eq text) old ≡ o
    → ((p : ℕ) → lookup (bytes_eq text) old ≡ Some p → p ≡ place) → lookup (bytes_eq text) (old ++ (text, place) ∷ []) ≡ Some place
told_of_text old text place None e same =
    lookup-behind (bytes_eq text) old ((text, place) ∷ []) e ∙ cond-true (bytes_eq text text) (Some place) None (eq-itself text)
told_of_text old text place (Some p) e same = lookup-front (bytes_eq text) old ((text, place) ∷ []) p e ∙ ap Some (same p e)

told_of_other : (old : List (List ℕ × ℕ)) (q text : List ℕ) (place : ℕ) (o : Option ℕ) → bytes_eq q text ≡ false → lookup (bytes_eq q) old ≡ o
    → lookup (bytes_eq q) (old ++ (text, place) ∷ []) ≡ o
told_of_other old q text place o other e =
    lookup-joined (bytes_eq q) old ((text, place) ∷ []) o e (λ none. cond-false (bytes_eq q text) (Some place) None other)

pub told_behind : (old : List (List ℕ × ℕ)) (text : List ℕ) (place : ℕ) → ((p : ℕ) → lookup (bytes_eq text) old ≡ Some p → p ≡ place) → (q : List ℕ)
    → lookup (bytes_eq q) (old ++ (text, place) ∷ []) ≡ cond (bytes_eq text q) (Some place) (lookup (bytes_eq q) old)
told_behind old text place same q = by_test (bytes_eq text q)
    (λ yes.
    let e : text ≡ q = (bytes_decides text q).0 yes in
    subst (λ (r : List ℕ). lookup (bytes_eq r) (old ++ (text, place) ∷ []) ≡ Some place) e (told_of_text old text place (lookup (bytes_eq text) old) refl same)
    ∙ sym (cond-true (bytes_eq text q) (Some place) (lookup (bytes_eq q) old) yes))
    (λ no.
    told_of_other old q text place (lookup (bytes_eq q) old) (eq-turned text q false no) refl
    ∙ sym (cond-false (bytes_eq text q) (Some place) (lookup (bytes_eq q) old) no))

pub told_push : (old : List (List ℕ × ℕ)) (text : List ℕ) (place : ℕ) → AreTold old → ((p : ℕ) → lookup (bytes_eq text) old ≡ Some p → p ≡ place)
    → AreTold (old ++ (text, place) ∷ [])
told_push old text place told same =
    let new : List (List ℕ × ℕ) = old ++ (text, place) ∷ [] in
    All-push (λ pair. lookup (bytes_eq pair.0) new ≡ Some pair.1) old (text, place)
    (λ k d within. lookup-front (bytes_eq (get_or old k d).0) old ((text, place) ∷ []) (get_or old k d).1 (told k d within))
    (told_of_text old text place (lookup (bytes_eq text) old) refl same)

-- ## Texts in their order

no_other : (o p : Ordering) → o ≡ ordering_reverse p → is_lt o ≡ false → is_lt p ≡ false → is_eq o ≡ true
no_other Less p turned first second = absurd (true≢false first)
no_other Equal p turned first second = refl
no_other Greater Less turned first second = absurd (true≢false second)
no_other Greater Equal turned first second = absurd (apart turned)
  where
    apart : Greater ≡ ordering_reverse Equal → ⊥
    apart e = cc
no_other Greater Greater turned first second = absurd (apart turned)
  where
    apart : Greater ≡ ordering_reverse Greater → ⊥
    apart e = cc

-- texts of which neither is before the other are the same
same_in_order : (a b : List ℕ) → is_before a b ≡ false → is_before b a ≡ false → a ≡ b
same_in_order a b first second =
    let x : List ℕ = reverse a in
    let y : List ℕ = reverse b in
    let equal : is_eq (slice_cmp nat_cmp x y) ≡ true = no_other (slice_cmp nat_cmp x y) (slice_cmp nat_cmp y x) (nat_list_cmp_total.antisymm x y) second first in
    let e : x ≡ y = (bytes_decides x y).0 (sym (is_eq-slice_cmp x y) ∙ equal) in
    sym (reverse-reverse a) ∙ ap reverse e ∙ reverse-reverse b

-- a text that was there before is the last one
pub last_again : (ts : List (List ℕ)) (i k : ℕ) (last text d : List ℕ) → IsSortedBy is_before ts → i < length ts → get_or ts i d ≡ text → k + 1 ≡ i → get_or ts k d ≡ last
    → list_any (bytes_eq text) (take i ts) ≡ true → last ≡ text
last_again ts i k last text d sorted within here before at again =
    let (j, far, e) = Contains-from_Holds (take i ts) text (Holds-from_any (take i ts) text again) in
    let low : j < i = omega (arith, far, length-take-le i ts (omega (arith, within))) in
    let there : get_or ts j d ≡ text = get_or_default ts j d text (omega arith) ∙ sym (get_or-take i ts j text low) ∙ e in
    let first : is_before (get_or ts k d) (get_or ts j d) ≡ false = sorted_far is_before (is_before-order (λ t. t)) ts sorted j k d (omega arith) (omega arith) in
    let second : is_before (get_or ts i d) (get_or ts k d) ≡ false = sorted_far is_before (is_before-order (λ t. t)) ts sorted k i d (omega arith) within in
    same_in_order last text
    (subst (λ (t : List ℕ). is_before last t ≡ false) there (subst (λ (t : List ℕ). is_before t (get_or ts j d) ≡ false) at first))
    (subst (λ (t : List ℕ). is_before text t ≡ false) at (subst (λ (t : List ℕ). is_before t (get_or ts k d) ≡ false) here second))

-- ## Texts with their places

without_places : (ks : List Numbered) → with_places ks [] ≡ []
without_places [] = refl
without_places (k ∷ ks) = refl

pub with_places-drop : (ks : List Numbered) (places : List ℕ) (i : ℕ) (d : Numbered) (e : ℕ) → i < length ks → i < length places
    → with_places (drop i ks) (drop i places) ≡ ((get_or ks i d).text, get_or places i e) ∷ with_places (drop (i + 1) ks) (drop (i + 1) places)
with_places-drop ks places i d e low within =
    ap (λ (l : List Numbered). with_places l (drop i places)) (drop_more ks i d low)
    ∙ ap (λ (l : List ℕ). with_places (get_or ks i d ∷ drop (i + 1) ks) l) (drop_more places i e within)

with_places-suc : (ks : List Numbered) (places : List ℕ) (i : ℕ) (d : Numbered) (place : ℕ) → i < length ks → length places ≡ i
    → with_places (take (suc i) ks) (places ++ place ∷ []) ≡ with_places (take i ks) places ++ ((get_or ks i d).text, place) ∷ []
with_places-suc [] places i d place low many = absurd (omega arith)
with_places-suc (k ∷ ks) [] zero d place low many = refl
with_places-suc (k ∷ ks) [] (suc i) d place low many = absurd (omega (arith, many))
with_places-suc (k ∷ ks) (p ∷ places) zero d place low many = absurd (omega (arith, many))
with_places-suc (k ∷ ks) (p ∷ places) (suc i) d place low many =
    ap (λ (l : List (List ℕ × ℕ)). (k.text, p) ∷ l) (with_places-suc ks places i d place (omega arith) (omega (arith, many)))

-- one text more with its place
pub with_places-more : (ks : List Numbered) (places : List ℕ) (i : ℕ) (d : Numbered) (place : ℕ) → i < length ks → length places ≡ i
    → with_places (take (i + 1) ks) (places ++ place ∷ []) ≡ with_places (take i ks) places ++ ((get_or ks i d).text, place) ∷ []
with_places-more ks places i d place low many =
    let next : i + 1 ≡ suc i = omega arith in
    ap (λ (n : ℕ). with_places (take n ks) (places ++ place ∷ [])) next ∙ with_places-suc ks places i d place low many

with_places-at : (ks : List Numbered) (places : List ℕ) (i : ℕ) (d : Numbered) (e : ℕ) (f : List ℕ × ℕ) → i < length ks → i < length places
    → (i < length (with_places ks places)) × (get_or (with_places ks places) i f ≡ ((get_or ks i d).text, get_or places i e))
with_places-at [] places i d e f low within = absurd (omega arith)
with_places-at (k ∷ ks) [] i d e f low within = absurd (omega arith)
with_places-at (k ∷ ks) (p ∷ places) zero d e f low within = (omega arith, refl)
with_places-at (k ∷ ks) (p ∷ places) (suc i) d e f low within =
    let rest = with_places-at ks places i d e f (omega arith) (omega arith) in
    (omega (arith, rest.0), rest.1)

-- what is left of the pairs tells what all do, where those before have another text
pub looked-on : (text : List ℕ) (ks : List Numbered) (places : List ℕ) (i : ℕ) (d : Numbered) (e : ℕ) → i < length ks → i < length places
    → bytes_eq text (get_or ks i d).text ≡ false
    → lookup (bytes_eq text) (with_places (drop (i + 1) ks) (drop (i + 1) places)) ≡ lookup (bytes_eq text) (with_places (drop i ks) (drop i places))
looked-on text ks places i d e low within other =
    sym (ap (lookup (bytes_eq text)) (with_places-drop ks places i d e low within)
    ∙ cond-false (bytes_eq text (get_or ks i d).text) (Some (get_or places i e)) (lookup (bytes_eq text) (with_places (drop (i + 1) ks) (drop (i + 1) places))) other)

pub looked-here : (text : List ℕ) (ks : List Numbered) (places : List ℕ) (i : ℕ) (d : Numbered) (e : ℕ) → i < length ks → i < length places
    → bytes_eq text (get_or ks i d).text ≡ true
    → lookup (bytes_eq text) (with_places (drop i ks) (drop i places)) ≡ Some (get_or places i e)
looked-here text ks places i d e low within itself =
    ap (lookup (bytes_eq text)) (with_places-drop ks places i d e low within)
    ∙ cond-true (bytes_eq text (get_or ks i d).text) (Some (get_or places i e)) (lookup (bytes_eq text) (with_places (drop (i + 1) ks) (drop (i + 1) places))) itself

-- no pairs are left, where no texts are or no places
pub looked-texts : (text : List ℕ) (ks : List Numbered) (places : List ℕ) (i : ℕ) → length ks ≤ i → lookup (bytes_eq text) (with_places (drop i ks) (drop i places)) ≡ None
looked-texts text ks places i past = ap (λ (l : List Numbered). lookup (bytes_eq text) (with_places l (drop i places))) (drop_all i ks past)

pub looked-places : (text : List ℕ) (ks : List Numbered) (places : List ℕ) (i : ℕ) → length places ≤ i → lookup (bytes_eq text) (with_places (drop i ks) (drop i places)) ≡ None
looked-places text ks places i past =
    ap (λ (l : List ℕ). lookup (bytes_eq text) (with_places (drop i ks) l)) (drop_all i places past) ∙ ap (lookup (bytes_eq text)) (without_places (drop i ks))

-- the pair at a position tells of its text what was laid
told_there : (ks : List Numbered) (places : List ℕ) (i : ℕ) (d : Numbered) (e : ℕ) → AreTold (with_places ks places) → i < length ks → i < length places
    → lookup (bytes_eq (get_or ks i d).text) (with_places ks places) ≡ Some (get_or places i e)
told_there ks places i d e told low within =
    let at = with_places-at ks places i d e ([], 0) low within in
    subst (λ (p : List ℕ × ℕ). lookup (bytes_eq p.0) (with_places ks places) ≡ Some p.1) at.1 (told i ([], 0) at.0)

-- the pair at a position tells what was laid of each text that is the same
pub told_at : (text : List ℕ) (ks : List Numbered) (places : List ℕ) (i : ℕ) (d : Numbered) (e : ℕ) → AreTold (with_places ks places) → i < length ks → i < length places
    → bytes_eq text (get_or ks i d).text ≡ true → lookup (bytes_eq text) (with_places ks places) ≡ Some (get_or places i e)
told_at text ks places i d e told low within itself =
    let same : text ≡ (get_or ks i d).text = (bytes_decides text (get_or ks i d).text).0 itself in
    subst (λ (t : List ℕ). lookup (bytes_eq t) (with_places ks places) ≡ Some (get_or places i e)) (sym same) (told_there ks places i d e told low within)
