-- Texts that end others, and their order by their bytes from the end.
use Rattle.std.proofs.Common.{◌≡◌, ℕ, ◌-◌, true, false, List, [], ◌∷◌, ◌++◌, length, drop, take, reverse, refl, sym, ap, ◌∙◌, subst, nat_eq, arith}
use Rattle.std.specs.Cmp.{IsStrictWeakOrder}
use Rattle.std.specs.Cmp.Lexicographic.{bytes_decides, nat_list_cmp_total, slice_cmp}
use Rattle.std.specs.List.{ends_with}
use Rattle.std.specs.Ordering.{is_lt, nat_cmp}
use Rattle.elf_tables.specs.StringSteps.{is_before}
use Rattle.std.proofs.lemmas.Bool.{true≢false}
use Rattle.std.proofs.lemmas.Bool.Decides.{nat_tests}
use Rattle.std.proofs.lemmas.List.{append-nil, reverse-append, reverse-reverse, take-append-drop}
use Rattle.std.proofs.lemmas.List.Prefix.{end_rest}
use Rattle.std.proofs.lemmas.List.Sorted.{IsStrictWeakOrder-flip, ranks_by}

-- a text ends another
pub record IsEnd (text end : List ℕ) : Type 0 where
  pub front : List ℕ
  pub is : text ≡ front ++ end

pub IsEnd-from : (text end : List ℕ) → ends_with nat_eq text end ≡ true → IsEnd text end
IsEnd-from text end e =
    let k : ℕ = length text - length end in
    let same : end ≡ drop k text = (bytes_decides end (drop k text)).0 e in
    record { front = take k text; is = sym (take-append-drop k text) ∙ ap (λ l. take k text ++ l) (sym same) }

pub ends_with-from : (text end : List ℕ) → IsEnd text end → ends_with nat_eq text end ≡ true
ends_with-from text end h = (bytes_decides end (drop (length text - length end) text)).1 (sym (end_rest text end h.front h.is))

pub IsEnd-refl : (text : List ℕ) → IsEnd text text
IsEnd-refl text = record { front = []; is = refl }

pub IsEnd-empty : (text : List ℕ) → IsEnd text []
IsEnd-empty text = record { front = text; is = sym (append-nil text) }

-- the empty text has no other end than itself
pub end_of_empty : (end : List ℕ) → IsEnd [] end → end ≡ []
end_of_empty [] h = refl
end_of_empty (x ∷ end) h = absurd (no_cons h.front h.is)
  where
    no_cons : (front : List ℕ) → [] ≡ front ++ x ∷ end → ⊥
    no_cons [] e = cc
    no_cons (y ∷ front) e = cc

-- ## The order of lists of bytes

-- the first isn't below the second
pub NotBelow : List ℕ → List ℕ → Type 0
NotBelow xs ys = is_lt (slice_cmp nat_cmp xs ys) ≡ false

-- a list begins with another
record IsBegin (list begin : List ℕ) : Type 0 where
  rest : List ℕ
  is : list ≡ begin ++ rest

same_heads : (x y : ℕ) (xs ys us : List ℕ) → NotBelow (y ∷ ys) (x ∷ xs) → NotBelow (x ∷ us) (y ∷ ys) → (x ≡ y) × NotBelow ys xs × NotBelow us ys
unfolding NotBelow
same_heads x y xs ys us above below = grind (arith, nat_tests)

no_above : (x : ℕ) (xs ys : List ℕ) → NotBelow (x ∷ ys) (x ∷ xs) → NotBelow ys xs
unfolding NotBelow
no_above x xs ys e = grind (arith, nat_tests)

-- what lies between a list and one that begins with it begins with it
between : (begin middle list : List ℕ) → NotBelow middle begin → NotBelow list middle → IsBegin list begin → IsBegin middle begin
unfolding NotBelow
between [] middle list above below h = record { rest = middle; is = refl }
between (x ∷ begin) [] list above below h = absurd (true≢false above)
between (x ∷ begin) (y ∷ middle) list above below h =
    let whole : list ≡ x ∷ (begin ++ h.rest) = h.is in
    let under : is_lt (slice_cmp nat_cmp (x ∷ (begin ++ h.rest)) (y ∷ middle)) ≡ false = subst (λ (l : List ℕ). is_lt (slice_cmp nat_cmp l (y ∷ middle)) ≡ false) whole below in
    let (head, tail_above, tail_below) = same_heads x y begin middle (begin ++ h.rest) above under in
    let inner : IsBegin middle begin = between begin middle (begin ++ h.rest) tail_above tail_below (record { rest = h.rest; is = refl }) in
    record { rest = inner.rest; is = (λ i. sym head i ∷ inner.is i) }

-- a list that isn't above one that it begins with is that one
begin_above : (begin rest : List ℕ) → NotBelow begin (begin ++ rest) → rest ≡ []
unfolding NotBelow
begin_above [] [] e = refl
begin_above [] (x ∷ rest) e = absurd (true≢false e)
begin_above (x ∷ begin) rest e = begin_above begin rest (no_above x (begin ++ rest) begin e)

-- ## Texts

-- the first text isn't below the second, from their ends
pub NotBefore : List ℕ → List ℕ → Type 0
NotBefore text other = is_lt (slice_cmp nat_cmp (reverse text) (reverse other)) ≡ false

begin_from_end : (text end : List ℕ) → IsEnd text end → IsBegin (reverse text) (reverse end)
begin_from_end text end h = record { rest = reverse h.front; is = ap reverse h.is ∙ reverse-append h.front end }

end_from_begin : (text end : List ℕ) → IsBegin (reverse text) (reverse end) → IsEnd text end
end_from_begin text end h = record {
  front = reverse h.rest;
  is = sym (reverse-reverse text) ∙ ap reverse h.is ∙ reverse-append (reverse end) h.rest ∙ ap (λ l. reverse h.rest ++ l) (reverse-reverse end);
}

-- what lies between a text and one of its ends ends with it
pub between_texts : (end middle text : List ℕ) → NotBefore middle end → NotBefore text middle → IsEnd text end → IsEnd middle end
unfolding NotBefore NotBelow
between_texts end middle text above below h = end_from_begin middle end (between (reverse end) (reverse middle) (reverse text) above below (begin_from_end text end h))

-- a text that isn't before one that it ends is that one
pub end_not_before : (text end : List ℕ) → NotBefore end text → IsEnd text end → text ≡ end
unfolding NotBefore NotBelow
end_not_before text end above h =
    let front : List ℕ = h.front in
    let turned : reverse text ≡ reverse end ++ reverse front = ap reverse h.is ∙ reverse-append front end in
    let none : reverse front ≡ [] = begin_above (reverse end) (reverse front) (subst (λ (l : List ℕ). is_lt (slice_cmp nat_cmp (reverse end) l) ≡ false) turned above) in
    h.is ∙ ap (λ l. l ++ end) (sym (reverse-reverse front) ∙ ap reverse none)

pub is_before-order : {A : Type 0} (text_of : A → List ℕ) → IsStrictWeakOrder (λ (x : A) (y : A). is_before (text_of x) (text_of y))
is_before-order {A} text_of =
    IsStrictWeakOrder-flip (λ (x : A) (y : A). is_lt (slice_cmp nat_cmp (reverse (text_of x)) (reverse (text_of y)))) (ranks_by nat_list_cmp_total (λ x. reverse (text_of x)))

pub is_before-NotBefore : (text other : List ℕ) → is_before text other ≡ false → NotBefore other text
unfolding NotBefore
is_before-NotBefore text other e = e
