-- Walks over symbols, one by one.
use Rattle.std.proofs.Common.{◌≡◌, ◌+◌, ℕ, List, [], ◌∷◌, ◌++◌, append_assoc, drop, sym, ap, ◌∙◌, refl, Option, Some, None, Bool, true, false, cond, arith}
use Rattle.std.specs.Prelude.{count_by, option_map, slice_get}
use Rattle.std.proofs.lemmas.List.{drop_more}
use Rattle.std.proofs.lemmas.List.Sums.{sum_by-cons}
use Rattle.std.proofs.lemmas.Option.{get_or_from_slice_get, none-some, same_Some, slice_get_within}
use Rattle.elf_format.specs.Views.{NamedSymbol}
use Rattle.elf_layout_plan.specs.Texts.{texts_of_symbols}

-- what is left from a position on begins with what stands there
pub rest_at : {A : Type 0} → (xs : List A) (i : ℕ) (x : A) → slice_get xs i ≡ Some x → drop i xs ≡ x ∷ drop (i + 1) xs
rest_at {A} xs i x at =
    drop_more xs i x (slice_get_within xs i x at) ∙ ap (λ (y : A). y ∷ drop (i + 1) xs) (get_or_from_slice_get xs i x x at)

-- a part of the symbol at a position is a part of a symbol that stands there
pub with_part : {A B : Type 0} → (f : A → B) (o : Option A) (t : B) → option_map f o ≡ Some t → (x : A) × (o ≡ Some x) × (f x ≡ t)
with_part f None t is = absurd (none-some t is)
with_part f (Some x) t is = (x, refl, same_Some (f x) t is)

-- the same part of a symbol that is known to stand there
pub part_at : {A B : Type 0} → (f : A → B) (o : Option A) (x : A) (t : B) → o ≡ Some x → option_map f o ≡ Some t → f x ≡ t
part_at f o x t there is = same_Some (f x) t (sym (ap (option_map f) there) ∙ is)

-- the names that are left from a position on begin with the name there
pub names_at : (ys : List NamedSymbol) (i : ℕ) (t : List ℕ) → option_map (λ (y : NamedSymbol). y.name) (slice_get ys i) ≡ Some t
    → texts_of_symbols (drop i ys) ≡ t ∷ texts_of_symbols (drop (i + 1) ys)
names_at ys i t is =
    let (y, at, named) = with_part (λ (z : NamedSymbol). z.name) (slice_get ys i) t is in
    ap texts_of_symbols (rest_at ys i y at) ∙ ap (λ (n : List ℕ). n ∷ texts_of_symbols (drop (i + 1) ys)) named

-- one name more was gathered
pub name_gathered : (old new all : List (List ℕ)) (ys : List NamedSymbol) (i : ℕ) (t : List ℕ) → option_map (λ (y : NamedSymbol). y.name) (slice_get ys i) ≡ Some t
    → new ≡ old ++ t ∷ [] → old ++ texts_of_symbols (drop i ys) ≡ all → new ++ texts_of_symbols (drop (i + 1) ys) ≡ all
name_gathered old new all ys i t is pushed so_far =
    ap (λ (l : List (List ℕ)). l ++ texts_of_symbols (drop (i + 1) ys)) pushed
    ∙ append_assoc old (t ∷ []) (texts_of_symbols (drop (i + 1) ys))
    ∙ ap (λ (l : List (List ℕ)). old ++ l) (sym (names_at ys i t is)) ∙ so_far

-- ## Tests of symbols

-- the symbols that are left and pass a test, the first of them apart
counted_at : (test : NamedSymbol → Bool) (ys : List NamedSymbol) (i : ℕ) (y : NamedSymbol) (b : Bool) → slice_get ys i ≡ Some y → test y ≡ b
    → count_by test (drop i ys) ≡ cond b 1 0 + count_by test (drop (i + 1) ys)
counted_at test ys i y b at is =
    ap (count_by test) (rest_at ys i y at)
    ∙ sum_by-cons (λ z. cond (test z) 1 0) y (drop (i + 1) ys)
    ∙ ap (λ (c : Bool). cond c 1 0 + count_by test (drop (i + 1) ys)) is

-- a symbol passes the test
pub counted_next : (test : NamedSymbol → Bool) (ys : List NamedSymbol) (i : ℕ) (y : NamedSymbol) (count next all : ℕ) → slice_get ys i ≡ Some y → test y ≡ true
    → next ≡ count + 1 → count + count_by test (drop i ys) ≡ all → next + count_by test (drop (i + 1) ys) ≡ all
counted_next test ys i y count next all at is one_more so_far = let here = counted_at test ys i y true at is in omega (arith, one_more, so_far, here)

-- a symbol doesn't
pub counted_on : (test : NamedSymbol → Bool) (ys : List NamedSymbol) (i : ℕ) (y : NamedSymbol) (count next all : ℕ) → slice_get ys i ≡ Some y → test y ≡ false
    → next ≡ count → count + count_by test (drop i ys) ≡ all → next + count_by test (drop (i + 1) ys) ≡ all
counted_on test ys i y count next all at is same so_far = let here = counted_at test ys i y false at is in omega (arith, same, so_far, here)
