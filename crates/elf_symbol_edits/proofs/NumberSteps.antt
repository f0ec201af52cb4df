-- The numbers of what passes a test, gathered one after another.
use Rattle.std.proofs.Common.{◌≡◌, ℕ, zero, suc, ◌<◌, ◌≤◌, Bool, false, cond, List, [], ◌∷◌, length, map, filter, get_or, refl, sym, ap, ◌∙◌, subst, inl, inr, Option, Some, None, option_map, arith}
use Rattle.std.specs.Prelude.{◌==◌, ◌&&◌, All, Contains, not, slice_index}
use Rattle.std.specs.List.{slice_get, zip}
use Rattle.std.specs.List.Sorted.{IsNonDecreasing}
use Rattle.std.proofs.lemmas.Bool.{and_parts, not-true}
use Rattle.std.proofs.lemmas.List.Elements.{Contains-get_or}
use Rattle.std.proofs.lemmas.Option.{none-some, same_Some, slice_get-get_or, slice_get-map}
use Rattle.elf_format.specs.Options.{is_one_of}
use Rattle.elf_image.proofs.ForCallers.ListsLeft.{contained_by, contains_cases, contains_cons, contains_first, left_was, none_if}
use Rattle.elf_edits.proofs.ForCallers.{kept_firsts_rise}
use Rattle.elf_symbol_edits.specs.Named.{numbers_passing}

-- ## Two lists side by side

pub zip_there : {A B : Type 0} (xs : List A) (ys : List B) (i : ℕ) (x : A) (y : B) → slice_get xs i ≡ Some x → slice_get ys i ≡ Some y → slice_get (zip xs ys) i ≡ Some (x, y)
zip_there [] ys i x y at bt = absurd (none-some x at)
zip_there (z ∷ xs) [] i x y at bt = absurd (none-some y bt)
zip_there {A} {B} (z ∷ xs) (w ∷ ys) zero x y at bt = ap (λ (a : A). Some (a, w)) (same_Some z x at) ∙ ap (λ (b : B). Some (x, b)) (same_Some w y bt)
zip_there (z ∷ xs) (w ∷ ys) (suc i) x y at bt = zip_there xs ys i x y at bt

pub zip_short : {A B : Type 0} (xs : List A) (ys : List B) → length (zip xs ys) ≤ length ys
zip_short [] ys = omega arith
zip_short (x ∷ xs) [] = omega arith
zip_short (x ∷ xs) (y ∷ ys) = let rest = zip_short xs ys in omega (arith, rest)

zip_first : {A B : Type 0} (xs : List A) (ys : List B) (z : A × B) → Contains (zip xs ys) z → Contains xs z.0
zip_first [] ys z has = absurd (omega (arith, has.1))
zip_first (x ∷ xs) [] z has = absurd (omega (arith, has.1))
zip_first {A} {B} (x ∷ xs) (y ∷ ys) z has = elim (contains_cases (x, y) (zip xs ys) z has) [
  | inl same ↦ subst (λ (w : A × B). Contains (x ∷ xs) w.0) same (contains_first x xs)
  | inr rest ↦ contains_cons x xs z.0 (zip_first xs ys z rest)
]

-- what is looked at of the element at a place
pub part_there : {A B : Type 0} (part : A → B) (xs : List A) (i : ℕ) (b : B) → option_map part (slice_get xs i) ≡ Some b → (x : A) × (slice_get xs i ≡ Some x) × (part x ≡ b)
part_there {A} {B} part xs i b = by_option (slice_get xs i)
  where
    by_option : (o : Option A) → option_map part o ≡ Some b → (x : A) × (o ≡ Some x) × (part x ≡ b)
    by_option None e = absurd (none-some b e)
    by_option (Some x) e = (x, refl, same_Some (part x) b e)

-- an element that is lent, of a list that is seen element by element
pub model_there : {A B : Type 0} (model : A → B) (xs : List A) (all : List B) (i : ℕ) (x : A) → map model xs ≡ all → i < length xs → x ≡ get_or xs i x → slice_get all i ≡ Some (model x)
model_there {A} {B} model xs all i x are less is =
    ap (λ (l : List B). slice_get l i) (sym are) ∙ slice_get-map model xs i ∙ ap (option_map model) (slice_get-get_or xs i x less ∙ ap (λ (y : A). Some y) (sym is))

-- a number that is there
pub index_there : (ns : List ℕ) (i n : ℕ) → i < length ns → n ≡ slice_index ns i → slice_get ns i ≡ Some n
index_there ns i n less is = slice_get-get_or ns i 0 less ∙ ap (λ (k : ℕ). Some k) (sym is)

-- ## The numbers

module _ {A : Type 0} (test : A → Bool) (ns : List ℕ) (xs : List A) where
  abbrev passes : ℕ × A → Bool
  passes x = not (x.0 == 0) && test x.1

  -- each is the number of an element that passes, and isn't 0
  passing : (n : ℕ) → Contains (numbers_passing test ns xs) n → Contains ns n × ((n == 0) ≡ false)
  passing n has =
      let (z, there, is) = contained_by (λ (x : ℕ × A). x.0) (filter passes (zip ns xs)) n has in
      let (was, holds) = left_was passes (zip ns xs) z there in (
        subst (λ (k : ℕ). Contains ns k) is (zip_first ns xs z was),
        ap (λ (k : ℕ). k == 0) (sym is) ∙ not-true (z.0 == 0) (and_parts (not (z.0 == 0)) (test z.1) holds).0,
      )

  pub all_there : All (Contains ns) (numbers_passing test ns xs)
  all_there i d less = (passing (get_or (numbers_passing test ns xs) i d) (Contains-get_or (numbers_passing test ns xs) i d less)).0

  pub none_first : is_one_of (numbers_passing test ns xs) 0 ≡ false
  none_first = none_if (λ x. x == 0) (numbers_passing test ns xs) (λ n has. (passing n has).1)

  pub passing_rise : length ns ≡ length xs → ((i j : ℕ) → i < j → j < length ns → slice_index ns i < slice_index ns j) → IsNonDecreasing (numbers_passing test ns xs)
  passing_rise long rising = kept_firsts_rise ns xs long rising passes

filter_same : {A : Type 0} (f g : A → Bool) → ((x : A) → f x ≡ g x) → (xs : List A) → filter f xs ≡ filter g xs
filter_same f g same [] = refl
filter_same f g same (x ∷ xs) =
    ap (λ (b : Bool). cond b (x ∷ filter f xs) (filter f xs)) (same x) ∙ ap (λ l. cond (g x) (x ∷ l) l) (filter_same f g same xs)

-- two tests that say the same
pub passing_same : {A : Type 0} (f g : A → Bool) → ((x : A) → f x ≡ g x) → (ns : List ℕ) (xs : List A) → numbers_passing f ns xs ≡ numbers_passing g ns xs
passing_same {A} f g same ns xs =
    ap (map (λ (x : ℕ × A). x.0)) (filter_same (λ (x : ℕ × A). not (x.0 == 0) && f x.1) (λ (x : ℕ × A). not (x.0 == 0) && g x.1) (λ x. ap (λ (b : Bool). not (x.0 == 0) && b) (same x.1)) (zip ns xs))
