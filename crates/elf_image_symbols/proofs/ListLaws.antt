-- Lists of which one element is changed, removed, or some are picked.
use Rattle.std.proofs.Common.{◌≡◌, ◌≢◌, ℕ, zero, suc, ◌<◌, ◌≤◌, Bool, true, false, cond, List, [], ◌∷◌, ◌++◌, length, map, take, drop, get_or, set, filter, refl, sym, ap, ◌∙◌, inl, inr, Result, Ok, Err, arith}
use Rattle.std.specs.Prelude.{◌==◌, MatchResult, insert, is_ok, remove}
use Rattle.std.specs.List.{All, items_where_true}
use Rattle.std.proofs.lemmas.Bool.{cases_lt, eq-eqb, ne_eqb, or_from, or_left, or_right}
use Rattle.std.proofs.lemmas.List.{drop-map, map-append, take-map}
use Rattle.std.proofs.lemmas.List.Elements.{All-append, All-cons, All-drop, All-head, All-nil, All-tail, All-take}
use Rattle.elf_format.specs.Options.{is_one_of}
use Rattle.elf_image_symbols.specs.EditedList.{changed_at}

-- ## One element is changed

-- the code's write of the element at a position
pub changed_at-set : {A : Type 0} (f : A → A) (xs : List A) (k : ℕ) (x : A) → k < length xs → x ≡ get_or xs k x → set xs k (f x) ≡ changed_at k f xs
changed_at-set f [] k x less is = absurd (omega (arith, less))
changed_at-set f (y ∷ xs) zero x less is = ap (λ z. f z ∷ xs) is
changed_at-set f (y ∷ xs) (suc k) x less is = ap (λ l. y ∷ l) (changed_at-set f xs k x (omega (arith, less)) is)

-- what the change leaves as it was
pub map-changed_at : {A B : Type 0} (part : A → B) (f : A → A) → ((x : A) → part (f x) ≡ part x) → (k : ℕ) (xs : List A) → map part (changed_at k f xs) ≡ map part xs
map-changed_at part f leaves k [] = refl
map-changed_at part f leaves zero (x ∷ xs) = ap (λ y. y ∷ map part xs) (leaves x)
map-changed_at part f leaves (suc k) (x ∷ xs) = ap (λ l. part x ∷ l) (map-changed_at part f leaves k xs)

pub All-changed_at : {A : Type 0} (P : A → Type 0) (f : A → A) → ((x : A) → P x → P (f x)) → (k : ℕ) (xs : List A) → All P xs → All P (changed_at k f xs)
All-changed_at P f keeps k [] all = All-nil P
All-changed_at P f keeps zero (x ∷ xs) all = All-cons P (f x) xs (keeps x (All-head P x xs all)) (All-tail P x xs all)
All-changed_at P f keeps (suc k) (x ∷ xs) all = All-cons P x (changed_at k f xs) (All-head P x xs all) (All-changed_at P f keeps k xs (All-tail P x xs all))

-- ## One element is put in or removed

pub All-insert : {A : Type 0} (P : A → Type 0) (xs : List A) (k : ℕ) (x : A) → P x → All P xs → All P (insert xs k x)
All-insert P xs k x here all = All-append P (take k xs) (x ∷ drop k xs) (All-take P k xs all) (All-cons P x (drop k xs) here (All-drop P k xs all))

pub map-remove : {A B : Type 0} (f : A → B) (xs : List A) (i : ℕ) → map f (remove xs i) ≡ remove (map f xs) i
map-remove f xs i =
    map-append f (take i xs) (drop (suc i) xs) ∙ ap (λ ys. ys ++ map f (drop (suc i) xs)) (sym (take-map f i xs)) ∙ ap (λ ys. take i (map f xs) ++ ys) (sym (drop-map f (suc i) xs))

-- ## Some are picked

pub items_where_true-map : {A B : Type 0} (test : A → Bool) (f : A → B) (xs : List A) → items_where_true (map test xs) (map f xs) ≡ map f (filter test xs)
items_where_true-map test f [] = refl
items_where_true-map {A} {B} test f (x ∷ xs) = by_test (test x) (items_where_true-map test f xs)
  where
    by_test : (b : Bool) → items_where_true (map test xs) (map f xs) ≡ map f (filter test xs) → items_where_true (b ∷ map test xs) (f x ∷ map f xs) ≡ map f (cond b (x ∷ filter test xs) (filter test xs))
    by_test true rest = ap (λ l. f x ∷ l) rest
    by_test false rest = rest

-- ## A number is one of them

one_there : (xs : List ℕ) (x i : ℕ) → i < length xs → get_or xs i 0 ≡ x → is_one_of xs x ≡ true
one_there [] x i less is = absurd (omega (arith, less))
one_there (y ∷ xs) x zero less is = or_left (y == x) (is_one_of xs x) (eq-eqb y x is)
one_there (y ∷ xs) x (suc i) less is = or_right (y == x) (is_one_of xs x) (one_there xs x i (omega (arith, less)) is)

none_there : (xs : List ℕ) (x : ℕ) → ((i : ℕ) → i < length xs → get_or xs i 0 ≢ x) → is_one_of xs x ≡ false
none_there [] x others = refl
none_there (y ∷ xs) x others = or_from (y == x) (is_one_of xs x) (ne_eqb y x (others zero (omega arith))) (none_there xs x (λ i less. others (suc i) (omega (arith, less))))

-- what a search among numbers that don't fall answers
pub is_one_of-searched : (xs : List ℕ) (x : ℕ) (r : Result ℕ ℕ)
    → MatchResult r (λ i. (i < length xs) × (get_or xs i 0 ≡ x)) (λ i. (i ≤ length xs) × ((k : ℕ) → k < i → get_or xs k 0 < x) × ((k : ℕ) → i ≤ k → k < length xs → x < get_or xs k 0))
    → is_ok r ≡ is_one_of xs x
is_one_of-searched xs x (Ok i) found = sym (one_there xs x i found.0 found.1)
is_one_of-searched xs x (Err i) missing = sym (none_there xs x (λ k less. elim (cases_lt k i) [
  | inl before ↦ (λ (e : get_or xs k 0 ≡ x). let low = missing.1 k before in omega (arith, low, e))
  | inr behind ↦ (λ (e : get_or xs k 0 ≡ x). let high = missing.2 k behind less in omega (arith, high, e))
]))
