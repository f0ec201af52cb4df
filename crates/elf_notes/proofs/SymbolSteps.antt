-- Steps of looking through dynamic symbols.
use Rattle.std.proofs.Common.{◌≡◌, ℕ, zero, suc, ◌+◌, ◌<◌, ◌≤◌, Bool, true, false, ◌||◌, not, List, [], ◌∷◌, ◌++◌, length, take, drop, map, refl, sym, ap, ◌∙◌, Option, Some, None, option_map, Bor, arith}
use Rattle.std.specs.Prelude.{◌&&◌, slice_get}
use Rattle.std.specs.List.{list_any}
use Rattle.std.specs.Str.{bytes_eq}
use Rattle.std.proofs.lemmas.Bool.{both_ways}
use Rattle.std.proofs.lemmas.List.{drop_more, length-take-le, map-append, take-append-drop, take_more}
use Rattle.std.proofs.lemmas.List.Folds.{list_any-append}
use Rattle.std.proofs.lemmas.Option.{get_or_from_slice_get, none-some, same_Some, slice_get_within}
use Rattle.elf_format.specs.Views.{NamedSymbol}
use Rattle.elf_edits.specs.Changes.{has_name}
use Rattle.elf_edits.specs.Symbols.{name_of_symbol, names_behind_first}
use Rattle.elf_edits.specs.Texts.{is_among}
use Rattle.elf_notes.specs.Notes.{Name}

-- ## The first of them that passes a test

slice_get-take : {A : Type 0} (xs : List A) (n i : ℕ) → i < n → slice_get (take n xs) i ≡ slice_get xs i
slice_get-take xs zero i h = absurd (omega arith)
slice_get-take [] (suc n) i h = refl
slice_get-take (x ∷ xs) (suc n) zero h = refl
slice_get-take (x ∷ xs) (suc n) (suc i) h = slice_get-take xs n i (omega arith)

module _ {A : Type 0} (test : A → Bool) (xs : List A) (i : ℕ) where
  from_here : (x : A) → slice_get xs i ≡ Some x → list_any test (drop i xs) ≡ (test x || list_any test (drop (i + 1) xs))
  from_here x at =
      ap (list_any test) (drop_more xs i x (slice_get_within xs i x at) ∙ ap (λ y. y ∷ drop (i + 1) xs) (get_or_from_slice_get xs i x x at))

  pub any_ends : (x : A) (all : Bool) → slice_get xs i ≡ Some x → test x ≡ true → list_any test (drop i xs) ≡ all → true ≡ all
  any_ends x all at holds so_far = sym (ap (λ b. b || list_any test (drop (i + 1) xs)) holds) ∙ sym (from_here x at) ∙ so_far

  pub any_goes : (x : A) (all : Bool) → slice_get xs i ≡ Some x → test x ≡ false → list_any test (drop i xs) ≡ all → list_any test (drop (i + 1) xs) ≡ all
  any_goes x all at fails so_far = sym (ap (λ b. b || list_any test (drop (i + 1) xs)) fails) ∙ sym (from_here x at) ∙ so_far

pub within : {A : Type 0} (xs : List A) (n i : ℕ) (x : A) → i < n → slice_get xs i ≡ Some x → slice_get (take n xs) i ≡ Some x
within xs n i x h at = slice_get-take xs n i h ∙ at

-- a part of the symbol at a position is a part of a symbol that stands there
pub with_part : {A B : Type 0} → (f : A → B) (o : Option A) (t : B) → option_map f o ≡ Some t → (x : A) × (o ≡ Some x) × (f x ≡ t)
with_part f None t is = absurd (none-some t is)
with_part f (Some x) t is = (x, refl, same_Some (f x) t is)

-- ## Their names

tail_grows : {A : Type 0} (xs ys : List A) → 1 ≤ length xs → drop 1 (xs ++ ys) ≡ drop 1 xs ++ ys
tail_grows [] ys h = absurd (omega arith)
tail_grows (x ∷ xs) ys h = refl

pub named_more : (ys : List NamedSymbol) (i : ℕ) (name : Name) → 1 ≤ i → i < length ys → option_map (λ y. y.name) (slice_get ys i) ≡ Some name
    → names_behind_first (take (i + 1) ys) ≡ names_behind_first (take i ys) ++ name ∷ []
named_more ys i name first here named = at (slice_get ys i) refl named where
  at : (o : Option NamedSymbol) → slice_get ys i ≡ o → option_map (λ y. y.name) o ≡ Some name → names_behind_first (take (i + 1) ys) ≡ names_behind_first (take i ys) ++ name ∷ []
  at None is e = absurd (none-some name e)
  at (Some y) is e =
      ap names_behind_first (take_more ys i y here ∙ ap (λ z. take i ys ++ z ∷ []) (get_or_from_slice_get ys i y y is))
      ∙ ap (map name_of_symbol) (tail_grows (take i ys) (y ∷ []) (let e : length (take i ys) ≡ i = length-take-le i ys (omega arith) in omega (arith, e, first)))
      ∙ map-append name_of_symbol (drop 1 (take i ys)) (y ∷ [])
      ∙ ap (λ n. names_behind_first (take i ys) ++ n ∷ []) (same_Some y.name name e)

pub none_named : (ys : List NamedSymbol) → names_behind_first (take 1 ys) ≡ []
none_named [] = refl
none_named (y ∷ ys) = refl

-- ## Names that none is left of

tail_of : {A : Type 0} (xs : List A) (i : ℕ) → 1 ≤ i → drop 1 xs ≡ drop 1 (take i xs) ++ drop i xs
tail_of xs zero first = absurd (omega (arith, first))
tail_of [] (suc i) first = refl
tail_of (x ∷ xs) (suc i) first = sym (take-append-drop i xs)

more_names : (ys : List NamedSymbol) (i : ℕ) → 1 ≤ i → (name : Name) → is_among (names_behind_first ys) name
    ≡ (is_among (names_behind_first (take i ys)) name || is_among (map name_of_symbol (drop i ys)) name)
more_names ys i first name =
    ap (λ l. is_among (map name_of_symbol l) name) (tail_of ys i first)
    ∙ ap (λ l. is_among l name) (map-append name_of_symbol (drop 1 (take i ys)) (drop i ys))
    ∙ list_any-append (λ y. bytes_eq name y) (names_behind_first (take i ys)) (map name_of_symbol (drop i ys))

stay_out : (left all these others : Bool) → left ≡ false → left ≡ (all && not these) → left ≡ (all && not (these || others))
stay_out left all true others none is = is
stay_out left true false others none is = absurd (both_ways left none is)
stay_out left false false others none is = is

-- a set without names is one without those of all symbols
pub none_left : (ys : List NamedSymbol) (i : ℕ) (all left : Bool) (name : Name) → 1 ≤ i → left ≡ false
    → left ≡ (all && not (is_among (names_behind_first (take i ys)) name)) → left ≡ (all && not (is_among (names_behind_first ys) name))
none_left ys i all left name first none is =
    stay_out left all (is_among (names_behind_first (take i ys)) name) (is_among (map name_of_symbol (drop i ys)) name) none is
    ∙ ap (λ b. all && not b) (sym (more_names ys i first name))

-- no name is in an empty set
pub none_has : (set : List (Bor Name)) (name : Name) → length set ≡ 0 → has_name set name ≡ false
none_has [] name is = refl
none_has (x ∷ set) name is = absurd (omega (arith, is))
