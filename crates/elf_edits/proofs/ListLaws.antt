-- Lists of entries that are changed, filtered and looked through.
use Rattle.std.proofs.Common.{◌≡◌, Bool, true, false, not, ◌||◌, List, [], ◌∷◌, ◌++◌, map, filter, refl, sym, ap, ◌∙◌, Option, Some, None}
use Rattle.std.specs.Prelude.{All}
use Rattle.std.specs.List.{list_any, flat_map}
use Rattle.std.proofs.lemmas.Bool.{both_ways, cond-true, cond-false, or_parts}
use Rattle.std.proofs.lemmas.List.{map-append}
use Rattle.std.proofs.lemmas.List.Elements.{All-nil, All-cons}
use Rattle.elf_image.specs.Dynamic.{Entry}
use Rattle.elf_image.specs.Options.{first_there}
use Rattle.elf_edits.specs.Entries.{changed_where}

-- cases on a test, with what it is
pub by_test : {P : Type 0} (b : Bool) → (b ≡ true → P) → (b ≡ false → P) → P
by_test true then_so else_so = then_so refl
by_test false then_so else_so = else_so refl

-- the first of some options
pub there_or_none : {A : Type 0} (o : Option A) → first_there o None ≡ o
there_or_none None = refl
there_or_none (Some x) = refl

pub first_of_three : {A : Type 0} (o p q : Option A) → first_there (first_there o p) q ≡ first_there o (first_there p q)
first_of_three None p q = refl
first_of_three (Some x) p q = refl

-- elements that are changed alike in what a test looks at
pub list_any-map : {A : Type 0} (test : A → Bool) (change : A → A) → ((x : A) → test (change x) ≡ test x) → (xs : List A) → list_any test (map change xs) ≡ list_any test xs
list_any-map test change same [] = refl
list_any-map test change same (x ∷ xs) = ap (λ b. b || list_any test (map change xs)) (same x) ∙ ap (λ b. test x || b) (list_any-map test change same xs)

-- what is filtered out doesn't pass the test
pub list_any-filter : {A : Type 0} (test keep : A → Bool) → ((x : A) → keep x ≡ false → test x ≡ false) → (xs : List A) → list_any test (filter keep xs) ≡ list_any test xs
list_any-filter test keep other [] = refl
list_any-filter {A} test keep other (x ∷ xs) = by_test (keep x)
    (λ holds. ap (list_any test) (cond-true (keep x) (x ∷ filter keep xs) (filter keep xs) holds) ∙ ap (λ b. test x || b) (list_any-filter test keep other xs))
    (λ fails. ap (list_any test) (cond-false (keep x) (x ∷ filter keep xs) (filter keep xs) fails) ∙ list_any-filter test keep other xs ∙ sym (ap (λ b. b || list_any test xs) (other x fails)))

-- nothing that is kept passes the opposite test
pub none_kept : {A : Type 0} (test : A → Bool) (xs : List A) → list_any test (filter (λ x. not (test x)) xs) ≡ false
none_kept test [] = refl
none_kept {A} test (x ∷ xs) = by_test (test x)
    (λ holds. ap (list_any test) (cond-false (not (test x)) (x ∷ rest) rest (ap not holds)) ∙ none_kept test xs)
    (λ fails. ap (list_any test) (cond-true (not (test x)) (x ∷ rest) rest (ap not fails)) ∙ ap (λ b. b || list_any test rest) fails ∙ none_kept test xs)
  where
    rest : List A
    rest = filter (λ y. not (test y)) xs

-- what was filtered is filtered
pub filter-filter : {A : Type 0} (keep : A → Bool) (xs : List A) → filter keep (filter keep xs) ≡ filter keep xs
filter-filter keep [] = refl
filter-filter {A} keep (x ∷ xs) = by_test (keep x)
    (λ holds. ap (filter keep) (kept holds) ∙ cond-true (keep x) (x ∷ filter keep rest) (filter keep rest) holds ∙ ap (λ l. x ∷ l) (filter-filter keep xs) ∙ sym (kept holds))
    (λ fails. ap (filter keep) (dropped fails) ∙ filter-filter keep xs ∙ sym (dropped fails))
  where
    rest : List A
    rest = filter keep xs

    kept : keep x ≡ true → filter keep (x ∷ xs) ≡ x ∷ rest
    kept holds = cond-true (keep x) (x ∷ rest) rest holds

    dropped : keep x ≡ false → filter keep (x ∷ xs) ≡ rest
    dropped fails = cond-false (keep x) (x ∷ rest) rest fails

-- elements that nothing changes
pub map_same : {A : Type 0} (change : A → A) → ((x : A) → change x ≡ x) → (xs : List A) → map change xs ≡ xs
map_same change same [] = refl
map_same change same (x ∷ xs) = ap (λ y. y ∷ map change xs) (same x) ∙ ap (λ l. x ∷ l) (map_same change same xs)

-- where none passes the test, nothing changes
pub changed_where_none : (test : Entry → Bool) (change : Entry → Entry) (es : List Entry) → list_any test es ≡ false → changed_where test change es ≡ es
changed_where_none test change [] none = refl
changed_where_none test change (e ∷ es) none = by_test (test e)
    (λ holds. absurd (both_ways (test e || list_any test es) none (ap (λ b. b || list_any test es) holds)))
    (λ fails. ap (λ x. x ∷ changed_where test change es) (cond-false (test e) (change e) e fails)
    ∙ ap (λ l. e ∷ l) (changed_where_none test change es (sym (ap (λ b. b || list_any test es) fails) ∙ none)))

-- All holds of changed elements
pub All-map_each : {A : Type 0} (P : A → Type 0) (change : A → A) → ((x : A) → P (change x)) → (xs : List A) → All P (map change xs)
All-map_each P change each [] = All-nil P
All-map_each P change each (x ∷ xs) = All-cons P (change x) (map change xs) (each x) (All-map_each P change each xs)

-- lists made of each element, changed in step
pub flat_map-changed : {A B : Type 0} (f : A → List B) (change : A → A) (g : B → B) → ((x : A) → f (change x) ≡ map g (f x)) → (xs : List A) → flat_map f (map change xs) ≡ map g (flat_map f xs)
flat_map-changed f change g same [] = refl
flat_map-changed f change g same (x ∷ xs) = ap (λ l. l ++ flat_map f (map change xs)) (same x) ∙ ap (λ l. map g (f x) ++ l) (flat_map-changed f change g same xs) ∙ sym (map-append g (f x) (flat_map f xs))

-- elements none of which passes the test once it is changed
pub none_after : {A : Type 0} (test : A → Bool) (change : A → A) → ((x : A) → test (change x) ≡ false) → (xs : List A) → list_any test (map change xs) ≡ false
none_after test change none [] = refl
none_after test change none (x ∷ xs) = ap (λ b. b || list_any test (map change xs)) (none x) ∙ none_after test change none xs

-- a change that is done at once
pub map_twice : {A : Type 0} (change : A → A) → ((x : A) → change (change x) ≡ change x) → (xs : List A) → map change (map change xs) ≡ map change xs
map_twice change same [] = refl
map_twice change same (x ∷ xs) = ap (λ y. y ∷ map change (map change xs)) (same x) ∙ ap (λ l. change x ∷ l) (map_twice change same xs)

-- what holds of all that pass a test, where nothing passes
pub All-of_none : {A : Type 0} (test : A → Bool) (Q : A → Type 0) (xs : List A) → list_any test xs ≡ false → All (λ x. test x ≡ true → Q x) xs
All-of_none test Q [] none = All-nil (λ x. test x ≡ true → Q x)
All-of_none test Q (x ∷ xs) none =
    let parts = or_parts (test x) (list_any test xs) none in
    All-cons (λ y. test y ≡ true → Q y) x xs (λ h. absurd (both_ways (test x) parts.0 h)) (All-of_none test Q xs parts.1)
