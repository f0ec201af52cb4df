-- The hashes of symbols in an order, and of symbols as they stand.
use Rattle.std.proofs.Common.{◌≡◌, ℕ, zero, suc, ◌+◌, ◌<◌, List, [], ◌∷◌, ◌++◌, length, drop, take, get_or, map, refl, sym, ap, ◌∙◌, Option, Some, None, arith}
use Rattle.std.specs.Prelude.{option_map, slice_get}
use Rattle.std.specs.List.{cons_option, filter_map}
use Rattle.std.proofs.lemmas.List.{append_assoc, take_more}
use Rattle.std.proofs.lemmas.List.Elements.{All-head, All-tail, filter_map-append}
use Rattle.std.proofs.lemmas.Option.{get_or_from_slice_get, none-some, same_Some, slice_get-map, slice_get_within}
use Rattle.elf_format.specs.Views.{NamedSymbol}
use Rattle.elf_hashes.specs.Buckets.{hashes_of}
use Rattle.elf_hashes.specs.Found.{ArePlaces, found_hashes, found_name, hashed_names, in_order}
use Rattle.elf_hashes.proofs.NameLaws.{length-hashes}

-- ## Symbols in an order

pub inside-some : {X : Type 0} (xs : List X) (i : ℕ) → i < length xs → (x : X) × (slice_get xs i ≡ Some x)
inside-some [] i inside = absurd (omega (arith, inside))
inside-some (x ∷ xs) zero inside = (x, refl)
inside-some (x ∷ xs) (suc i) inside = inside-some xs i (omega (arith, inside))

-- one symbol more
pub in_order-more : (ys : List NamedSymbol) (order : List ℕ) (i : ℕ) (y : NamedSymbol) → i < length order → slice_get ys (get_or order i 0) ≡ Some y
    → in_order ys (take (i + 1) order) ≡ in_order ys (take i order) ++ y ∷ []
in_order-more ys order i y inside at =
    ap (in_order ys) (take_more order i 0 inside)
    ∙ filter_map-append (λ k. slice_get ys k) (take i order) (get_or order i 0 ∷ [])
    ∙ ap (λ (o : Option NamedSymbol). in_order ys (take i order) ++ cons_option o []) at

-- ## Hashes in an order

-- one element more of those at some positions
pub picked-more : {X : Type 0} (xs : List X) (order : List ℕ) (i : ℕ) (x : X) (items was now : List X) → i < length order
    → slice_get xs (get_or order i 0) ≡ Some x
    → was ≡ items ++ filter_map (λ k. slice_get xs k) (take i order)
    → now ≡ was ++ x ∷ []
    → now ≡ items ++ filter_map (λ k. slice_get xs k) (take (i + 1) order)
picked-more {X} xs order i x items was now inside at before step =
    let pick : List ℕ → List X = filter_map (λ k. slice_get xs k) in
    let more : pick (take (i + 1) order) ≡ pick (take i order) ++ x ∷ [] =
    ap pick (take_more order i 0 inside)
    ∙ filter_map-append (λ k. slice_get xs k) (take i order) (get_or order i 0 ∷ [])
    ∙ ap (λ (o : Option X). pick (take i order) ++ cons_option o []) at in
    step ∙ ap (λ l. l ++ x ∷ []) before ∙ append_assoc items (pick (take i order)) (x ∷ [])
    ∙ ap (λ l. items ++ l) (sym more)

-- what was made of each, at some positions, is what is made of those at these positions
pub made-then-picked : {X Y : Type 0} (f : X → Y) (xs : List X) (order : List ℕ)
    → filter_map (λ k. slice_get (map f xs) k) order ≡ map f (filter_map (λ k. slice_get xs k) order)
made-then-picked f xs [] = refl
made-then-picked {X} {Y} f xs (k ∷ order) =
    ap (λ (o : Option Y). cons_option o (filter_map (λ j. slice_get (map f xs) j) order)) (slice_get-map f xs k)
    ∙ ap (λ (l : List Y). cons_option (option_map f (slice_get xs k)) l) (made-then-picked f xs order)
    ∙ before (slice_get xs k)
  where
    before : (o : Option X) → cons_option (option_map f o) (map f (filter_map (λ j. slice_get xs j) order)) ≡ map f (cons_option o (filter_map (λ j. slice_get xs j) order))
    before None = refl
    before (Some x) = refl

map-twice : {X Y Z : Type 0} (f : Y → Z) (g : X → Y) (xs : List X) → map f (map g xs) ≡ map (λ x. f (g x)) xs
map-twice f g [] = refl
map-twice f g (x ∷ xs) = ap (λ l. f (g x) ∷ l) (map-twice f g xs)

-- the first has none
pub hashes-whole : (hash : List ℕ → ℕ) (ys : List NamedSymbol) (order : List ℕ) → 0 < length order → ArePlaces ys order
    → hashes_of hash (hashed_names (in_order ys order)) ≡ None ∷ map (λ y. option_map hash (found_name y)) (in_order ys (drop 1 order))
unfolding hashed_names
hashes-whole hash ys [] some places = absurd (omega (arith, some))
hashes-whole hash ys (k ∷ order) some places =
    let (y, at) = inside-some ys k (All-head (λ i. i < length ys) k order places) in
    ap (λ (o : Option NamedSymbol). hashes_of hash (hashed_names (cons_option o (in_order ys order)))) at
    ∙ ap (λ l. None ∷ l) (map-twice (option_map hash) found_name (in_order ys order))

pub hashes-none : (hash : List ℕ → ℕ) (ys : List NamedSymbol) (order : List ℕ) → length order ≡ 0 → hashes_of hash (hashed_names (in_order ys order)) ≡ []
unfolding hashed_names
hashes-none hash ys [] none = refl
hashes-none hash ys (k ∷ order) none = absurd (omega (arith, none))

-- as many symbols in order as the order has positions
pub length-in_order : (ys : List NamedSymbol) (order : List ℕ) → ArePlaces ys order → length (in_order ys order) ≡ length order
length-in_order ys [] places = refl
length-in_order ys (k ∷ order) places =
    let (y, at) = inside-some ys k (All-head (λ i. i < length ys) k order places) in
    ap (λ (o : Option NamedSymbol). length (cons_option o (in_order ys order))) at
    ∙ ap suc (length-in_order ys order (All-tail (λ i. i < length ys) k order places))

-- ## Hashes of symbols as they stand

-- the first has none
pub own-behind : (hash : List ℕ → ℕ) (ys : List NamedSymbol) (found : List (Option ℕ)) → 0 < length ys → found ≡ found_hashes hash ys
    → None ∷ drop 1 found ≡ hashes_of hash (hashed_names ys)
unfolding hashed_names
own-behind hash [] found some is = absurd (omega (arith, some))
own-behind hash (y ∷ ys) found some is = ap (λ l. None ∷ drop 1 l) is ∙ ap (λ l. None ∷ l) (sym (map-twice (option_map hash) found_name ys))

-- a part of what stands there is a part of something
pub with_part : {X Y : Type 0} (f : X → Y) (o : Option X) (t : Y) → option_map f o ≡ Some t → (x : X) × (o ≡ Some x) × (f x ≡ t)
with_part f None t is = absurd (none-some t is)
with_part f (Some x) t is = (x, refl, same_Some (f x) t is)

-- one element more of a list
pub taken-more : {X : Type 0} (xs was now : List X) (i : ℕ) (x : X) → slice_get xs i ≡ Some x → was ≡ take i xs → now ≡ was ++ x ∷ [] → now ≡ take (i + 1) xs
taken-more xs was now i x at before step =
    step ∙ ap (λ l. l ++ x ∷ []) before
    ∙ sym (take_more xs i x (slice_get_within xs i x at) ∙ ap (λ v. take i xs ++ v ∷ []) (get_or_from_slice_get xs i x x at))

-- as many hashes as the order has positions
pub length-made : (hash : List ℕ → ℕ) (ys : List NamedSymbol) (order : List ℕ) (hashes : List (Option ℕ)) → ArePlaces ys order
    → hashes ≡ hashes_of hash (hashed_names (in_order ys order)) → length hashes ≡ length order
length-made hash ys order hashes places is = ap length is ∙ length-hashes hash (in_order ys order) ∙ length-in_order ys order places
