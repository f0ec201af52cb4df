-- Elements of lists by their positions.
use Rattle.std.proofs.Common.{◌≡◌, ℕ, zero, suc, ◌+◌, ◌<◌, List, [], ◌∷◌, ◌++◌, length, drop, get_or, map, refl, sym, ap, ◌∙◌, Some, None, arith}
use Rattle.std.specs.Prelude.{slice_get}
use Rattle.std.specs.List.{flat_map}
use Rattle.std.proofs.lemmas.List.{ext_get_or, length-map}
use Rattle.std.proofs.lemmas.Option.{get_or_from_slice_get}
use Rattle.elf_format.specs.Image.{counted}
use Rattle.elf_format.proofs.ForCallers.Lengths.{length-counted, slice_get-counted}

pub slice_get-drop : {X : Type 0} (xs : List X) (n d : ℕ) → slice_get (drop n xs) d ≡ slice_get xs (n + d)
slice_get-drop xs zero d = let same : d ≡ 0 + d = omega arith in ap (slice_get xs) same
slice_get-drop [] (suc n) d = refl
slice_get-drop (x ∷ xs) (suc n) d =
    let same : suc (n + d) ≡ suc n + d = omega arith in
    slice_get-drop xs n d ∙ ap (λ (k : ℕ). slice_get (x ∷ xs) k) same

-- an element of the first of two lists, and of the second
pub slice_get-left : {X : Type 0} (xs ys : List X) (k : ℕ) (x : X) → slice_get xs k ≡ Some x → slice_get (xs ++ ys) k ≡ Some x
slice_get-left [] ys k x at = absurd (none x at)
  where
    none : {Y : Type 0} (y : Y) → None ≡ Some y → ⊥
    none y h = cc
slice_get-left (w ∷ xs) ys zero x at = at
slice_get-left (w ∷ xs) ys (suc k) x at = slice_get-left xs ys k x at

pub slice_get-right : {X : Type 0} (xs ys : List X) (n k : ℕ) → length xs ≡ n → slice_get (xs ++ ys) (n + k) ≡ slice_get ys k
slice_get-right [] ys n k long = let same : n + k ≡ k = omega (arith, long) in ap (slice_get ys) same
slice_get-right (x ∷ xs) ys zero k long = absurd (omega (arith, long))
slice_get-right (x ∷ xs) ys (suc n) k long =
    let same : suc n + k ≡ suc (n + k) = omega arith in
    ap (slice_get (x ∷ (xs ++ ys))) same ∙ slice_get-right xs ys n k (omega (arith, long))

-- what there is at each of the numbers below n
pub slice_get-map-counted : {X : Type 0} (f : ℕ → X) (n k : ℕ) → k < n → slice_get (map f (counted n)) k ≡ Some (f k)
slice_get-map-counted f n k below = mapped (counted n) k k (slice_get-counted n k below)
  where
    mapped : (ks : List ℕ) (i j : ℕ) → slice_get ks i ≡ Some j → slice_get (map f ks) i ≡ Some (f j)
    mapped [] i j at = absurd (grind arith)
    mapped (x ∷ ks) zero j at = let same : x ≡ j = grind arith in ap (λ (v : ℕ). Some (f v)) same
    mapped (x ∷ ks) (suc i) j at = mapped ks i j at

pub length-map-counted : {X : Type 0} (f : ℕ → X) (n : ℕ) → length (map f (counted n)) ≡ n
length-map-counted f n = length-map (counted n) f ∙ length-counted n

-- a list that has at each place what a function gives there
pub mapped_by_all : {X : Type 0} (f : ℕ → X) (xs : List X) (n : ℕ) (d : X) → length xs ≡ n → ((k : ℕ) → k < n → get_or xs k d ≡ f k) → xs ≡ map f (counted n)
mapped_by_all f xs n d long each =
    ext_get_or d xs (map f (counted n)) (long ∙ sym (length-map-counted f n))
    (λ i below. each i (omega (arith, long, below)) ∙ sym (get_or_from_slice_get (map f (counted n)) i (f i) d (slice_get-map-counted f n i (omega (arith, long, below)))))

pub flat_map-map : {X Y Z : Type 0} (f : Y → List Z) (g : X → Y) (xs : List X) → flat_map f (map g xs) ≡ flat_map (λ x. f (g x)) xs
flat_map-map f g [] = refl
flat_map-map f g (x ∷ xs) = ap (λ l. f (g x) ++ l) (flat_map-map f g xs)

pub flat_map-same : {X Z : Type 0} (f g : X → List Z) → ((x : X) → f x ≡ g x) → (xs : List X) → flat_map f xs ≡ flat_map g xs
flat_map-same f g same [] = refl
flat_map-same f g same (x ∷ xs) = ap (λ l. l ++ flat_map f xs) (same x) ∙ ap (λ l. g x ++ l) (flat_map-same f g same xs)
