-- The first element that passes a test.
use Rattle.std.proofs.Common.{◌≡◌, ℕ, suc, zero, ◌<◌, Bool, true, false, cond, List, [], ◌∷◌, length, take, get_or, map, Some, refl, arith}
use Rattle.std.specs.List.{filter}
use Rattle.macho_image.specs.Commands.{first_of}

-- nothing that was kept is nothing kept
none_kept : {X : Type 0} (passes : Bool) (x : X) (xs : List X) → cond passes (x ∷ xs) xs ≡ [] → (passes ≡ false) × (xs ≡ [])
none_kept true x xs none = cc
none_kept false x xs none = (refl, none)

-- the element that passes behind those that don't
pub first_of-filter : {X : Type 0} {Y : Type 0} (f : X → Y) (p : X → Bool) (xs : List X) (i : ℕ) (d : X) → i < length xs → filter p (take i xs) ≡ [] → p (get_or xs i d) ≡ true → first_of (map f (filter p xs)) ≡ Some (f (get_or xs i d))
first_of-filter f p [] i d within none found = absurd (omega arith)
first_of-filter f p (x ∷ xs) zero d within none found = rw found refl
first_of-filter f p (x ∷ xs) (suc i) d within none found =
    let parts = none_kept (p x) x (filter p (take i xs)) none in
    let fails = parts.0 in
    rw fails (first_of-filter f p xs i d (omega arith) parts.1 found)
