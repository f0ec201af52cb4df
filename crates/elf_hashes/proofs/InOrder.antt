-- Symbols in an order: as they stand, and each of them changed.
use Rattle.std.proofs.Common.{◌≡◌, ℕ, zero, suc, ◌+◌, ◌≤◌, List, [], ◌∷◌, ◌++◌, length, take, get_or, map, refl, sym, ap, ◌∙◌, Option, Some, None, arith}
use Rattle.std.specs.Prelude.{option_map, slice_get}
use Rattle.std.specs.List.{cons_option}
use Rattle.std.specs.List.Sorted.{IsPermutation}
use Rattle.std.proofs.lemmas.List.{take_all, take_more}
use Rattle.std.proofs.lemmas.List.Elements.{filter_map-append}
use Rattle.std.proofs.lemmas.List.Sorted.{IsPermutation-refl}
use Rattle.std.proofs.lemmas.Option.{slice_get-get_or, slice_get-map}
use Rattle.elf_format.specs.Image.{counted}
use Rattle.elf_format.specs.Views.{NamedSymbol}
use Rattle.elf_hashes.specs.Found.{in_order}

-- the first n symbols, told by their positions
first_in_order : (ys : List NamedSymbol) (d : NamedSymbol) (n : ℕ) → n ≤ length ys → in_order ys (counted n) ≡ take n ys
unfolding counted
first_in_order ys d zero within = refl
first_in_order ys d (suc n) within =
    let y : NamedSymbol = get_or ys n d in
    let at : slice_get ys n ≡ Some y = slice_get-get_or ys n d (omega (arith, within)) in
    let next : n + 1 ≡ suc n = omega arith in
    filter_map-append (λ i. slice_get ys i) (counted n) (n ∷ [])
    ∙ ap (λ l. l ++ in_order ys (n ∷ [])) (first_in_order ys d n (omega (arith, within)))
    ∙ ap (λ (o : Option NamedSymbol). take n ys ++ cons_option o []) at
    ∙ sym (take_more ys n d (omega (arith, within)))
    ∙ ap (λ (k : ℕ). take k ys) next

-- in the order in which they stand symbols are as they stand
pub in_order-counted : (ys : List NamedSymbol) → in_order ys (counted (length ys)) ≡ ys
unfolding counted
in_order-counted [] = refl
in_order-counted (y ∷ ys) = first_in_order (y ∷ ys) y (length (y ∷ ys)) (omega arith) ∙ take_all (length (y ∷ ys)) (y ∷ ys) (omega arith)

-- that order has each symbol once
pub counted-once : (ys : List NamedSymbol) → IsPermutation (counted (length ys)) (counted (length ys))
counted-once ys = IsPermutation-refl (counted (length ys))

-- each symbol changed, and then put in an order
pub map-in_order : (f : NamedSymbol → NamedSymbol) (ys : List NamedSymbol) (order : List ℕ) → map f (in_order ys order) ≡ in_order (map f ys) order
map-in_order f ys [] = refl
map-in_order f ys (i ∷ order) =
    by_symbol (slice_get ys i) (map-in_order f ys order) ∙ ap (λ (o : Option NamedSymbol). cons_option o (in_order (map f ys) order)) (sym (slice_get-map f ys i))
  where
    by_symbol : (o : Option NamedSymbol) → map f (in_order ys order) ≡ in_order (map f ys) order
        → map f (cons_option o (in_order ys order)) ≡ cons_option (option_map f o) (in_order (map f ys) order)
    by_symbol None behind = behind
    by_symbol (Some y) behind = ap (λ l. f y ∷ l) behind
