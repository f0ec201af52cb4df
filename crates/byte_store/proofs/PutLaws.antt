-- Bytes with a part over them.
use Rattle.std.proofs.Common.{◌≡◌, ◌≤◌, ◌<◌, ◌+◌, ◌-◌, ℕ, ◌⊎◌, inl, inr, List, [], ◌++◌, length, take, drop, get_or, sym, ap, ◌∙◌, subst, arith, add-zero}
use Rattle.std.proofs.lemmas.List.{append-nil, append_assoc, drop-drop, drop-take, drop_all, drop_at, get_or-append-add, get_or-drop, get_or-take, get_or_append_left, length-append, length-drop, length-take, length-take-le, take-append-drop, take-append-le, take-take, take_all, take_at}
use Rattle.byte_store.specs.Known.{put_at}

pub length-put_at : (at : ℕ) (part bytes : List ℕ) → at + length part ≤ length bytes → length (put_at at part bytes) ≡ length bytes
length-put_at at part bytes room = simp (length-append, length-take, length-drop) (omega arith)

-- nothing over them
pub put_at-nil : (at : ℕ) (bytes : List ℕ) → put_at at [] bytes ≡ bytes
put_at-nil at bytes = ap (λ (k : ℕ). take at bytes ++ drop k bytes) (add-zero at) ∙ take-append-drop at bytes

-- a part behind them
pub put_at-behind : (at : ℕ) (bytes part : List ℕ) → length bytes ≡ at → put_at at part bytes ≡ bytes ++ part
put_at-behind at bytes part is =
    ap (λ (xs : List ℕ). xs ++ (part ++ drop (at + length part) bytes)) (take_all at bytes (omega arith))
    ∙ ap (λ (xs : List ℕ). bytes ++ (part ++ xs)) (drop_all (at + length part) bytes (omega arith))
    ∙ ap (λ (xs : List ℕ). bytes ++ xs) (append-nil part)

-- the first bytes of a list in two steps
pub take_sum : (m n : ℕ) (xs : List ℕ) → take m xs ++ take n (drop m xs) ≡ take (m + n) xs
take_sum m n xs =
    ap (λ (ys : List ℕ). ys ++ take n (drop m xs)) (sym (take-take m (m + n) xs (omega arith)))
    ∙ ap (λ (ys : List ℕ). take m (take (m + n) xs) ++ ys) (sym (drop-take m n xs))
    ∙ take-append-drop m (take (m + n) xs)

-- two parts, one behind the other
put_at-next : (at : ℕ) (first second bytes : List ℕ) → at ≤ length bytes → put_at (at + length first) second (put_at at first bytes) ≡ put_at at (first ++ second) bytes
put_at-next at first second bytes inside =
    let end : ℕ = at + length first in
    let front : List ℕ = take at bytes ++ first in
    let rest : List ℕ = drop end bytes in
    let long : length front ≡ end = omega (arith, length-append (take at bytes) first, length-take-le at bytes inside) in
    let whole : put_at at first bytes ≡ front ++ rest = sym (append_assoc (take at bytes) first rest) in
    let len : length (first ++ second) ≡ length first + length second = length-append first second in
    let sum : end + length second ≡ at + length (first ++ second) = omega arith in
    ap (λ (xs : List ℕ). put_at end second xs) whole
    ∙ ap (λ (xs : List ℕ). xs ++ (second ++ drop (end + length second) (front ++ rest))) (take_at front rest end long)
    ∙ ap (λ (xs : List ℕ). front ++ (second ++ xs)) (sym (drop-drop (length second) end (front ++ rest)))
    ∙ ap (λ (xs : List ℕ). front ++ (second ++ drop (length second) xs)) (drop_at front rest end long)
    ∙ ap (λ (xs : List ℕ). front ++ (second ++ xs)) (drop-drop (length second) end bytes)
    ∙ ap (λ (k : ℕ). front ++ (second ++ drop k bytes)) sum
    ∙ append_assoc (take at bytes) first (second ++ drop (at + length (first ++ second)) bytes)
    ∙ ap (λ (xs : List ℕ). take at bytes ++ xs) (sym (append_assoc first second (drop (at + length (first ++ second)) bytes)))

-- the first bytes of a part, and the next ones
pub put_at-more : (at done n : ℕ) (part bytes : List ℕ) → at ≤ length bytes → done ≤ length part → put_at (at + done) (take n (drop done part)) (put_at at (take done part) bytes) ≡ put_at at (take (done + n) part) bytes
put_at-more at done n part bytes inside within =
    let next : List ℕ = take n (drop done part) in
    ap (λ (k : ℕ). put_at (at + k) next (put_at at (take done part) bytes)) (sym (length-take-le done part within))
    ∙ put_at-next at (take done part) next bytes inside
    ∙ ap (λ (xs : List ℕ). put_at at xs bytes) (take_sum done n part)

-- what stands before the place, and behind it
pub take-put_at : (n at : ℕ) (part bytes : List ℕ) → n ≤ at → at ≤ length bytes → take n (put_at at part bytes) ≡ take n bytes
take-put_at n at part bytes below inside =
    let long : length (take at bytes) ≡ at = length-take-le at bytes inside in
    take-append-le n (take at bytes) (part ++ drop (at + length part) bytes) (omega arith) ∙ take-take n at bytes below

drop-put_at : (at : ℕ) (part bytes : List ℕ) → at ≤ length bytes → drop (at + length part) (put_at at part bytes) ≡ drop (at + length part) bytes
drop-put_at at part bytes inside =
    let end : ℕ = at + length part in
    let front : List ℕ = take at bytes ++ part in
    let long : length front ≡ end = omega (arith, length-append (take at bytes) part, length-take-le at bytes inside) in
    ap (drop end) (sym (append_assoc (take at bytes) part (drop end bytes)))
    ∙ drop_at front (drop end bytes) end long

pub get_or-put_at : (p d at : ℕ) (part bytes : List ℕ) → (p < at) ⊎ (at + length part ≤ p) → at ≤ length bytes → get_or (put_at at part bytes) p d ≡ get_or bytes p d
get_or-put_at p d at part bytes (inl below) inside =
    sym (get_or-take at (put_at at part bytes) p d below)
    ∙ ap (λ (xs : List ℕ). get_or xs p d) (take-put_at at at part bytes (omega arith) inside)
    ∙ get_or-take at bytes p d below
get_or-put_at p d at part bytes (inr above) inside =
    let end : ℕ = at + length part in
    let split : end + (p - end) ≡ p = omega arith in
    let P : ℕ → Type 0 = λ k. get_or (put_at at part bytes) k d ≡ get_or bytes k d in
    subst P split
    (sym (get_or-drop end (put_at at part bytes) (p - end) d)
    ∙ ap (λ (xs : List ℕ). get_or xs (p - end) d) (drop-put_at at part bytes inside)
    ∙ get_or-drop end bytes (p - end) d)

-- what stands in it
pub get_or-put_at_inside : (k d at : ℕ) (part bytes : List ℕ) → k < length part → at ≤ length bytes → get_or (put_at at part bytes) (at + k) d ≡ get_or part k d
get_or-put_at_inside k d at part bytes below inside =
    let long : length (take at bytes) ≡ at = length-take-le at bytes inside in
    let rest : List ℕ = drop (at + length part) bytes in
    ap (λ (n : ℕ). get_or (put_at at part bytes) (n + k) d) (sym long)
    ∙ get_or-append-add (take at bytes) (part ++ rest) k d
    ∙ get_or_append_left part rest d k below

-- a part reaches its end
pub reaches : (at : ℕ) (part bytes : List ℕ) → at ≤ length bytes → at + length part ≤ length (put_at at part bytes)
reaches at part bytes inside = simp (length-append, length-take, length-drop) (omega arith)
