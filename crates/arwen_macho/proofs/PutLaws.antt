-- Bytes with others put in their place.
use Rattle.std.proofs.Common.{◌≡◌, ◌≤◌, ◌<◌, ◌+◌, ◌-◌, ℕ, ◌⊎◌, inl, inr, List, ◌++◌, length, take, drop, get_or, refl, sym, ap, ◌∙◌, subst, arith, rules}
use Rattle.std.proofs.lemmas.List.{append_assoc, drop-append-le, drop-drop, drop-take, drop_at, get_or-drop, get_or-take, length-append, length-drop, length-take, length-take-le, places, same_lists, take-append-drop, take-append-le, take-take, take_at}
use Rattle.arwen_macho.specs.FatState.{put_at}

pub length-put_at : (at : ℕ) (part bytes : List ℕ) → at + length part ≤ length bytes → length (put_at at part bytes) ≡ length bytes
length-put_at at part bytes room = simp (length-append, length-take, length-drop) (omega arith)

-- what stands before the place, and behind it
pub take-put_at : (n at : ℕ) (part bytes : List ℕ) → n ≤ at → at ≤ length bytes → take n (put_at at part bytes) ≡ take n bytes
take-put_at n at part bytes below inside =
    let long : length (take at bytes) ≡ at = length-take-le at bytes inside in
    take-append-le n (take at bytes) (part ++ drop (at + length part) bytes) (omega arith) ∙ take-take n at bytes below

pub drop-put_at : (n at : ℕ) (part bytes : List ℕ) → at + length part ≤ n → at ≤ length bytes → drop n (put_at at part bytes) ≡ drop n bytes
drop-put_at n at part bytes above inside =
    let end : ℕ = at + length part in
    let front : List ℕ = take at bytes ++ part in
    let long : length front ≡ end = omega (arith, length-append (take at bytes) part, length-take-le at bytes inside) in
    let split : n ≡ end + (n - end) = omega arith in
    let whole : put_at at part bytes ≡ front ++ drop end bytes = sym (append_assoc (take at bytes) part (drop end bytes)) in
    ap (drop n) whole
    ∙ ap (λ (k : ℕ). drop k (front ++ drop end bytes)) split
    ∙ sym (drop-drop (n - end) end (front ++ drop end bytes))
    ∙ ap (drop (n - end)) (drop_at front (drop end bytes) end long)
    ∙ drop-drop (n - end) end bytes
    ∙ ap (λ (k : ℕ). drop k bytes) (sym split)

-- what stands in it
pub slice-put_at : (at : ℕ) (part bytes : List ℕ) → at ≤ length bytes → take (length part) (drop at (put_at at part bytes)) ≡ part
slice-put_at at part bytes inside =
    ap (take (length part)) (drop_at (take at bytes) (part ++ drop (at + length part) bytes) at (length-take-le at bytes inside))
    ∙ take_at part (drop (at + length part) bytes) (length part) refl

-- what stands in a place apart from it
pub slice-put_at_apart : (from size at : ℕ) (part bytes : List ℕ) → (from + size ≤ at) ⊎ (at + length part ≤ from) → at ≤ length bytes → take size (drop from (put_at at part bytes)) ≡ take size (drop from bytes)
slice-put_at_apart from size at part bytes (inl below) inside =
    sym (drop-take from size (put_at at part bytes))
    ∙ ap (drop from) (take-put_at (from + size) at part bytes below inside)
    ∙ drop-take from size bytes
slice-put_at_apart from size at part bytes (inr above) inside = ap (take size) (drop-put_at from at part bytes above inside)

pub get_or-put_at : (p d at : ℕ) (part bytes : List ℕ) → (p < at) ⊎ (at + length part ≤ p) → at ≤ length bytes → get_or (put_at at part bytes) p d ≡ get_or bytes p d
get_or-put_at p d at part bytes (inl below) inside =
    sym (get_or-take at (put_at at part bytes) p d below)
    ∙ ap (λ (xs : List ℕ). get_or xs p d) (take-put_at at at part bytes (omega arith) inside)
    ∙ get_or-take at bytes p d below
get_or-put_at p d at part bytes (inr above) inside =
    let end : ℕ = at + length part in
    let split : end + (p - end) ≡ p = omega arith in
    let P : ℕ → Type 0 = λ k. get_or (put_at at part bytes) k d ≡ get_or bytes k d in
    subst P split
    (sym (get_or-drop end (put_at at part bytes) (p - end) d)
    ∙ ap (λ (xs : List ℕ). get_or xs (p - end) d) (drop-put_at end at part bytes (omega arith) inside)
    ∙ get_or-drop end bytes (p - end) d)

-- a part put over another of its length
pub put_at-put_at : (at : ℕ) (new old bytes : List ℕ) → length new ≡ length old → at ≤ length bytes → put_at at new (put_at at old bytes) ≡ put_at at new bytes
put_at-put_at at new old bytes same inside =
    ap (λ (xs : List ℕ). xs ++ (new ++ drop (at + length new) (put_at at old bytes))) (take-put_at at at old bytes (omega arith) inside)
    ∙ ap (λ (xs : List ℕ). take at bytes ++ (new ++ xs)) (drop-put_at (at + length new) at old bytes (omega arith) inside)

-- two parts that are apart, in either order
put_at_below : (a b : ℕ) (x y bytes : List ℕ) → a + length x ≤ b → b + length y ≤ length bytes → put_at a x (put_at b y bytes) ≡ put_at b y (put_at a x bytes)
put_at_below a b x y bytes below room =
    same_lists (put_at a x (put_at b y bytes)) (put_at b y (put_at a x bytes)) (search (rules, places)) (λ k d h. grind (arith, places))

pub put_at_comm : (a b : ℕ) (x y bytes : List ℕ) → (a + length x ≤ b) ⊎ (b + length y ≤ a) → a + length x ≤ length bytes → b + length y ≤ length bytes → put_at a x (put_at b y bytes) ≡ put_at b y (put_at a x bytes)
put_at_comm a b x y bytes (inl below) room_a room_b = put_at_below a b x y bytes below room_b
put_at_comm a b x y bytes (inr above) room_a room_b = sym (put_at_below b a y x bytes above room_a)

-- the part's front alone, where what stands there goes on like the part
pub put_front : (at high : ℕ) (part bytes : List ℕ) → at + length part ≤ length bytes → high ≤ length part → drop high part ≡ drop high (take (length part) (drop at bytes)) → put_at at (take high part) bytes ≡ put_at at part bytes
put_front at high part bytes room short goes_on =
    let n : ℕ = length part in
    let here : List ℕ = take n (drop at bytes) in
    let long : length here ≡ n = length-take-le n (drop at bytes) (omega (arith, length-drop at bytes)) in
    let front : length (take high part) ≡ high = length-take-le high part short in
    let rest : drop (at + high) bytes ≡ drop high part ++ drop (at + n) bytes =
    sym (drop-drop high at bytes)
    ∙ ap (drop high) (sym (take-append-drop n (drop at bytes)))
    ∙ drop-append-le high here (drop n (drop at bytes)) (omega arith)
    ∙ ap (λ (xs : List ℕ). xs ++ drop n (drop at bytes)) (sym goes_on)
    ∙ ap (λ (xs : List ℕ). drop high part ++ xs) (drop-drop n at bytes) in
    ap (λ (k : ℕ). take at bytes ++ (take high part ++ drop (at + k) bytes)) front
    ∙ ap (λ (xs : List ℕ). take at bytes ++ (take high part ++ xs)) rest
    ∙ ap (λ (xs : List ℕ). take at bytes ++ xs) (sym (append_assoc (take high part) (drop high part) (drop (at + n) bytes)))
    ∙ ap (λ (xs : List ℕ). take at bytes ++ (xs ++ drop (at + n) bytes)) (take-append-drop high part)
