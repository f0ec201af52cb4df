-- Patches that stand in bytes.
use Rattle.std.proofs.Common.{◌≡◌, ◌≤◌, ◌<◌, ◌+◌, ◌-◌, ℕ, inl, inr, List, [], ◌∷◌, ◌++◌, length, take, drop, map, get_or, refl, sym, ap, ◌∙◌, subst, arith, All, Bool, true, false, ◌||◌, ltb, leb, slice_range}
use Rattle.std.proofs.lemmas.List.{drop-append-le, drop-drop, drop-take, drop_at, ext_get_or, get_or-drop, get_or-map, get_or-take, length-drop, length-map, length-take, length-take-le, take-append-le, take-take, take_at}
use Rattle.std.proofs.lemmas.List.Elements.{All-drop, All-head, All-tail, All-take}
use Rattle.std.proofs.lemmas.List.Folds.{list_any_at, list_any_none}
use Rattle.std.proofs.lemmas.Bool.{and_cases, and_left, and_parts, and_right, both_ways, cases_Bool, le-ltb, leb-false, leb-true, lt-leb, ltb-false, ltb-true}
use Rattle.byte_store.specs.Known.{put_at}
use Rattle.byte_store.specs.Laid.{LiesIn, Patch, laid}
use Rattle.byte_store.specs.Laws.{IsOutside}
use Rattle.byte_store.specs.Composed.{Stands, is_patched, is_patched_at}
use Rattle.byte_store.specs.Shown.{patch_at, shifted}
use Rattle.byte_store.proofs.LaidLaws.{tail_lies}
use Rattle.byte_store.proofs.PutLaws.{get_or-put_at, get_or-put_at_inside, length-put_at}

-- lists of which something holds at each element
pub all_front : {X : Type 0} (P : X → Type 0) (xs ys : List X) → All P (xs ++ ys) → All P xs
all_front {X} P xs ys all = let Q : List X → Type 0 = λ zs. All P zs in subst Q (take_at xs ys (length xs) refl) (All-take P (length xs) (xs ++ ys) all)

pub all_back : {X : Type 0} (P : X → Type 0) (xs ys : List X) → All P (xs ++ ys) → All P ys
all_back {X} P xs ys all = let Q : List X → Type 0 = λ zs. All P zs in subst Q (drop_at xs ys (length xs) refl) (All-drop P (length xs) (xs ++ ys) all)

pub all_unmapped : {X Y : Type 0} (P : Y → Type 0) (f : X → Y) (xs : List X) → All P (map f xs) → All (λ x. P (f x)) xs
all_unmapped P f xs all i d below = subst P (get_or-map f xs i d (f d) below) (all i (f d) (omega (arith, length-map xs f)))

-- what stands in bytes, position by position
pub stands_at : (target : List ℕ) (patch : Patch) (j : ℕ) → Stands target patch → j < length patch.bytes → get_or target (patch.offset + j) 0 ≡ get_or patch.bytes j 0
stands_at target patch j stands below =
    let at : ℕ = patch.offset in
    let len : ℕ = at + length patch.bytes - at in
    sym (get_or-take len (drop at target) j 0 (omega arith) ∙ get_or-drop at target j 0)
    ∙ ap (λ (xs : List ℕ). get_or xs j 0) stands

pub stands_lies : (target : List ℕ) (patch : Patch) → Stands target patch → 0 < length patch.bytes → patch.offset + length patch.bytes ≤ length target
stands_lies target patch stands some =
    let at : ℕ = patch.offset in
    let len : ℕ = at + length patch.bytes - at in
    omega (arith, ap length stands, length-take len (drop at target), length-drop at target)

pub stands_from : (target : List ℕ) (patch : Patch) → patch.offset + length patch.bytes ≤ length target → ((j : ℕ) → j < length patch.bytes → get_or target (patch.offset + j) 0 ≡ get_or patch.bytes j 0) → Stands target patch
stands_from target patch inside same =
    let at : ℕ = patch.offset in
    let len : ℕ = at + length patch.bytes - at in
    let long : length (take len (drop at target)) ≡ len = length-take-le len (drop at target) (omega (arith, length-drop at target)) in
    ext_get_or 0 (take len (drop at target)) patch.bytes (omega arith)
    (λ j below. get_or-take len (drop at target) j 0 (omega arith) ∙ get_or-drop at target j 0 ∙ same j (omega arith))

-- a part of a part
slice_slice : (o n at len : ℕ) (xs : List ℕ) → at + len ≤ n → slice_range (slice_range xs o (o + n)) at (at + len) ≡ slice_range xs (o + at) (o + at + len)
slice_slice o n at len xs inside =
    let split : o + n - o ≡ at + (n - at) = omega arith in
    let same : at + len - at ≡ o + at + len - (o + at) = omega arith in
    ap (λ (m : ℕ). take (at + len - at) (drop at (take m (drop o xs)))) split
    ∙ ap (take (at + len - at)) (drop-take at (n - at) (drop o xs))
    ∙ take-take (at + len - at) (n - at) (drop at (drop o xs)) (omega arith)
    ∙ ap (take (at + len - at)) (drop-drop at o xs)
    ∙ ap (λ (m : ℕ). take m (drop (o + at) xs)) same

pub stands_shifted : (o : ℕ) (part target : List ℕ) (patch : Patch) → LiesIn (length part) patch → Stands target (patch_at o part) → Stands part patch → Stands target (shifted o patch)
stands_shifted o part target patch lies whole stands =
    let at : ℕ = patch.offset in
    let len : ℕ = length patch.bytes in
    sym (slice_slice o (length part) at len target lies) ∙ ap (λ (xs : List ℕ). slice_range xs at (at + len)) whole ∙ stands

pub shifted_stands : (o : ℕ) (part target : List ℕ) (patch : Patch) → LiesIn (length part) patch → Stands target (patch_at o part) → Stands target (shifted o patch) → Stands part patch
shifted_stands o part target patch lies whole stands =
    let at : ℕ = patch.offset in
    let len : ℕ = length patch.bytes in
    ap (λ (xs : List ℕ). slice_range xs at (at + len)) (sym whole) ∙ slice_slice o (length part) at len target lies ∙ stands

pub stands_append : (front rest : List ℕ) (patch : Patch) → LiesIn (length front) patch → Stands front patch → Stands (front ++ rest) patch
stands_append front rest patch lies stands =
    let at : ℕ = patch.offset in
    let len : ℕ = at + length patch.bytes - at in
    ap (take len) (drop-append-le at front rest (omega arith))
    ∙ take-append-le len (drop at front) rest (omega (arith, length-drop at front))
    ∙ stands

pub append_stands : (front rest : List ℕ) (patch : Patch) → LiesIn (length front) patch → Stands (front ++ rest) patch → Stands front patch
append_stands front rest patch lies stands =
    let at : ℕ = patch.offset in
    let len : ℕ = at + length patch.bytes - at in
    sym (ap (take len) (drop-append-le at front rest (omega arith))
    ∙ take-append-le len (drop at front) rest (omega (arith, length-drop at front)))
    ∙ stands

-- positions that no patch has
pub outside_from : (patches : List Patch) (k : ℕ) → is_patched patches k ≡ false → All (IsOutside k) patches
outside_from patches k free i d below =
    let patch : Patch = get_or patches i d in
    elim (cases_Bool (is_patched_at k patch)) [
      | inl has ↦ absurd (both_ways (is_patched patches k) free (list_any_at (is_patched_at k) patches i d below has))
      | inr not_has ↦
          elim (and_cases (leb patch.offset k) (ltb k (patch.offset + length patch.bytes)) not_has) [
            | inl before ↦ inl (leb-false patch.offset k before)
            | inr behind ↦ inr (ltb-false k (patch.offset + length patch.bytes) behind)
          ]
    ]

free_at : (k : ℕ) (patch : Patch) → IsOutside k patch → is_patched_at k patch ≡ false
free_at k patch (inl before) = and_left (leb patch.offset k) (ltb k (patch.offset + length patch.bytes)) (lt-leb patch.offset k before)
free_at k patch (inr behind) = and_right (leb patch.offset k) (ltb k (patch.offset + length patch.bytes)) (le-ltb k (patch.offset + length patch.bytes) behind)

pub free_from : (patches : List Patch) (k : ℕ) → All (IsOutside k) patches → is_patched patches k ≡ false
free_from patches k outside = list_any_none (is_patched_at k) patches (λ i d below. free_at k (get_or patches i d) (outside i d below))

-- a position that a patch has
pub patched_in : (k : ℕ) (patch : Patch) → is_patched_at k patch ≡ true → (patch.offset ≤ k) × (k < patch.offset + length patch.bytes)
patched_in k patch has =
    let parts = and_parts (leb patch.offset k) (ltb k (patch.offset + length patch.bytes)) has in
    (leb-true patch.offset k parts.0, ltb-true k (patch.offset + length patch.bytes) parts.1)

-- bytes of which patches make others: these stand in them, and elsewhere both are the same
abbrev IsSameAt : List ℕ → List ℕ → ℕ → Type 0
IsSameAt old new k = get_or old k 0 ≡ get_or new k 0

put_same : (patch : Patch) (old target : List ℕ) (k : ℕ) → LiesIn (length old) patch → Stands target patch → (is_patched_at k patch ≡ false → IsSameAt old target k) → IsSameAt (put_at patch.offset patch.bytes old) target k
put_same patch old target k lies stands same =
    elim (cases_Bool (is_patched_at k patch)) [
      | inl has ↦
          let within = patched_in k patch has in
          let sum : patch.offset + (k - patch.offset) ≡ k = omega (arith, within.0) in
          let P : ℕ → Type 0 = λ n. IsSameAt (put_at patch.offset patch.bytes old) target n in
          subst P sum
          (get_or-put_at_inside (k - patch.offset) 0 patch.offset patch.bytes old (omega (arith, within.0, within.1)) (omega arith)
          ∙ sym (stands_at target patch (k - patch.offset) stands (omega (arith, within.0, within.1))))
      | inr free ↦
          let out : All (IsOutside k) (patch ∷ []) = outside_from (patch ∷ []) k (ap (λ (b : Bool). b || false) free) in
          get_or-put_at k 0 patch.offset patch.bytes old (All-head (IsOutside k) patch [] out) (omega arith) ∙ same free
    ]

pub laid_is : (patches : List Patch) (old target : List ℕ) → length old ≡ length target → All (LiesIn (length old)) patches → All (Stands target) patches → ((k : ℕ) → k < length old → is_patched patches k ≡ false → IsSameAt old target k) → laid patches old ≡ target
laid_is [] old target long inside stands same = ext_get_or 0 old target long (λ k below. same k below refl)
laid_is (patch ∷ patches) old target long inside stands same =
    let lies : LiesIn (length old) patch = All-head (LiesIn (length old)) patch patches inside in
    let next : List ℕ = put_at patch.offset patch.bytes old in
    let kept : length next ≡ length old = length-put_at patch.offset patch.bytes old lies in
    laid_is patches next target (kept ∙ long) (tail_lies patch patches old inside) (All-tail (Stands target) patch patches stands)
    (λ k below free.
    put_same patch old target k lies (All-head (Stands target) patch patches stands)
    (λ here. same k (omega arith) (ap (λ (b : Bool). b || is_patched patches k) here ∙ free)))
