-- Whether some two blobs overlap: the same for any order of them, and between neighbours where they are sorted.
use Rattle.std.proofs.Common.{◌≡◌, ◌≢◌, ◌≤◌, ◌<◌, ℕ, zero, suc, ◌+◌, Bool, true, false, ◌||◌, cond, nat_lt, eqb, List, [], ◌∷◌, length, drop, get_or, refl, sym, ap, ◌∙◌, inl, inr, arith}
use Rattle.std.specs.List as holes
use Rattle.std.specs.List.{All, AllPairs, Any, list_any}
use Rattle.std.specs.List.Sorted.{IsNonDecreasingBy, IsPermutation}
use Rattle.std.proofs.lemmas.Bool.{and_from, and_parts, both_ways, cases_Bool, cases_eq, cases_lt, eq-eqb, false_from_ne_true, le-ltb, lt-ltb, ltb-true, ne_eqb, or_cases, or_left, or_right}
use Rattle.std.proofs.lemmas.Bool.Decides.{nat_tests}
use Rattle.std.proofs.lemmas.List.{at_drop_more, get_or_default}
use Rattle.std.proofs.lemmas.List.Edits.{length-swap, swapped_from_swap}
use Rattle.std.proofs.lemmas.List.Elements.{All-tail}
use Rattle.std.proofs.lemmas.List.Folds.{Any-from_list_any, list_any_at, list_any_none}
use Rattle.std.proofs.lemmas.List.Sorted.{IsPermutation-keeps, IsPermutation-sym}
use Rattle.macho_signatures.specs.declared.blobs.Blob.{Blob}
use Rattle.macho_signatures.specs.Blobs.{overlap, some_overlap}

-- what it is to overlap, in numbers
pub overlap-tells : (a b : Blob) → overlap a b ≡ true → (a.offset < b.offset + b.size) × (b.offset < a.offset + a.size)
overlap-tells a b e =
    let both = and_parts (nat_lt a.offset (b.offset + b.size)) (nat_lt b.offset (a.offset + a.size)) e in
    (ltb-true a.offset (b.offset + b.size) both.0, ltb-true b.offset (a.offset + a.size) both.1)

pub overlaps : (a b : Blob) → a.offset < b.offset + b.size → b.offset < a.offset + a.size → overlap a b ≡ true
overlaps a b left right =
    and_from (nat_lt a.offset (b.offset + b.size)) _ (lt-ltb a.offset (b.offset + b.size) left) (lt-ltb b.offset (a.offset + a.size) right)

overlap-turned : (a b : Blob) → overlap a b ≡ true → overlap b a ≡ true
overlap-turned a b e = let t = overlap-tells a b e in overlaps b a t.1 t.0

-- a blob doesn't overlap those behind its end
overlap-behind : (a b : Blob) → a.offset + a.size ≤ b.offset → overlap a b ≡ false
overlap-behind a b behind = false_from_ne_true (overlap a b) (λ e. let t = overlap-tells a b e in absurd (omega (arith, t.1)))

-- two blobs that overlap, by their places
pub some_overlap-at : (blobs : List Blob) (i j : ℕ) (d : Blob) → i < j → j < length blobs → overlap (get_or blobs i d) (get_or blobs j d) ≡ true → some_overlap blobs ≡ true
some_overlap-at [] i j d before within e = absurd (omega arith)
some_overlap-at (a ∷ rest) i zero d before within e = absurd (omega arith)
some_overlap-at (a ∷ rest) zero (suc j) d before within e = or_left (list_any (overlap a) rest) (some_overlap rest) (list_any_at (overlap a) rest j d (omega arith) e)
some_overlap-at (a ∷ rest) (suc i) (suc j) d before within e = or_right (list_any (overlap a) rest) (some_overlap rest) (some_overlap-at rest i j d (omega arith) (omega arith) e)

-- two blobs at different places that overlap
pub record Overlapping (blobs : List Blob) : Type 0 where
  pub first : ℕ
  pub second : ℕ
  pub apart : first ≢ second
  pub first_within : first < length blobs
  pub second_within : second < length blobs
  pub shared : (d : Blob) → overlap (get_or blobs first d) (get_or blobs second d) ≡ true

overlapping_behind : (a : Blob) (rest : List Blob) → Overlapping rest → Overlapping (a ∷ rest)
overlapping_behind a rest h = record {
  first = suc h.first;
  second = suc h.second;
  apart = λ e. h.apart (omega arith);
  first_within = omega (arith, h.first_within);
  second_within = omega (arith, h.second_within);
  shared = h.shared;
}

overlapping_head : (a : Blob) (rest : List Blob) → Any (λ b. overlap a b ≡ true) rest → Overlapping (a ∷ rest)
overlapping_head a rest h =
    record {
      first = 0;
      second = suc h.0;
      apart = λ e. absurd (omega arith);
      first_within = omega arith;
      second_within = omega (arith, h.2);
      shared = λ d. ap (overlap a) (get_or_default rest h.0 d h.1 h.2 ∙ h.3) ∙ h.4;
    }

pub overlapping_from_some_overlap : (blobs : List Blob) → some_overlap blobs ≡ true → Overlapping blobs
overlapping_from_some_overlap [] e = cc
overlapping_from_some_overlap (a ∷ rest) e =
    elim (or_cases (list_any (overlap a) rest) (some_overlap rest) e) [
      | inl here ↦ overlapping_head a rest (Any-from_list_any (overlap a) rest here)
      | inr behind ↦ overlapping_behind a rest (overlapping_from_some_overlap rest behind)
    ]

pub some_overlap-from_shared : (blobs : List Blob) → Overlapping blobs → some_overlap blobs ≡ true
some_overlap-from_shared [] h = absurd (omega (arith, h.first_within))
some_overlap-from_shared (a ∷ rest) h =
    elim (cases_lt h.first h.second) [
      | inl before ↦ some_overlap-at (a ∷ rest) h.first h.second a before h.second_within (h.shared a)
      | inr behind ↦
          some_overlap-at (a ∷ rest) h.second h.first a (omega (arith, h.apart)) h.first_within
          (overlap-turned (get_or (a ∷ rest) h.first a) (get_or (a ∷ rest) h.second a) (h.shared a))
    ]

-- where the element at k stands after the elements at i and j took each other's place
place_after : ℕ → ℕ → ℕ → ℕ
place_after i j k = cond (eqb k i) j (cond (eqb k j) i k)

place_after-apart : (i j m n : ℕ) → m ≢ n → place_after i j m ≢ place_after i j n
unfolding place_after
place_after-apart i j m n apart same = apart (grind (arith, nat_tests))

place_after-lt : (i j k n : ℕ) → i < n → j < n → k < n → place_after i j k < n
unfolding place_after
place_after-lt i j k n here there within = grind (arith, nat_tests)

get_or-place_after : {X : Type 0} (xs : List X) (i j k : ℕ) (d : X) → i < length xs → j < length xs → get_or (holes.swap xs i j) (place_after i j k) d ≡ get_or xs k d
unfolding place_after
get_or-place_after xs i j k d here there =
    let moved = swapped_from_swap xs (holes.swap xs i j) i j d here there refl in
    elim (cases_eq k i) [
      | inl first ↦ rw (eq-eqb k i first) (moved.1 ∙ ap (λ n. get_or xs n d) (sym first))
      | inr other ↦
          elim (cases_eq k j) [
            | inl second ↦ rw (ne_eqb k i other, eq-eqb k j second) (moved.0 ∙ ap (λ n. get_or xs n d) (sym second))
            | inr neither ↦ rw (ne_eqb k i other, ne_eqb k j neither) (moved.2 k other neither)
          ]
    ]

overlapping_after : (l : List Blob) (i j : ℕ) → i < length l → j < length l → Overlapping l → Overlapping (holes.swap l i j)
overlapping_after l i j here there h =
    let long = length-swap l i j in
    record {
      first = place_after i j h.first;
      second = place_after i j h.second;
      apart = place_after-apart i j h.first h.second h.apart;
      first_within = rw long (place_after-lt i j h.first (length l) here there h.first_within);
      second_within = rw long (place_after-lt i j h.second (length l) here there h.second_within);
      shared = λ d. rw (get_or-place_after l i j h.first d here there, get_or-place_after l i j h.second d here there) (h.shared d);
    }

overlapping_kept : (xs ys : List Blob) → IsPermutation xs ys → some_overlap xs ≡ true → some_overlap ys ≡ true
overlapping_kept xs ys moved e = some_overlap-from_shared ys (IsPermutation-keeps xs Overlapping (overlapping_from_some_overlap xs e) overlapping_after ys moved)

-- the order of the blobs doesn't matter
pub some_overlap-IsPermutation : (xs ys : List Blob) → IsPermutation xs ys → some_overlap ys ≡ some_overlap xs
some_overlap-IsPermutation xs ys moved =
    elim (cases_Bool (some_overlap xs)) [
      | inl shared ↦ overlapping_kept xs ys moved shared ∙ sym shared
      | inr apart ↦ false_from_ne_true (some_overlap ys) (λ e. both_ways (some_overlap xs) apart (overlapping_kept ys xs (IsPermutation-sym xs ys moved) e)) ∙ sym apart
    ]

-- blobs that are sorted by where they begin are so without the first
pub rises_rest : (a : Blob) (rest : List Blob) → IsNonDecreasingBy (λ b. b.offset) (a ∷ rest) → IsNonDecreasingBy (λ b. b.offset) rest
rises_rest a rest up = λ i j d order within. up (suc i) (suc j) d (omega arith) (omega arith)

-- where the second blob begins behind the first one's end, all do
pub apart_from_first : (a b : Blob) (rest : List Blob) → IsNonDecreasingBy (λ c. c.offset) (b ∷ rest) → a.offset + a.size ≤ b.offset → list_any (overlap a) (b ∷ rest) ≡ false
apart_from_first a b rest up behind =
    list_any_none (overlap a) (b ∷ rest)
    (λ k d within. overlap-behind a (get_or (b ∷ rest) k d) (let rises = up 0 k d (omega arith) within in omega (arith, rises)))

-- whether a blob begins before the one before it ends; the first, before this end
abbrev pub meets_last : ℕ → List Blob → Bool
meets_last end [] = false
meets_last end (a ∷ rest) = nat_lt a.offset end || meets_last (a.offset + a.size) rest

meets_last-behind : (a : Blob) (rest : List Blob) → IsNonDecreasingBy (λ b. b.offset) (a ∷ rest) → All (λ b. 0 < b.size) (a ∷ rest) → meets_last (a.offset + a.size) rest ≡ some_overlap (a ∷ rest)
meets_last-behind a [] up filled = refl
meets_last-behind a (b ∷ rest) up filled =
    let order : a.offset ≤ b.offset = up 0 1 a (omega arith) (omega arith) in
    let second : 0 < b.size = filled 1 a (omega arith) in
    elim (cases_lt b.offset (a.offset + a.size)) [
      | inl meets ↦
          or_left (nat_lt b.offset (a.offset + a.size)) (meets_last (b.offset + b.size) rest) (lt-ltb b.offset (a.offset + a.size) meets)
          ∙ sym (some_overlap-at (a ∷ b ∷ rest) 0 1 a (omega arith) (omega arith) (overlaps a b (omega (arith, order, second)) meets))
      | inr behind ↦
          ap (λ t. t || meets_last (b.offset + b.size) rest) (le-ltb b.offset (a.offset + a.size) behind)
          ∙ meets_last-behind b rest (rises_rest a (b ∷ rest) up) (All-tail (λ c. 0 < c.size) a (b ∷ rest) filled)
          ∙ sym (ap (λ t. t || some_overlap (b ∷ rest)) (apart_from_first a b rest (rises_rest a (b ∷ rest) up) behind))
    ]

pub meets_last-some_overlap : (blobs : List Blob) → IsNonDecreasingBy (λ b. b.offset) blobs → All (λ b. 0 < b.size) blobs → meets_last 0 blobs ≡ some_overlap blobs
meets_last-some_overlap [] up filled = refl
meets_last-some_overlap (a ∷ rest) up filled =
    ap (λ t. t || meets_last (a.offset + a.size) rest) (le-ltb a.offset 0 (omega arith)) ∙ meets_last-behind a rest up filled

-- the blob in turn begins before the last one ends, or it is the last
pub meets_last-here : (blobs : List Blob) (i end : ℕ) (d : Blob) → i < length blobs → (get_or blobs i d).offset < end → meets_last end (drop i blobs) ≡ true
meets_last-here blobs i end d within meets =
    let a : Blob = get_or blobs i d in
    at_drop_more (meets_last end) blobs i d within ∙ or_left (nat_lt a.offset end) (meets_last (a.offset + a.size) (drop (i + 1) blobs)) (lt-ltb a.offset end meets)

-- blobs of which no two overlap stand apart
pub apart_blobs : (blobs : List Blob) → some_overlap blobs ≡ false → AllPairs (λ a b. overlap a b ≡ false) blobs
apart_blobs blobs none = λ i j d before within. false_from_ne_true _ (λ e. both_ways (some_overlap blobs) none (some_overlap-at blobs i j d before within e))
