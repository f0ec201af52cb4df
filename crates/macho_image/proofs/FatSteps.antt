-- The steps of the functions that read a table: a record more, a slice more of those that are sorted, and
-- what the slices that have bytes keep when they are sorted.
use Rattle.std.proofs.Common.{◌≡◌, ◌≤◌, ◌<◌, ℕ, suc, ◌+◌, ◌*◌, ◌-◌, Bool, true, false, ◌||◌, nat_lt, List, [], ◌∷◌, ◌++◌, length, take, drop, get_or, refl, sym, ap, ◌∙◌, inl, inr, append_assoc, arith}
use Rattle.std.specs.List.{All, filter}
use Rattle.std.specs.List.Sorted.{IsNonDecreasingBy, IsPermutation}
use Rattle.std.proofs.lemmas.Bool.{cases_lt, le-ltb, lt-ltb, ltb-true, or_left}
use Rattle.std.proofs.lemmas.List.{at_drop_more, length-drop, take_rest}
use Rattle.std.proofs.lemmas.List.Elements.{All-same, All-tail, All-weaker, filter_passes}
use Rattle.std.proofs.lemmas.List.Sorted.{All-permutation}
use Rattle.macho_image.specs.declared.fat.FatArch.{FatArch}
use Rattle.macho_image.specs.Fat.{arch_of, some_share, table}
use Rattle.macho_image.proofs.FatLaws.{apart_from_first, length-table, rises_rest, shares_byte, some_share-IsPermutation, some_share-at, some_share-filter}

-- a record was read: those that were read and those that are left give all
pub table_more : (count i : ℕ) (rest : List ℕ) (arch : FatArch) (made next all : List FatArch) → i < count → arch ≡ arch_of rest → next ≡ made ++ arch ∷ [] → made ++ table (count - i) rest ≡ all → next ++ table (count - (i + 1)) (take (length rest - 20) (drop 20 rest)) ≡ all
table_more count i rest arch made next all within is push before =
    let left : count - i ≡ suc (count - (i + 1)) = omega arith in
    let behind : List FatArch = table (count - (i + 1)) (take (length rest - 20) (drop 20 rest)) in
    let step = rw left at before in
    ap (λ xs. xs ++ behind) push ∙ append_assoc made (arch ∷ []) behind ∙ ap (λ a. made ++ a ∷ behind) is
    ∙ ap (λ r. made ++ arch_of rest ∷ table (count - (i + 1)) r) (take_rest rest 20) ∙ step

pub length-read : (count : ℕ) (rest : List ℕ) (archs seen : List FatArch) → archs ≡ table count rest → seen ≡ archs → length seen ≡ count
length-read count rest archs seen read same = ap length (same ∙ read) ∙ length-table count rest

pub place_more : (i n : ℕ) (rest : List ℕ) → 20 ≤ length rest → 20 * i + length rest ≡ n → 20 * (i + 1) + length (take (length rest - 20) (drop 20 rest)) ≡ n
place_more i n rest within before = rw (take_rest rest 20, length-drop) (omega arith)

-- whether a slice begins before the one before it ends; the first, before this end
abbrev pub meets_last : ℕ → List FatArch → Bool
meets_last end [] = false
meets_last end (a ∷ rest) = nat_lt a.offset end || meets_last (a.offset + a.size) rest

meets_last-behind : (a : FatArch) (rest : List FatArch) → IsNonDecreasingBy (λ b. b.offset) (a ∷ rest) → All (λ b. 0 < b.size) (a ∷ rest) → meets_last (a.offset + a.size) rest ≡ some_share (a ∷ rest)
meets_last-behind a [] up filled = refl
meets_last-behind a (b ∷ rest) up filled =
    let order : a.offset ≤ b.offset = up 0 1 a (omega arith) (omega arith) in
    let first : 0 < a.size = filled 0 a (omega arith) in
    let second : 0 < b.size = filled 1 a (omega arith) in
    elim (cases_lt b.offset (a.offset + a.size)) [
      | inl meets ↦
          or_left (nat_lt b.offset (a.offset + a.size)) (meets_last (b.offset + b.size) rest) (lt-ltb b.offset (a.offset + a.size) meets)
          ∙ sym (some_share-at (a ∷ b ∷ rest) 0 1 a (omega arith) (omega arith) (shares_byte a b first second (omega arith) meets))
      | inr behind ↦
          ap (λ t. t || meets_last (b.offset + b.size) rest) (le-ltb b.offset (a.offset + a.size) behind)
          ∙ meets_last-behind b rest (rises_rest a (b ∷ rest) up) (All-tail (λ c. 0 < c.size) a (b ∷ rest) filled)
          ∙ sym (ap (λ t. t || some_share (b ∷ rest)) (apart_from_first a b rest (rises_rest a (b ∷ rest) up) behind))
    ]

pub meets_last-some_share : (archs : List FatArch) → IsNonDecreasingBy (λ b. b.offset) archs → All (λ b. 0 < b.size) archs → meets_last 0 archs ≡ some_share archs
meets_last-some_share [] up filled = refl
meets_last-some_share (a ∷ rest) up filled =
    ap (λ t. t || meets_last (a.offset + a.size) rest) (le-ltb a.offset 0 (omega arith)) ∙ meets_last-behind a rest up filled

-- the slice in turn begins before the last one ends, or it is the last
pub meets_last-here : (archs : List FatArch) (i end : ℕ) (d : FatArch) → i < length archs → (get_or archs i d).offset < end → meets_last end (drop i archs) ≡ true
meets_last-here archs i end d within meets =
    let a : FatArch = get_or archs i d in
    at_drop_more (meets_last end) archs i d within ∙ or_left (nat_lt a.offset end) (meets_last (a.offset + a.size) (drop (i + 1) archs)) (lt-ltb a.offset end meets)

-- the slices that have bytes have them in any order, and in any order they share one where all slices do
pub filled_after : (archs kept moved : List FatArch) → kept ≡ filter (λ a. nat_lt 0 a.size) archs → IsPermutation kept moved → All (λ a. 0 < a.size) moved
filled_after archs kept moved e order =
    let passed = All-same (λ a. nat_lt 0 a.size ≡ true) kept (filter (λ a. nat_lt 0 a.size) archs) e (filter_passes (λ a. nat_lt 0 a.size) archs) in
    All-permutation (λ a. 0 < a.size) kept moved order (All-weaker (λ a. nat_lt 0 a.size ≡ true) (λ a. 0 < a.size) (λ a. ltb-true 0 a.size) kept passed)

pub some_share-after : (archs kept moved : List FatArch) → kept ≡ filter (λ a. nat_lt 0 a.size) archs → IsPermutation kept moved → some_share moved ≡ some_share archs
some_share-after archs kept moved e order = some_share-IsPermutation kept moved order ∙ ap some_share e ∙ some_share-filter archs
