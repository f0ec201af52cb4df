-- What a table of slices that passes is, and how it shows whether two slices share a byte: the same for any
-- order of them and without the empty ones, and between neighbours where they are sorted.
use Rattle.std.proofs.Common.{◌≡◌, ◌≢◌, ◌≤◌, ◌<◌, ℕ, zero, suc, ◌+◌, ◌*◌, ◌-◌, ◌^◌, Bool, true, false, ◌&&◌, ◌||◌, not, cond, nat_lt, eqb, List, [], ◌∷◌, length, drop, get_or, Option, Some, None, refl, sym, ap, ◌∙◌, subst, inl, inr, arith, if◌then◌else◌}
use Rattle.std.specs.List as holes
use Rattle.std.specs.List.{Any, filter, list_any}
use Rattle.std.specs.List.Sorted.{IsNonDecreasingBy, IsPermutation}
use Rattle.std.proofs.lemmas.Bool.{and_from, and_parts, both_ways, cases_Bool, cases_eq, cases_lt, cond-false, cond-true, eq-eqb, false_from_ne_true, le-ltb, lt-ltb, ltb-false, ltb-true, ne_eqb, not-false, not_from_true, or_cases, or_from, or_left, or_parts, or_right}
use Rattle.std.proofs.lemmas.Bool.Decides.{nat_tests}
use Rattle.std.proofs.lemmas.List.{drop-drop, get_or_default, same_lists}
use Rattle.std.proofs.lemmas.List.Edits.{length-swap, swapped_from_swap}
use Rattle.std.proofs.lemmas.List.Folds.{Any-from_list_any, list_any_at, list_any_none}
use Rattle.std.proofs.lemmas.List.Sorted.{IsPermutation-keeps, IsPermutation-sym}
use Rattle.std.proofs.lemmas.Map.Views.{any-filter_same}
use Rattle.macho_image.specs.declared.fat.FatArch.{FatArch}
use Rattle.macho_image.specs.declared.format.MachFault.{MachFault}
use Rattle.macho_image.specs.declared.format.MachFault.TheVariants.{BadMagic, SliceOutside, SlicesOverlap, TooLong, Truncated}
use Rattle.macho_image.specs.Fat.{AreRecordsOf, AreSlices, IsFatFile, arch_of, archs_of, has_fat_magic, is_outside, nfat_arch_of, share_byte, slices_fault, some_share, table, table_end, table_fault}
use Rattle.macho_image.proofs.AreaLaws.{passes_check}
use Rattle.macho_image.proofs.CommandLaws.{passes}

-- there are as many slices as the header says
pub length-table : (n : ℕ) (rest : List ℕ) → length (table n rest) ≡ n
length-table zero rest = refl
length-table (suc n) rest = ap suc (length-table n (drop 20 rest))

pub length-archs_of : (bytes : List ℕ) → length (archs_of bytes) ≡ nfat_arch_of bytes
unfolding archs_of
length-archs_of bytes = length-table (nfat_arch_of bytes) (drop 8 bytes)

-- what it is to share a byte, in numbers
pub share_byte-tells : (a b : FatArch) → share_byte a b ≡ true → (0 < a.size) × (0 < b.size) × (a.offset < b.offset + b.size) × (b.offset < a.offset + a.size)
share_byte-tells a b e =
    let first = and_parts (nat_lt 0 a.size) (nat_lt 0 b.size && (nat_lt a.offset (b.offset + b.size) && nat_lt b.offset (a.offset + a.size))) e in
    let second = and_parts (nat_lt 0 b.size) (nat_lt a.offset (b.offset + b.size) && nat_lt b.offset (a.offset + a.size)) first.1 in
    let third = and_parts (nat_lt a.offset (b.offset + b.size)) (nat_lt b.offset (a.offset + a.size)) second.1 in
    (ltb-true 0 a.size first.0, ltb-true 0 b.size second.0, ltb-true a.offset (b.offset + b.size) third.0, ltb-true b.offset (a.offset + a.size) third.1)

pub shares_byte : (a b : FatArch) → 0 < a.size → 0 < b.size → a.offset < b.offset + b.size → b.offset < a.offset + a.size → share_byte a b ≡ true
shares_byte a b filled other left right =
    and_from (nat_lt 0 a.size) _ (lt-ltb 0 a.size filled)
    (and_from (nat_lt 0 b.size) _ (lt-ltb 0 b.size other)
    (and_from (nat_lt a.offset (b.offset + b.size)) _ (lt-ltb a.offset (b.offset + b.size) left) (lt-ltb b.offset (a.offset + a.size) right)))

pub share_byte-turned : (a b : FatArch) → share_byte a b ≡ true → share_byte b a ≡ true
share_byte-turned a b e = let t = share_byte-tells a b e in shares_byte b a t.1 t.0 t.3 t.2

-- a slice shares no byte with those behind its end, and an empty one with none
share_byte-behind : (a b : FatArch) → a.offset + a.size ≤ b.offset → share_byte a b ≡ false
share_byte-behind a b behind = false_from_ne_true (share_byte a b) (λ e. let t = share_byte-tells a b e in absurd (omega (arith, t.3)))

share_byte-empty : (a b : FatArch) → a.size ≤ 0 → share_byte a b ≡ false
share_byte-empty a b empty = false_from_ne_true (share_byte a b) (λ e. let t = share_byte-tells a b e in absurd (omega (arith, t.0)))

-- two slices that share a byte, by their places
pub some_share-at : (archs : List FatArch) (i j : ℕ) (d : FatArch) → i < j → j < length archs → share_byte (get_or archs i d) (get_or archs j d) ≡ true → some_share archs ≡ true
some_share-at [] i j d before within e = absurd (omega arith)
some_share-at (a ∷ rest) i zero d before within e = absurd (omega arith)
some_share-at (a ∷ rest) zero (suc j) d before within e = or_left (list_any (share_byte a) rest) (some_share rest) (list_any_at (share_byte a) rest j d (omega arith) e)
some_share-at (a ∷ rest) (suc i) (suc j) d before within e = or_right (list_any (share_byte a) rest) (some_share rest) (some_share-at rest i j d (omega arith) (omega arith) e)

pub some_share-none : (archs : List FatArch) → ((i j : ℕ) (d : FatArch) → i < j → j < length archs → share_byte (get_or archs i d) (get_or archs j d) ≡ false) → some_share archs ≡ false
some_share-none [] apart = refl
some_share-none (a ∷ rest) apart =
    or_from (list_any (share_byte a) rest) (some_share rest)
    (list_any_none (share_byte a) rest (λ k d within. apart 0 (suc k) d (omega arith) (omega arith)))
    (some_share-none rest (λ i j d before within. apart (suc i) (suc j) d (omega arith) (omega arith)))

-- two slices at different places that share a byte
pub record SharedByte (archs : List FatArch) : Type 0 where
  pub first : ℕ
  pub second : ℕ
  pub apart : first ≢ second
  pub first_within : first < length archs
  pub second_within : second < length archs
  pub shared : (d : FatArch) → share_byte (get_or archs first d) (get_or archs second d) ≡ true

shared_behind : (a : FatArch) (rest : List FatArch) → SharedByte rest → SharedByte (a ∷ rest)
shared_behind a rest h = record {
  first = suc h.first;
  second = suc h.second;
  apart = λ e. h.apart (omega arith);
  first_within = omega (arith, h.first_within);
  second_within = omega (arith, h.second_within);
  shared = h.shared;
}

shared_head : (a : FatArch) (rest : List FatArch) → Any (λ b. share_byte a b ≡ true) rest → SharedByte (a ∷ rest)
shared_head a rest h =
    record {
      first = 0;
      second = suc h.0;
      apart = λ e. absurd (omega arith);
      first_within = omega arith;
      second_within = omega (arith, h.2);
      shared = λ d. ap (share_byte a) (get_or_default rest h.0 d h.1 h.2 ∙ h.3) ∙ h.4;
    }

pub shared_from_some_share : (archs : List FatArch) → some_share archs ≡ true → SharedByte archs
shared_from_some_share [] e = cc
shared_from_some_share (a ∷ rest) e =
    elim (or_cases (list_any (share_byte a) rest) (some_share rest) e) [
      | inl here ↦ shared_head a rest (Any-from_list_any (share_byte a) rest here)
      | inr behind ↦ shared_behind a rest (shared_from_some_share rest behind)
    ]

pub some_share-from_shared : (archs : List FatArch) → SharedByte archs → some_share archs ≡ true
some_share-from_shared [] h = absurd (omega (arith, h.first_within))
some_share-from_shared (a ∷ rest) h =
    elim (cases_lt h.first h.second) [
      | inl before ↦ some_share-at (a ∷ rest) h.first h.second a before h.second_within (h.shared a)
      | inr behind ↦
          some_share-at (a ∷ rest) h.second h.first a (omega (arith, h.apart)) h.first_within
          (share_byte-turned (get_or (a ∷ rest) h.first a) (get_or (a ∷ rest) h.second a) (h.shared a))
    ]

-- where the element at k stands after the elements at i and j took each other's place
place_after : ℕ → ℕ → ℕ → ℕ
place_after i j k = cond (eqb k i) j (cond (eqb k j) i k)

place_after-apart : (i j m n : ℕ) → m ≢ n → place_after i j m ≢ place_after i j n
unfolding place_after
place_after-apart i j m n apart same = apart (grind (arith, nat_tests))

place_after-lt : (i j k n : ℕ) → i < n → j < n → k < n → place_after i j k < n
unfolding place_after
place_after-lt i j k n here there within = grind (arith, nat_tests)

get_or-place_after : {X : Type 0} (xs : List X) (i j k : ℕ) (d : X) → i < length xs → j < length xs → get_or (holes.swap xs i j) (place_after i j k) d ≡ get_or xs k d
unfolding place_after
get_or-place_after xs i j k d here there =
    let moved = swapped_from_swap xs (holes.swap xs i j) i j d here there refl in
    elim (cases_eq k i) [
      | inl first ↦ rw (eq-eqb k i first) (moved.1 ∙ ap (λ n. get_or xs n d) (sym first))
      | inr other ↦
          elim (cases_eq k j) [
            | inl second ↦ rw (ne_eqb k i other, eq-eqb k j second) (moved.0 ∙ ap (λ n. get_or xs n d) (sym second))
            | inr neither ↦ rw (ne_eqb k i other, ne_eqb k j neither) (moved.2 k other neither)
          ]
    ]

shared_after : (l : List FatArch) (i j : ℕ) → i < length l → j < length l → SharedByte l → SharedByte (holes.swap l i j)
shared_after l i j here there h =
    let long = length-swap l i j in
    record {
      first = place_after i j h.first;
      second = place_after i j h.second;
      apart = place_after-apart i j h.first h.second h.apart;
      first_within = rw long (place_after-lt i j h.first (length l) here there h.first_within);
      second_within = rw long (place_after-lt i j h.second (length l) here there h.second_within);
      shared = λ d. rw (get_or-place_after l i j h.first d here there, get_or-place_after l i j h.second d here there) (h.shared d);
    }

shared_kept : (xs ys : List FatArch) → IsPermutation xs ys → some_share xs ≡ true → some_share ys ≡ true
shared_kept xs ys moved e = some_share-from_shared ys (IsPermutation-keeps xs SharedByte (shared_from_some_share xs e) shared_after ys moved)

-- the order of the slices doesn't matter
pub some_share-IsPermutation : (xs ys : List FatArch) → IsPermutation xs ys → some_share ys ≡ some_share xs
some_share-IsPermutation xs ys moved =
    elim (cases_Bool (some_share xs)) [
      | inl shared ↦ shared_kept xs ys moved shared ∙ sym shared
      | inr apart ↦ false_from_ne_true (some_share ys) (λ e. both_ways (some_share xs) apart (shared_kept ys xs (IsPermutation-sym xs ys moved) e)) ∙ sym apart
    ]

-- empty slices don't matter
pub some_share-filter : (archs : List FatArch) → some_share (filter (λ a. nat_lt 0 a.size) archs) ≡ some_share archs
some_share-filter [] = refl
some_share-filter (a ∷ rest) =
    let kept : List FatArch = filter (λ b. nat_lt 0 b.size) rest in
    let others : list_any (share_byte a) kept ≡ list_any (share_byte a) rest = any-filter_same (share_byte a) (λ b. nat_lt 0 b.size) true (λ b e. lt-ltb 0 b.size (share_byte-tells a b e).1) rest in
    let both : (list_any (share_byte a) kept || some_share kept) ≡ (list_any (share_byte a) rest || some_share rest) = ap (λ b. b || some_share kept) others ∙ ap (λ b. list_any (share_byte a) rest || b) (some_share-filter rest) in
    elim (cases_lt 0 a.size) [
      | inl filled ↦ ap some_share (cond-true (nat_lt 0 a.size) (a ∷ kept) kept (lt-ltb 0 a.size filled)) ∙ both
      | inr empty ↦
          ap some_share (cond-false (nat_lt 0 a.size) (a ∷ kept) kept (le-ltb 0 a.size empty)) ∙ some_share-filter rest
          ∙ sym (ap (λ b. b || some_share rest) (list_any_none (share_byte a) rest (λ k d within. share_byte-empty a (get_or rest k d) empty)))
    ]

-- slices that are sorted by where they begin are so without the first
pub rises_rest : (a : FatArch) (rest : List FatArch) → IsNonDecreasingBy (λ b. b.offset) (a ∷ rest) → IsNonDecreasingBy (λ b. b.offset) rest
rises_rest a rest up = λ i j d order within. up (suc i) (suc j) d (omega arith) (omega arith)

-- where the second slice begins behind the first one's end, all do
pub apart_from_first : (a b : FatArch) (rest : List FatArch) → IsNonDecreasingBy (λ c. c.offset) (b ∷ rest) → a.offset + a.size ≤ b.offset → list_any (share_byte a) (b ∷ rest) ≡ false
apart_from_first a b rest up behind =
    list_any_none (share_byte a) (b ∷ rest)
    (λ k d within. share_byte-behind a (get_or (b ∷ rest) k d) (let rises = up 0 k d (omega arith) within in omega (arith, rises)))

-- what the checks of the slices show
pub slices_pass : (len : ℕ) (archs : List FatArch) → slices_fault len archs ≡ None → AreSlices len (table_end (length archs)) archs
unfolding slices_fault
slices_pass len archs pass =
    let end : ℕ = table_end (length archs) in
    let outside : Bool = list_any (is_outside len end) archs in
    let first = passes outside SliceOutside (if some_share archs then Some SlicesOverlap else None) pass in
    let second = passes (some_share archs) SlicesOverlap None first.1 in
    let each : (k : ℕ) (d : FatArch) → k < length archs → is_outside len end (get_or archs k d) ≡ false = λ k d within. false_from_ne_true (is_outside len end (get_or archs k d)) (λ e. both_ways outside first.0 (list_any_at (is_outside len end) archs k d within e)) in
    record {
      inside = λ k d within. let a : FatArch = get_or archs k d in ltb-false len (a.offset + a.size) (or_parts (nat_lt len (a.offset + a.size)) (nat_lt a.offset end) (each k d within)).0;
      behind = λ k d within. let a : FatArch = get_or archs k d in ltb-false a.offset end (or_parts (nat_lt len (a.offset + a.size)) (nat_lt a.offset end) (each k d within)).1;
      apart = λ i j d before within. false_from_ne_true _ (λ e. both_ways (some_share archs) second.0 (some_share-at archs i j d before within e));
    }

pub slices_fault-none : (len : ℕ) (archs : List FatArch) → AreSlices len (table_end (length archs)) archs → slices_fault len archs ≡ None
unfolding slices_fault
slices_fault-none len archs are =
    let end : ℕ = table_end (length archs) in
    passes_check (list_any (is_outside len end) archs) SliceOutside (if some_share archs then Some SlicesOverlap else None)
    (list_any_none (is_outside len end) archs (λ k d within. let a : FatArch = get_or archs k d in or_from (nat_lt len (a.offset + a.size)) (nat_lt a.offset end) (le-ltb len (a.offset + a.size) (are.inside k d within)) (le-ltb a.offset end (are.behind k d within))))
    (passes_check (some_share archs) SlicesOverlap None (some_share-none archs are.apart) refl)

-- what the checks of a fat file show
pub table_passes : (bytes : List ℕ) → table_fault bytes ≡ None → (length bytes < 2 ^ 32) × (has_fat_magic bytes ≡ true) × (table_end (nfat_arch_of bytes) ≤ length bytes) × AreSlices (length bytes) (table_end (nfat_arch_of bytes)) (archs_of bytes)
unfolding table_fault
table_passes bytes pass =
    let n : ℕ = length bytes in
    let end : ℕ = table_end (nfat_arch_of bytes) in
    let slices : Option MachFault = slices_fault n (archs_of bytes) in
    let records : Option MachFault = if nat_lt n end then Some Truncated else slices in
    let header : Option MachFault = if nat_lt n 8 then Some Truncated else records in
    let magic : Option MachFault = if not (has_fat_magic bytes) then Some BadMagic else header in
    let first = passes (nat_lt (2 ^ 32 - 1) n) TooLong (if nat_lt n 4 then Some Truncated else magic) pass in
    let second = passes (nat_lt n 4) Truncated magic first.1 in
    let third = passes (not (has_fat_magic bytes)) BadMagic header second.1 in
    let fourth = passes (nat_lt n 8) Truncated records third.1 in
    let fifth = passes (nat_lt n end) Truncated slices fourth.1 in
    let short = ltb-false (2 ^ 32 - 1) n first.0 in
    let P : ℕ → Type 0 = λ count. AreSlices n (table_end count) (archs_of bytes) in
    (omega arith, not-false (has_fat_magic bytes) third.0, ltb-false n end fifth.0, subst P (length-archs_of bytes) (slices_pass n (archs_of bytes) fifth.1))

pub table_fault-none : (bytes : List ℕ) → length bytes < 2 ^ 32 → has_fat_magic bytes ≡ true → table_end (nfat_arch_of bytes) ≤ length bytes → AreSlices (length bytes) (table_end (nfat_arch_of bytes)) (archs_of bytes) → table_fault bytes ≡ None
unfolding table_fault
table_fault-none bytes short fat room are =
    let n : ℕ = length bytes in
    let end : ℕ = table_end (nfat_arch_of bytes) in
    let P : ℕ → Type 0 = λ count. AreSlices n (table_end count) (archs_of bytes) in
    let slices = slices_fault-none n (archs_of bytes) (subst P (sym (length-archs_of bytes)) are) in
    passes_check (nat_lt (2 ^ 32 - 1) n) TooLong _ (le-ltb (2 ^ 32 - 1) n (omega arith))
    (passes_check (nat_lt n 4) Truncated _ (le-ltb n 4 (omega arith))
    (passes_check (not (has_fat_magic bytes)) BadMagic _ (not_from_true (has_fat_magic bytes) fat)
    (passes_check (nat_lt n 8) Truncated _ (le-ltb n 8 (omega arith))
    (passes_check (nat_lt n end) Truncated (slices_fault n (archs_of bytes)) (le-ltb n end room) slices))))

-- the records of a table, each by its place
get_or-table : (n : ℕ) (rest : List ℕ) (i : ℕ) (d : FatArch) → i < n → get_or (table n rest) i d ≡ arch_of (drop (20 * i) rest)
get_or-table zero rest i d within = absurd (omega arith)
get_or-table (suc n) rest zero d within = refl
get_or-table (suc n) rest (suc i) d within =
    let next : 20 + 20 * i ≡ 20 * suc i = omega arith in
    get_or-table n (drop 20 rest) i d (omega arith) ∙ ap arch_of (drop-drop (20 * i) 20 rest ∙ ap (λ (k : ℕ). drop k rest) next)

-- a table of records that stand one behind the other
pub archs_of-places : (bytes : List ℕ) → AreRecordsOf bytes (archs_of bytes)
unfolding archs_of
archs_of-places bytes = λ i d within.
    let count = length-table (nfat_arch_of bytes) (drop 8 bytes) in
    get_or-table (nfat_arch_of bytes) (drop 8 bytes) i d (omega arith) ∙ ap arch_of (drop-drop (20 * i) 8 bytes)

pub archs_of-only : (bytes : List ℕ) (archs : List FatArch) → nfat_arch_of bytes ≡ length archs → AreRecordsOf bytes archs → archs_of bytes ≡ archs
archs_of-only bytes archs count places =
    let long = length-archs_of bytes in
    same_lists (archs_of bytes) archs (omega arith) (λ i d within. archs_of-places bytes i d within ∙ sym (places i d (omega arith)))

-- an accepted fat file is a fat file with the slices that its table tells
pub fat_found : (bytes : List ℕ) → table_fault bytes ≡ None → IsFatFile bytes (archs_of bytes)
fat_found bytes pass =
    let is = table_passes bytes pass in
    let long : length (archs_of bytes) ≡ nfat_arch_of bytes = length-archs_of bytes in
    let P : ℕ → Type 0 = λ n. (table_end n ≤ length bytes) × AreSlices (length bytes) (table_end n) (archs_of bytes) in
    let sized = subst P (sym long) (is.2, is.3) in
    record { short = is.0; magic = is.1; count = sym long; room = sized.0; records = archs_of-places bytes; slices = sized.1 }

-- a fat file is accepted, and shows its slices
pub fat_only : (bytes : List ℕ) (archs : List FatArch) → IsFatFile bytes archs → (table_fault bytes ≡ None) × (archs_of bytes ≡ archs)
fat_only bytes archs is =
    let same : archs_of bytes ≡ archs = archs_of-only bytes archs is.count is.records in
    let P : ℕ → Type 0 = λ n. table_end n ≤ length bytes in
    let S : ℕ → Type 0 = λ n. AreSlices (length bytes) (table_end n) archs in
    let A : List FatArch → Type 0 = λ l. AreSlices (length bytes) (table_end (nfat_arch_of bytes)) l in
    let slices = subst A (sym same) (subst S (sym is.count) is.slices) in
    (table_fault-none bytes is.short is.magic (subst P (sym is.count) is.room) slices, same)
