-- Reading bytes one part after another.
use Rattle.std.proofs.Common.{◌≡◌, ◌≤◌, ◌<◌, ◌+◌, ℕ, List, ◌++◌, length, take, drop, sym, ap, ◌∙◌, arith, Option}
use Rattle.std.proofs.lemmas.List.{length-take, length-take-le, take_all, take_at}
use Rattle.byte_store.specs.Known.{EndsWithin, HasLength, IsAll, IsFirst, IsFront, KeepsFront, ReadsInto, Stays}
use Rattle.byte_store.proofs.PutLaws.{take_sum}

-- a buffer that was filled behind what it had
pub filled_up : (old room now new : List ℕ) (filled count : ℕ) → take filled room ≡ old → take filled now ≡ take filled room → new ≡ take (filled + count) now → new ≡ old ++ take count (drop filled now)
filled_up old room now new filled count front same is =
    is ∙ sym (take_sum filled count now) ∙ ap (λ (xs : List ℕ). xs ++ take count (drop filled now)) (same ∙ front)

-- with the next bytes of a store
pub front_more : (known : Option (List ℕ)) (old room now new : List ℕ) (filled count : ℕ) → filled ≡ length old → filled + count ≤ length now → take filled room ≡ old → take filled now ≡ take filled room → new ≡ take (filled + count) now → ReadsInto count filled known now → KeepsFront known old new
front_more known old room now new filled count long fits front same is reads all knows before =
    let len : length new ≡ filled + count = ap length is ∙ length-take-le (filled + count) now fits in
    filled_up old room now new filled count front same is
    ∙ ap (λ (xs : List ℕ). old ++ xs) (reads all knows).0
    ∙ ap (λ (xs : List ℕ). xs ++ take count (drop filled all)) (before ∙ ap (λ (k : ℕ). take k all) (sym long))
    ∙ take_sum filled count all
    ∙ ap (λ (k : ℕ). take k all) (sym len)

-- at the end, or at the bound
pub first_at_end : (most : ℕ) (old mid : Option (List ℕ)) (before bytes : List ℕ) → Stays old mid → length bytes ≤ most → IsFront old before → KeepsFront mid before bytes → EndsWithin mid (length bytes) → IsFirst most old bytes
first_at_end most old mid before bytes kept bound front keeps end all knows =
    let last : length all ≤ length bytes = end all (kept ∙ knows) in
    keeps all (kept ∙ knows) (front all knows) ∙ take_all (length bytes) all last ∙ sym (take_all most all (omega arith))

pub whole_first : (most : ℕ) (known : Option (List ℕ)) (bytes : List ℕ) → length bytes ≤ most → IsFirst (most + 1) known bytes → IsAll known bytes
whole_first most known bytes bound first all knows =
    let len : length bytes ≡ length (take (most + 1) all) = ap length (first all knows) in
    first all knows ∙ take_all (most + 1) all (omega (arith, length-take (most + 1) all))

-- what a buffer holds after it was lent whole
pub lent_back : (len : ℕ) (now old : List ℕ) → length now ≡ len → take len (now ++ drop (length now) old) ≡ now
lent_back len now old is = take_at now (drop (length now) old) len is

-- fewer than the bound are all
pub all_first : (most : ℕ) (known : Option (List ℕ)) (bytes : List ℕ) → length bytes < most → IsFirst most known bytes → IsAll known bytes
all_first most known bytes below first all knows =
    let len : length bytes ≡ length (take most all) = ap length (first all knows) in
    first all knows ∙ take_all most all (omega (arith, length-take most all))

-- bytes that are all of a store's tell its length
pub all_length : (old new : Option (List ℕ)) (bytes : List ℕ) (n : ℕ) → n ≡ length bytes → Stays old new → IsAll old bytes → HasLength new n
all_length old new bytes n is kept whole all knows = ap length (sym (whole all (sym kept ∙ knows))) ∙ sym is

-- read after other calls
pub first_from : (most : ℕ) (old mid : Option (List ℕ)) (bytes : List ℕ) → Stays old mid → IsFirst most mid bytes → IsFirst most old bytes
first_from most old mid bytes kept first all knows = first all (kept ∙ knows)
