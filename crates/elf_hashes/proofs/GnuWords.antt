-- The words of hashed symbols, and where the first of them stands.
use Rattle.std.proofs.Common.{◌≡◌, ℕ, zero, suc, ◌+◌, ◌-◌, ◌*◌, ◌/◌, ◌%◌, ◌^◌, ◌<◌, ◌≤◌, List, [], ◌∷◌, ◌++◌, length, drop, get_or, Bool, true, false, refl, sym, ap, ◌∙◌, Option, Some, None, arith}
use Rattle.std.specs.Prelude.{if◌then◌else◌, fold, is_some, option_map, slice_get}
use Rattle.std.proofs.Math.Nat.{mod-lt}
use Rattle.std.proofs.lemmas.Bool.{false≢true, true≢false}
use Rattle.std.proofs.lemmas.List.{append_assoc, append-nil, drop-map, drop_all}
use Rattle.std.proofs.lemmas.Option.{none-some, same_Some}
use Rattle.elf_format.specs.Hashes.{gnu_hash}
use Rattle.elf_hashes.specs.Buckets.{AreBucketed, in_buckets}
use Rattle.elf_hashes.specs.Gnu.{ends, first_hashed, gnu_words, word_of}
use Rattle.elf_hashes.proofs.ChainSteps.{hash-at}

-- ## A word

-- the lowest bit of a word says whether it is the last, and the others are those of the hash
abbrev pub bit-for : Bool → ℕ
bit-for last = if last then 1 else 0

word_with : ℕ → Bool → ℕ
word_with hash last = hash - hash % 2 + bit-for last

with-bit : (hash : ℕ) (last : Bool) → word_with hash last % 2 ≡ bit-for last
unfolding word_with
with-bit hash true = omega arith
with-bit hash false = omega arith

with-hash : (hash : ℕ) (last : Bool) → word_with hash last / 2 ≡ hash / 2
unfolding word_with
with-hash hash true = omega arith
with-hash hash false = omega arith

with-below : (hash : ℕ) (last : Bool) → hash < 2 ^ 32 → word_with hash last < 2 ^ 32
unfolding word_with
with-below hash true below = omega (arith, below)
with-below hash false below = omega (arith, below)

last-false : (last : Bool) → bit-for last ≡ 0 → last ≡ false
last-false true h = absurd (omega (arith, h))
last-false false h = refl

pub word-bit : (buckets hash : ℕ) (behind : List (Option ℕ)) (last : Bool) → ends (hash % buckets) (in_buckets buckets behind) ≡ last
    → word_of buckets hash behind % 2 ≡ bit-for last
unfolding word_with
word-bit buckets hash behind last is =
    with-bit hash (ends (hash % buckets) (in_buckets buckets behind)) ∙ ap bit-for is

pub word-even : (buckets hash : ℕ) (behind : List (Option ℕ)) → word_of buckets hash behind % 2 ≡ 0 → ends (hash % buckets) (in_buckets buckets behind) ≡ false
unfolding word_with
word-even buckets hash behind even =
    last-false (ends (hash % buckets) (in_buckets buckets behind)) (sym (with-bit hash (ends (hash % buckets) (in_buckets buckets behind))) ∙ even)

pub word-hash : (buckets hash : ℕ) (behind : List (Option ℕ)) → word_of buckets hash behind / 2 ≡ hash / 2
unfolding word_with
word-hash buckets hash behind = with-hash hash (ends (hash % buckets) (in_buckets buckets behind))

pub word-below : (buckets hash : ℕ) (behind : List (Option ℕ)) → hash < 2 ^ 32 → word_of buckets hash behind < 2 ^ 32
unfolding word_with
word-below buckets hash behind below = with-below hash (ends (hash % buckets) (in_buckets buckets behind)) below

-- ## A hash has 32 bits

folded-below : (hash : ℕ) (name : List ℕ) → hash < 2 ^ 32 → fold (λ h byte. (h * 33 + byte) % 2 ^ 32) hash name < 2 ^ 32
folded-below hash [] below = below
folded-below hash (byte ∷ name) below = folded-below ((hash * 33 + byte) % 2 ^ 32) name (mod-lt (hash * 33 + byte) (omega arith))

pub gnu_hash-below : (name : List ℕ) → gnu_hash name < 2 ^ 32
unfolding gnu_hash
gnu_hash-below name = folded-below 5381 name (omega arith)

-- ## The words of a table

pub first_hashed-within : (hashes : List (Option ℕ)) → first_hashed hashes ≤ length hashes
unfolding first_hashed
first_hashed-within [] = omega arith
first_hashed-within (None ∷ hashes) = omega (arith, first_hashed-within hashes)
first_hashed-within (Some hash ∷ hashes) = omega arith

bucketed-rest : (x : Option ℕ) (xs : List (Option ℕ)) → AreBucketed (x ∷ xs) → AreBucketed xs
bucketed-rest x xs h i j b less inside at = h (suc i) (suc j) b (omega (arith, less)) (omega (arith, inside)) at

-- behind a symbol in a bucket stands one in a bucket, if any
first-next : (buckets h : ℕ) (hashes : List (Option ℕ)) → AreBucketed (in_buckets buckets (Some h ∷ hashes)) → first_hashed hashes ≡ 0
unfolding first_hashed
first-next buckets h [] bucketed = refl
first-next buckets h (Some g ∷ hashes) bucketed = refl
first-next buckets h (None ∷ hashes) bucketed =
    let (c, at, above) = bucketed 0 1 (h % buckets) (omega arith) (omega arith) refl in
    absurd (none-some c (same_Some None (Some c) at))

-- the word of a symbol with a hash
pub word_at : (buckets : ℕ) (hashes : List (Option ℕ)) (i hash : ℕ) → AreBucketed (in_buckets buckets hashes) → slice_get hashes i ≡ Some (Some hash)
    → (first_hashed hashes ≤ i) × (slice_get (gnu_words buckets hashes) (i - first_hashed hashes) ≡ Some (word_of buckets hash (drop (suc i) hashes)))
unfolding first_hashed gnu_words
word_at buckets [] i hash bucketed at = absurd (none-some (Some hash) at)
word_at buckets (None ∷ hashes) zero hash bucketed at = absurd (none-some hash (same_Some None (Some hash) at))
word_at buckets (None ∷ hashes) (suc i) hash bucketed at =
    let (within, there) = word_at buckets hashes i hash (bucketed-rest None (in_buckets buckets hashes) bucketed) at in
    let place : suc i - (1 + first_hashed hashes) ≡ i - first_hashed hashes = omega arith in
    (omega (arith, within), ap (slice_get (gnu_words buckets hashes)) place ∙ there)
word_at buckets (Some h ∷ hashes) zero hash bucketed at =
    let same : h ≡ hash = same_Some h hash (same_Some (Some h) (Some hash) at) in
    (omega arith, ap (λ (n : ℕ). Some (word_of buckets n hashes)) same)
word_at buckets (Some h ∷ hashes) (suc i) hash bucketed at =
    let first : first_hashed hashes ≡ 0 = first-next buckets h hashes bucketed in
    let (within, there) = word_at buckets hashes i hash (bucketed-rest (Some (h % buckets)) (in_buckets buckets hashes) bucketed) at in
    let place : suc i - 0 ≡ suc i = omega arith in
    let back : i ≡ i - first_hashed hashes = omega (arith, first) in
    (omega arith, ap (slice_get (gnu_words buckets (Some h ∷ hashes))) place ∙ ap (slice_get (gnu_words buckets hashes)) back ∙ there)

-- where the buckets of those behind a symbol stand
pub behind-buckets : (buckets n : ℕ) (hashes : List (Option ℕ)) → drop n (in_buckets buckets hashes) ≡ in_buckets buckets (drop n hashes)
behind-buckets buckets n hashes = drop-map (option_map (λ (h : ℕ). h % buckets)) n hashes

-- ## Step by step

pub first-none : (hashes : List (Option ℕ)) (i : ℕ) → i < length hashes → is_some (get_or hashes i None) ≡ false → i + first_hashed (drop i hashes) ≡ first_hashed hashes
    → i + 1 + first_hashed (drop (i + 1) hashes) ≡ first_hashed hashes
unfolding first_hashed
first-none hashes i inside none before = by_hash (get_or hashes i None) refl none
  where
    by_hash : (o : Option ℕ) → get_or hashes i None ≡ o → is_some o ≡ false → i + 1 + first_hashed (drop (i + 1) hashes) ≡ first_hashed hashes
    by_hash None at is =
        let one : first_hashed (drop i hashes) ≡ 1 + first_hashed (drop (i + 1) hashes) = ap first_hashed (hash-at hashes i None inside at) in
        omega (arith, before, one)
    by_hash (Some hash) at is = absurd (true≢false is)

pub first-some : (hashes : List (Option ℕ)) (i : ℕ) → i < length hashes → is_some (get_or hashes i None) ≡ true → i + first_hashed (drop i hashes) ≡ first_hashed hashes
    → i ≡ first_hashed hashes
unfolding first_hashed
first-some hashes i inside some before = by_hash (get_or hashes i None) refl some
  where
    by_hash : (o : Option ℕ) → get_or hashes i None ≡ o → is_some o ≡ true → i ≡ first_hashed hashes
    by_hash None at is = absurd (false≢true is)
    by_hash (Some hash) at is =
        let none : first_hashed (drop i hashes) ≡ 0 = ap first_hashed (hash-at hashes i (Some hash) inside at) in
        omega (arith, before, none)

pub first-end : (hashes : List (Option ℕ)) (i : ℕ) → i ≡ length hashes → i + first_hashed (drop i hashes) ≡ first_hashed hashes → length hashes ≡ first_hashed hashes
unfolding first_hashed
first-end hashes i all before =
    let none : first_hashed (drop i hashes) ≡ 0 = ap first_hashed (drop_all i hashes (omega (arith, all))) in
    omega (arith, before, none, all)

pub words-none : (buckets : ℕ) (hashes : List (Option ℕ)) (made : List ℕ) (i : ℕ) → i < length hashes → get_or hashes i None ≡ None
    → made ++ gnu_words buckets (drop i hashes) ≡ gnu_words buckets hashes → made ++ gnu_words buckets (drop (i + 1) hashes) ≡ gnu_words buckets hashes
unfolding gnu_words
words-none buckets hashes made i inside at before =
    ap (λ l. made ++ gnu_words buckets l) (sym (hash-at hashes i None inside at)) ∙ before

pub words-some : (buckets : ℕ) (hashes : List (Option ℕ)) (made now : List ℕ) (i hash word : ℕ) → i < length hashes → get_or hashes i None ≡ Some hash
    → word ≡ word_of buckets hash (drop (i + 1) hashes) → now ≡ made ++ word ∷ []
    → made ++ gnu_words buckets (drop i hashes) ≡ gnu_words buckets hashes → now ++ gnu_words buckets (drop (i + 1) hashes) ≡ gnu_words buckets hashes
unfolding gnu_words
words-some buckets hashes made now i hash word inside at is step before =
    let rest : List ℕ = gnu_words buckets (drop (i + 1) hashes) in
    ap (λ l. l ++ rest) step ∙ append_assoc made (word ∷ []) rest ∙ ap (λ (w : ℕ). made ++ w ∷ rest) is
    ∙ ap (λ l. made ++ gnu_words buckets l) (sym (hash-at hashes i (Some hash) inside at)) ∙ before

pub words-end : (buckets : ℕ) (hashes : List (Option ℕ)) (made : List ℕ) (i : ℕ) → length hashes ≤ i
    → made ++ gnu_words buckets (drop i hashes) ≡ gnu_words buckets hashes → made ≡ gnu_words buckets hashes
unfolding gnu_words
words-end buckets hashes made i all before =
    sym (append-nil made) ∙ ap (λ l. made ++ gnu_words buckets l) (sym (drop_all i hashes all)) ∙ before
