-- The words of the filter: how large they are, and that they have the bits of each hash.
use Rattle.std.proofs.Common.{◌≡◌, ℕ, zero, suc, ◌/◌, ◌%◌, ◌^◌, ◌<◌, List, [], ◌∷◌, map, Bool, true, false, sym, ap, ◌∙◌, subst, Option, Some, None, arith}
use Rattle.std.specs.Prelude.{◌==◌, IsTrue, if◌then◌else◌, bit_or, slice_get}
use Rattle.std.specs.List.{All}
use Rattle.std.specs.Int.{bit_at}
use Rattle.std.proofs.Math.Nat.{mod-lt}
use Rattle.std.proofs.lemmas.Bool.{eq-eqb, lt-ltb}
use Rattle.std.proofs.lemmas.List.Elements.{All-cons, All-nil, All-same}
use Rattle.std.proofs.lemmas.Nat.{or_lt, pow_below, pow_pos}
use Rattle.std.proofs.lemmas.Nat.Bits.{bit_at-lt, bit_at-pow_same, bit_at_or}
use Rattle.std.proofs.lemmas.Option.{none-some, same_Some}
use Rattle.patch_bytes.specs.declared.number.Wide.{Wide}
use Rattle.patch_bytes.specs.declared.number.Wide.TheVariants.{W32, W64}
use Rattle.patch_bytes.specs.Number.{word_size}
use Rattle.elf_format.specs.declared.form.Form.{Form}
use Rattle.elf_format.specs.Form.{by_class}
use Rattle.elf_format.specs.Hashes.{filter_bits}
use Rattle.elf_format.specs.Image.{counted}
use Rattle.elf_tables.specs.Fields.{does_field_fit}
use Rattle.elf_tables.specs.Spelled.{class_word}
use Rattle.elf_hashes.specs.declared.gnu.GnuSizes.{GnuSizes}
use Rattle.elf_hashes.specs.Gnu.{bits_of, filter_word_of, filter_words_of}

pub filter_bits-pos : (form : Form) → 0 < filter_bits form
filter_bits-pos form = by_wide form.wide
  where
    by_wide : (wide : Wide) → 0 < by_class wide 32 64
    by_wide W32 = omega arith
    by_wide W64 = omega arith

-- ## How large they are

bits-below : (form : Form) (shift hash : ℕ) → bits_of form shift hash < 2 ^ filter_bits form
bits-below form shift hash =
    let n : ℕ = filter_bits form in
    or_lt n (2 ^ (hash % n)) (2 ^ (hash / 2 ^ shift % n)) (pow_below (hash % n) n (mod-lt hash (filter_bits-pos form)))
    (pow_below (hash / 2 ^ shift % n) n (mod-lt (hash / 2 ^ shift) (filter_bits-pos form)))

pub word-below : (form : Form) (sizes : GnuSizes) (k : ℕ) (hashes : List (Option ℕ)) → filter_word_of form sizes k hashes < 2 ^ filter_bits form
unfolding filter_word_of
word-below form sizes k [] = pow_pos (filter_bits form)
word-below form sizes k (None ∷ hashes) = word-below form sizes k hashes
word-below form sizes k (Some hash ∷ hashes) = by_test (hash / filter_bits form % sizes.filter_words == k) (word-below form sizes k hashes)
  where
    by_test : (t : Bool) → filter_word_of form sizes k hashes < 2 ^ filter_bits form
        → (if t then bit_or (filter_word_of form sizes k hashes) (bits_of form sizes.filter_shift hash) else filter_word_of form sizes k hashes) < 2 ^ filter_bits form
    by_test true below = or_lt (filter_bits form) (filter_word_of form sizes k hashes) (bits_of form sizes.filter_shift hash) below (bits-below form sizes.filter_shift hash)
    by_test false below = below

-- the words of the filter fit a word of the class
pub word-fits : (form : Form) (sizes : GnuSizes) (k : ℕ) (hashes : List (Option ℕ)) → filter_word_of form sizes k hashes < 256 ^ word_size form.wide
word-fits form sizes k hashes = by_wide form.wide (filter_word_of form sizes k hashes) (word-below form sizes k hashes)
  where
    by_wide : (wide : Wide) (word : ℕ) → word < 2 ^ by_class wide 32 64 → word < 256 ^ word_size wide
    by_wide W32 word below = below
    by_wide W64 word below = below

-- ## What bits they have

set_left : (a b i : ℕ) → bit_at a i ≡ 1 → bit_at (bit_or a b) i ≡ 1
set_left a b i set = bit_at_or a b i ∙ omega (arith, set, bit_at-lt b i)

set_right : (a b i : ℕ) → bit_at b i ≡ 1 → bit_at (bit_or a b) i ≡ 1
set_right a b i set = bit_at_or a b i ∙ omega (arith, set, bit_at-lt a i)

-- both bits of a hash are set
pub record HasBits (form : Form) (shift hash word : ℕ) : Type 0 where
  pub first : bit_at word (hash % filter_bits form) ≡ 1
  pub second : bit_at word (hash / 2 ^ shift % filter_bits form) ≡ 1

bits-set : (form : Form) (shift hash others : ℕ) → HasBits form shift hash (bit_or others (bits_of form shift hash))
bits-set form shift hash others =
    let i : ℕ = hash % filter_bits form in
    let j : ℕ = hash / 2 ^ shift % filter_bits form in
    record {
      first = set_right others (bit_or (2 ^ i) (2 ^ j)) i (set_left (2 ^ i) (2 ^ j) i (bit_at-pow_same i));
      second = set_right others (bit_or (2 ^ i) (2 ^ j)) j (set_right (2 ^ i) (2 ^ j) j (bit_at-pow_same j));
    }

-- more bits leave the bits of a hash set
bits-stay : (form : Form) (shift hash word more : ℕ) → HasBits form shift hash word → HasBits form shift hash (bit_or word more)
bits-stay form shift hash word more has =
    record {
      first = set_left word more (hash % filter_bits form) has.first;
      second = set_left word more (hash / 2 ^ shift % filter_bits form) has.second;
    }

-- the word that a hash names has its bits
pub bits-there : (form : Form) (sizes : GnuSizes) (hashes : List (Option ℕ)) (i hash : ℕ) → slice_get hashes i ≡ Some (Some hash)
    → HasBits form sizes.filter_shift hash (filter_word_of form sizes (hash / filter_bits form % sizes.filter_words) hashes)
unfolding filter_word_of
bits-there form sizes [] i hash at = absurd (none-some (Some hash) at)
bits-there form sizes (None ∷ hashes) zero hash at = absurd (none-some hash (same_Some None (Some hash) at))
bits-there form sizes (None ∷ hashes) (suc i) hash at = bits-there form sizes hashes i hash at
bits-there form sizes (Some h ∷ hashes) zero hash at =
    let same : hash ≡ h = sym (same_Some h hash (same_Some (Some h) (Some hash) at)) in
    let k : ℕ = hash / filter_bits form % sizes.filter_words in
    let named : (h / filter_bits form % sizes.filter_words == k) ≡ true = eq-eqb (h / filter_bits form % sizes.filter_words) k (ap (λ (n : ℕ). n / filter_bits form % sizes.filter_words) (sym same)) in
    let others : ℕ = filter_word_of form sizes k hashes in
    let Has : Bool → Type 0 = λ t. HasBits form sizes.filter_shift hash (if t then bit_or others (bits_of form sizes.filter_shift h) else others) in
    let Own : ℕ → Type 0 = λ n. HasBits form sizes.filter_shift hash (bit_or others (bits_of form sizes.filter_shift n)) in
    subst Has (sym named) (subst Own same (bits-set form sizes.filter_shift hash others))
bits-there form sizes (Some h ∷ hashes) (suc i) hash at =
    by_test (h / filter_bits form % sizes.filter_words == hash / filter_bits form % sizes.filter_words) (bits-there form sizes hashes i hash at)
  where
    by_test : (t : Bool) → (let others = filter_word_of form sizes (hash / filter_bits form % sizes.filter_words) hashes in HasBits form sizes.filter_shift hash others)
        → let others = filter_word_of form sizes (hash / filter_bits form % sizes.filter_words) hashes in
        HasBits form sizes.filter_shift hash (if t then bit_or others (bits_of form sizes.filter_shift h) else others)
    by_test true has =
        bits-stay form sizes.filter_shift hash (filter_word_of form sizes (hash / filter_bits form % sizes.filter_words) hashes) (bits_of form sizes.filter_shift h) has
    by_test false has = has

-- all words fit
pub all-fit : (form : Form) (sizes : GnuSizes) (hashes : List (Option ℕ)) (filter : List ℕ) → filter ≡ filter_words_of form sizes hashes
    → All (λ word. IsTrue (does_field_fit (class_word form word))) filter
all-fit form sizes hashes filter is =
    All-same (λ word. IsTrue (does_field_fit (class_word form word))) filter (filter_words_of form sizes hashes) is (mapped (counted sizes.filter_words))
  where
    mapped : (ks : List ℕ) → All (λ word. IsTrue (does_field_fit (class_word form word))) (map (λ k. filter_word_of form sizes k hashes) ks)
    mapped [] = All-nil (λ word. IsTrue (does_field_fit (class_word form word)))
    mapped (k ∷ ks) =
        All-cons (λ word. IsTrue (does_field_fit (class_word form word))) (filter_word_of form sizes k hashes) (map (λ i. filter_word_of form sizes i hashes) ks)
        (lt-ltb (filter_word_of form sizes k hashes) (256 ^ word_size form.wide) (word-fits form sizes k hashes)) (mapped ks)
