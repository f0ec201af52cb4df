-- One more symbol is chained, or its bits are set, from the last one on.
use Rattle.std.proofs.Common.{◌≡◌, ℕ, ◌+◌, ◌/◌, ◌%◌, ◌<◌, List, [], ◌∷◌, length, drop, get_or, set, map, replicate, Bool, sym, ap, ◌∙◌, subst, inl, inr, Option, Some, None, arith}
use Rattle.std.specs.Prelude.{bit_or, if◌then◌else◌, option_map, slice_index}
use Rattle.std.proofs.lemmas.Bool.{cases_eq, eq-eqb, ne_eqb}
use Rattle.std.proofs.lemmas.List.{drop-map, drop-set, drop_all, drop_more, get_or-replicate, get_or-set_other, get_or-set_same, length-map, length-set}
use Rattle.elf_format.specs.declared.form.Form.{Form}
use Rattle.elf_format.specs.Hashes.{filter_bits}
use Rattle.elf_hashes.specs.declared.gnu.GnuSizes.{GnuSizes}
use Rattle.elf_hashes.specs.Buckets.{chains, heads, in_buckets, next_in}
use Rattle.elf_hashes.specs.Gnu.{bits_of, filter_word_of, filter_words_of}
use Rattle.elf_hashes.specs.Steps.{AreBitsSet, AreChained}
use Rattle.elf_hashes.proofs.ListLaws.{mapped_by_all}

-- the hash of a symbol, with those behind it
pub hash-at : (hashes : List (Option ℕ)) (i : ℕ) (o : Option ℕ) → i < length hashes → get_or hashes i None ≡ o → drop i hashes ≡ o ∷ drop (i + 1) hashes
hash-at hashes i o inside at = drop_more hashes i None inside ∙ ap (λ v. v ∷ drop (i + 1) hashes) at

-- the bucket of a symbol, with those of the symbols behind it
bucket-at : (n : ℕ) (hashes : List (Option ℕ)) (i : ℕ) (o : Option ℕ) → i < length hashes → get_or hashes i None ≡ o
    → drop i (in_buckets n hashes) ≡ option_map (λ (h : ℕ). h % n) o ∷ drop (i + 1) (in_buckets n hashes)
bucket-at n hashes i o inside at =
    let bucket : Option ℕ → Option ℕ = option_map (λ (h : ℕ). h % n) in
    drop-map bucket i hashes ∙ ap (map bucket) (hash-at hashes i o inside at)
    ∙ ap (λ l. bucket o ∷ l) (sym (drop-map bucket (i + 1) hashes))

-- ## A symbol without a hash

pub chained-none : (i : ℕ) (hashes : List (Option ℕ)) (firsts nexts : List ℕ) → i < length hashes → get_or hashes i None ≡ None
    → AreChained (i + 1) hashes firsts nexts → AreChained i hashes firsts (set nexts i 0)
unfolding next_in chains
chained-none i hashes firsts nexts inside at behind =
    let n : ℕ = length firsts in
    let here = bucket-at n hashes i None inside at in
    record {
      long = length-set nexts i 0 ∙ behind.long;
      heads = λ b below. behind.heads b below ∙ ap (next_in b i) (sym here);
      entries =
          drop-set nexts i 0 (omega (arith, inside, behind.long))
          ∙ ap (λ l. 0 ∷ l) behind.entries ∙ ap (chains i) (sym here);
    }

-- ## One with a hash

heads-some : (i b c : ℕ) (firsts : List ℕ) (xs : List (Option ℕ)) → c < length firsts → slice_index firsts b ≡ next_in b (i + 1) xs
    → slice_index (set firsts c i) b ≡ next_in b i (Some c ∷ xs)
unfolding next_in
heads-some i b c firsts xs below before = elim (cases_eq b c) [
  | inl same ↦
      ap (slice_index (set firsts c i)) same ∙ get_or-set_same firsts c i 0 below
      ∙ sym (ap (λ (t : Bool). if t then i else next_in b (i + 1) xs) (eq-eqb c b (sym same)))
  | inr other ↦
      get_or-set_other firsts c b i 0 other ∙ before
      ∙ sym (ap (λ (t : Bool). if t then i else next_in b (i + 1) xs) (ne_eqb c b (λ same. other (sym same))))
]

pub chained-some : (i hash : ℕ) (hashes : List (Option ℕ)) (firsts nexts now : List ℕ) → i < length hashes → get_or hashes i None ≡ Some hash
    → hash % length firsts < length firsts → now ≡ set firsts (hash % length firsts) i
    → AreChained (i + 1) hashes firsts nexts → AreChained i hashes now (set nexts i (slice_index firsts (hash % length firsts)))
unfolding chains
chained-some i hash hashes firsts nexts now inside at below is behind =
    let n : ℕ = length firsts in
    let c : ℕ = hash % n in
    let xs : List (Option ℕ) = drop (i + 1) (in_buckets n hashes) in
    let here : drop i (in_buckets n hashes) ≡ Some c ∷ xs = bucket-at n hashes i (Some hash) inside at in
    let Made : List ℕ → Type 0 = λ l. AreChained i hashes l (set nexts i (slice_index firsts c)) in
    let long : n ≡ length (set firsts c i) = sym (length-set firsts c i) in
    let Heads : ℕ → Type 0 = λ m. (b : ℕ) → b < m → slice_index (set firsts c i) b ≡ next_in b i (drop i (in_buckets m hashes)) in
    let Entries : ℕ → Type 0 = λ m. drop i (set nexts i (slice_index firsts c)) ≡ chains i (drop i (in_buckets m hashes)) in
    let heads : Heads n = λ b less. heads-some i b c firsts xs below (behind.heads b less) ∙ ap (next_in b i) (sym here) in
    let entries : Entries n =
    drop-set nexts i (slice_index firsts c) (omega (arith, inside, behind.long))
    ∙ ap (λ (v : ℕ). v ∷ drop (i + 1) nexts) (behind.heads c below)
    ∙ ap (λ l. next_in c (i + 1) xs ∷ l) behind.entries ∙ ap (chains i) (sym here) in
    subst Made (sym is)
    (record { long = length-set nexts i (slice_index firsts c) ∙ behind.long; heads = subst Heads long heads; entries = subst Entries long entries })

-- ## Begin and end

pub chained-begin : (hashes : List (Option ℕ)) (firsts nexts : List ℕ) → length nexts ≡ length hashes → firsts ≡ replicate (length firsts) 0
    → AreChained (length hashes) hashes firsts nexts
unfolding next_in chains
chained-begin hashes firsts nexts long zeros =
    let n : ℕ = length firsts in
    let none : drop (length hashes) (in_buckets n hashes) ≡ [] =
    drop_all (length hashes) (in_buckets n hashes) (omega (arith, length-map hashes (option_map (λ (h : ℕ). h % n)))) in
    record {
      long = long;
      heads = λ b below.
          ap (λ l. slice_index l b) zeros ∙ get_or-replicate n b 0 0 below
          ∙ sym (ap (next_in b (length hashes)) none);
      entries = drop_all (length hashes) nexts (omega (arith, long)) ∙ sym (ap (chains (length hashes)) none);
    }

pub chained-heads : (n : ℕ) (hashes : List (Option ℕ)) (firsts nexts : List ℕ) → length firsts ≡ n → AreChained 0 hashes firsts nexts → firsts ≡ heads n (in_buckets n hashes)
chained-heads n hashes firsts nexts long made =
    let Heads : ℕ → Type 0 = λ m. (b : ℕ) → b < m → slice_index firsts b ≡ next_in b 0 (in_buckets m hashes) in
    mapped_by_all (λ bucket. next_in bucket 0 (in_buckets n hashes)) firsts n 0 long (subst Heads long made.heads)

pub chained-entries : (n : ℕ) (hashes : List (Option ℕ)) (firsts nexts : List ℕ) → length firsts ≡ n → AreChained 0 hashes firsts nexts → nexts ≡ chains 0 (in_buckets n hashes)
chained-entries n hashes firsts nexts long made = made.entries ∙ ap (λ (m : ℕ). chains 0 (in_buckets m hashes)) long

-- ## Bits

pub bits-none : (form : Form) (sizes : GnuSizes) (i : ℕ) (hashes : List (Option ℕ)) (filter : List ℕ) → i < length hashes → get_or hashes i None ≡ None
    → AreBitsSet form sizes (i + 1) hashes filter → AreBitsSet form sizes i hashes filter
unfolding filter_word_of
bits-none form sizes i hashes filter inside at behind k below =
    behind k below ∙ ap (filter_word_of form sizes k) (sym (hash-at hashes i None inside at))

bits-one : (form : Form) (sizes : GnuSizes) (hash c k : ℕ) (hashes : List (Option ℕ)) (filter : List ℕ) → c < length filter
    → hash / filter_bits form % sizes.filter_words ≡ c → slice_index filter k ≡ filter_word_of form sizes k hashes
    → slice_index (set filter c (bit_or (slice_index filter c) (bits_of form sizes.filter_shift hash))) k ≡ filter_word_of form sizes k (Some hash ∷ hashes)
unfolding filter_word_of
bits-one form sizes hash c k hashes filter below named before =
    let word : ℕ = bit_or (slice_index filter c) (bits_of form sizes.filter_shift hash) in
    let others : ℕ = filter_word_of form sizes k hashes in
    let all : ℕ = bit_or others (bits_of form sizes.filter_shift hash) in
    elim (cases_eq k c) [
      | inl same ↦
          ap (slice_index (set filter c word)) same ∙ get_or-set_same filter c word 0 below
          ∙ ap (λ (v : ℕ). bit_or v (bits_of form sizes.filter_shift hash)) (ap (slice_index filter) (sym same) ∙ before)
          ∙ sym (ap (λ (t : Bool). if t then all else others) (eq-eqb (hash / filter_bits form % sizes.filter_words) k (named ∙ sym same)))
      | inr other ↦
          get_or-set_other filter c k word 0 other ∙ before
          ∙ sym (ap (λ (t : Bool). if t then all else others) (ne_eqb (hash / filter_bits form % sizes.filter_words) k (λ same. other (sym same ∙ named))))
    ]

pub bits-some : (form : Form) (sizes : GnuSizes) (i hash c : ℕ) (hashes : List (Option ℕ)) (filter now : List ℕ) → i < length hashes → get_or hashes i None ≡ Some hash
    → c < length filter → hash / filter_bits form % sizes.filter_words ≡ c
    → now ≡ set filter c (bit_or (slice_index filter c) (bits_of form sizes.filter_shift hash))
    → AreBitsSet form sizes (i + 1) hashes filter → AreBitsSet form sizes i hashes now
bits-some form sizes i hash c hashes filter now inside at below named is behind k less =
    let word : ℕ = bit_or (slice_index filter c) (bits_of form sizes.filter_shift hash) in
    let within : k < length filter = omega (arith, less, ap length is, length-set filter c word) in
    ap (λ l. slice_index l k) is
    ∙ bits-one form sizes hash c k (drop (i + 1) hashes) filter below named (behind k within)
    ∙ ap (filter_word_of form sizes k) (sym (hash-at hashes i (Some hash) inside at))

pub bits-begin : (form : Form) (sizes : GnuSizes) (hashes : List (Option ℕ)) (filter : List ℕ) → filter ≡ replicate (length filter) 0 → AreBitsSet form sizes (length hashes) hashes filter
unfolding filter_word_of
bits-begin form sizes hashes filter zeros k below =
    ap (λ l. slice_index l k) zeros ∙ get_or-replicate (length filter) k 0 0 below
    ∙ sym (ap (filter_word_of form sizes k) (drop_all (length hashes) hashes (omega arith)))

pub bits-all : (form : Form) (sizes : GnuSizes) (hashes : List (Option ℕ)) (filter : List ℕ) → length filter ≡ sizes.filter_words → AreBitsSet form sizes 0 hashes filter
    → filter ≡ filter_words_of form sizes hashes
bits-all form sizes hashes filter long made =
    mapped_by_all (λ k. filter_word_of form sizes k hashes) filter sizes.filter_words 0 long (λ k below. made k (omega (arith, below, long)))
