-- Look-ups in the GNU table, in every memory that keeps the table.
use Rattle.std.proofs.Common.{◌≡◌, ◌≢◌, ℕ, suc, ◌+◌, ◌-◌, ◌*◌, ◌/◌, ◌%◌, ◌^◌, ◌<◌, ◌≤◌, List, [], ◌++◌, length, drop, map, true, false, refl, sym, ap, ◌∙◌, subst, inl, inr, Option, Some, arith}
use Rattle.std.specs.Prelude.{slice_get}
use Rattle.std.proofs.Math.Nat.{mod-lt}
use Rattle.std.proofs.lemmas.Bool.{cases_lt}
use Rattle.std.proofs.lemmas.List.{append_assoc, append-nil, drop_all, length-append}
use Rattle.std.proofs.lemmas.Option.{same_Some, slice_get_within}
use Rattle.patch_bytes.specs.Memory.{Memory, number_in}
use Rattle.patch_bytes.specs.Number.{word_size}
use Rattle.elf_format.specs.declared.form.Form.{Form}
use Rattle.elf_format.specs.Hashes.{GnuHeader, IsFoundByGnuHash, PassesFilter, filter_bits, filter_word, gnu_bucket, gnu_hash, gnu_header, gnu_word}
use Rattle.elf_format.specs.Views.{NamedSymbol}
use Rattle.elf_tables.specs.Fields.{fields, words}
use Rattle.elf_tables.specs.Spelled.{class_word}
use Rattle.elf_hashes.specs.declared.gnu.GnuSizes.{GnuSizes}
use Rattle.elf_hashes.specs.Buckets.{hashes_of, heads, in_buckets, next_in}
use Rattle.elf_hashes.specs.Found.{IsFoundAt, hashed_names}
use Rattle.elf_hashes.specs.Gnu.{GnuTablesFind, HoldsGnuTable, RunEnds, ends, filter_word_of, filter_words_of, first_hashed, gnu_words, header_of, header_words, word_of}
use Rattle.elf_hashes.proofs.ListLaws.{length-map-counted, slice_get-map-counted}
use Rattle.elf_hashes.proofs.ChainLaws.{next_below, next_is}
use Rattle.elf_hashes.proofs.RunLaws.{run_all, run_only}
use Rattle.elf_hashes.proofs.NameLaws.{bucket_of_name, first_in_none, found_in_bucket, length-buckets, length-hashes, mapped_from, mapped_some, name_of_found}
use Rattle.elf_hashes.proofs.FilterLaws.{bits-there, word-fits}
use Rattle.elf_hashes.proofs.GnuWords.{behind-buckets, first_hashed-within, gnu_hash-below, word-below, word-bit, word-even, word-hash, word_at}
use Rattle.elf_hashes.proofs.WordLaws.{StandIn, length-as_wide, word_held}

abbrev gnu_hashes : List NamedSymbol → List (Option ℕ)
gnu_hashes ys = hashes_of gnu_hash (hashed_names ys)

abbrev stands_in : GnuSizes → List NamedSymbol → List (Option ℕ)
stands_in sizes ys = in_buckets sizes.buckets (gnu_hashes ys)

-- ## The four parts of a table

abbrev pub header_bytes : Form → GnuSizes → List (Option ℕ) → List ℕ
header_bytes form sizes hashes = fields form.order (words (header_words (header_of sizes hashes)))

abbrev pub filter_bytes : Form → GnuSizes → List (Option ℕ) → List ℕ
filter_bytes form sizes hashes = fields form.order (map (class_word form) (filter_words_of form sizes hashes))

abbrev pub heads_bytes : Form → GnuSizes → List (Option ℕ) → List ℕ
heads_bytes form sizes hashes = fields form.order (words (heads sizes.buckets (in_buckets sizes.buckets hashes)))

abbrev pub words_bytes : Form → GnuSizes → List (Option ℕ) → List ℕ
words_bytes form sizes hashes = fields form.order (words (gnu_words sizes.buckets hashes))

three_right : {X : Type 0} (a b c d : List X) → a ++ b ++ c ++ d ≡ a ++ (b ++ (c ++ d))
three_right a b c d = append_assoc (a ++ b) c d ∙ append_assoc a b (c ++ d)

pub length-filter : (form : Form) (sizes : GnuSizes) (hashes : List (Option ℕ)) → length (filter_bytes form sizes hashes) ≡ word_size form.wide * sizes.filter_words
length-filter form sizes hashes =
    length-as_wide form.order (word_size form.wide) (filter_words_of form sizes hashes)
    ∙ ap (λ (n : ℕ). word_size form.wide * n) (length-map-counted (λ k. filter_word_of form sizes k hashes) sizes.filter_words)

pub length-heads : (form : Form) (sizes : GnuSizes) (hashes : List (Option ℕ)) → length (heads_bytes form sizes hashes) ≡ 4 * sizes.buckets
length-heads form sizes hashes =
    length-as_wide form.order 4 (heads sizes.buckets (in_buckets sizes.buckets hashes))
    ∙ ap (λ (n : ℕ). 4 * n) (length-map-counted (λ bucket. next_in bucket 0 (in_buckets sizes.buckets hashes)) sizes.buckets)

pub length-header : (form : Form) (sizes : GnuSizes) (hashes : List (Option ℕ)) → length (header_bytes form sizes hashes) ≡ 16
length-header form sizes hashes = length-as_wide form.order 4 (header_words (header_of sizes hashes))

-- ## In a memory that holds the table

-- A symbol that stands in a bucket has a word: it is the last of its bucket just where the word's lowest bit is 1.
record HasWord (form : Form) (sizes : GnuSizes) (ys : List NamedSymbol) (m : Memory) (i b : ℕ) : Type 0 where
  hash : ℕ
  has_hash : slice_get (gnu_hashes ys) i ≡ Some (Some hash)
  in_bucket : hash % sizes.buckets ≡ b
  is_word : gnu_word form m (header_of sizes (gnu_hashes ys)) i ≡ Some (word_of sizes.buckets hash (drop (suc i) (gnu_hashes ys)))
  same_end : ends (hash % sizes.buckets) (in_buckets sizes.buckets (drop (suc i) (gnu_hashes ys))) ≡ ends b (drop (suc i) (stands_in sizes ys))

module _ (form : Form) (sizes : GnuSizes) (ys : List NamedSymbol) (m : Memory) (name_of : ℕ → Option (List ℕ)) (holds : HoldsGnuTable form sizes ys m name_of) where
  header_stands : StandIn form.order 4 0 (header_words (header_of sizes (gnu_hashes ys))) holds.table
  header_stands =
      let hs : List (Option ℕ) = gnu_hashes ys in
      record {
        front = [];
        back = filter_bytes form sizes hs ++ (heads_bytes form sizes hs ++ words_bytes form sizes hs);
        long = refl;
        whole = holds.is_table ∙ three_right (header_bytes form sizes hs) (filter_bytes form sizes hs) (heads_bytes form sizes hs) (words_bytes form sizes hs);
      }

  filter_stands : StandIn form.order (word_size form.wide) 16 (filter_words_of form sizes (gnu_hashes ys)) holds.table
  filter_stands =
      let hs : List (Option ℕ) = gnu_hashes ys in
      record {
        front = header_bytes form sizes hs;
        back = heads_bytes form sizes hs ++ words_bytes form sizes hs;
        long = length-header form sizes hs;
        whole = holds.is_table ∙ three_right (header_bytes form sizes hs) (filter_bytes form sizes hs) (heads_bytes form sizes hs) (words_bytes form sizes hs);
      }

  heads_stand : StandIn form.order 4 (16 + sizes.filter_words * word_size form.wide) (heads sizes.buckets (stands_in sizes ys)) holds.table
  heads_stand =
      let hs : List (Option ℕ) = gnu_hashes ys in
      record {
        front = header_bytes form sizes hs ++ filter_bytes form sizes hs;
        back = words_bytes form sizes hs;
        long =
            length-append (header_bytes form sizes hs) (filter_bytes form sizes hs)
            ∙ omega (arith, length-header form sizes hs, length-filter form sizes hs);
        whole = holds.is_table ∙ append_assoc (header_bytes form sizes hs ++ filter_bytes form sizes hs) (heads_bytes form sizes hs) (words_bytes form sizes hs);
      }

  words_stand : StandIn form.order 4 (16 + sizes.filter_words * word_size form.wide + 4 * sizes.buckets) (gnu_words sizes.buckets (gnu_hashes ys)) holds.table
  words_stand =
      let hs : List (Option ℕ) = gnu_hashes ys in
      record {
        front = header_bytes form sizes hs ++ filter_bytes form sizes hs ++ heads_bytes form sizes hs;
        back = [];
        long =
            length-append (header_bytes form sizes hs ++ filter_bytes form sizes hs) (heads_bytes form sizes hs)
            ∙ omega (arith, length-append (header_bytes form sizes hs) (filter_bytes form sizes hs), length-header form sizes hs, length-filter form sizes hs, length-heads form sizes hs);
        whole = holds.is_table ∙ ap (λ l. header_bytes form sizes hs ++ filter_bytes form sizes hs ++ heads_bytes form sizes hs ++ l) (sym (append-nil (words_bytes form sizes hs)));
      }

  -- ## What is read

  header_word : (k x : ℕ) → slice_get (header_words (header_of sizes (gnu_hashes ys))) k ≡ Some x → x < 2 ^ 32 → number_in form.order 4 m (0 + 4 * k) ≡ Some x
  header_word k x there below = word_held form.order 4 0 (header_words (header_of sizes (gnu_hashes ys))) holds.table m k x header_stands holds.held there below

  header_held : gnu_header form m ≡ Some (header_of sizes (gnu_hashes ys))
  unfolding gnu_header
  header_held =
      let first_fits : first_hashed (gnu_hashes ys) < 2 ^ 32 =
      omega (arith, first_hashed-within (gnu_hashes ys), length-hashes gnu_hash ys, holds.symbols_fit) in
      let shift_fits : sizes.filter_shift < 2 ^ 32 = omega (arith, holds.sized.filter_shift) in
      let w0 : number_in form.order 4 m 0 ≡ Some sizes.buckets = header_word 0 sizes.buckets refl holds.sized.buckets_fit in
      let w1 : number_in form.order 4 m 4 ≡ Some (first_hashed (gnu_hashes ys)) = header_word 1 (first_hashed (gnu_hashes ys)) refl first_fits in
      let w2 : number_in form.order 4 m 8 ≡ Some sizes.filter_words = header_word 2 sizes.filter_words refl holds.sized.filter_words_fit in
      let w3 : number_in form.order 4 m 12 ≡ Some sizes.filter_shift = header_word 3 sizes.filter_shift refl shift_fits in
      rw (w0, w1, w2, w3) refl

  filter_held : (k : ℕ) → k < sizes.filter_words → filter_word form m k ≡ Some (filter_word_of form sizes k (gnu_hashes ys))
  filter_held k below =
      let place : 16 + k * word_size form.wide ≡ 16 + word_size form.wide * k = omega arith in
      ap (number_in form.order (word_size form.wide) m) place
      ∙ word_held form.order (word_size form.wide) 16 (filter_words_of form sizes (gnu_hashes ys)) holds.table m k (filter_word_of form sizes k (gnu_hashes ys)) filter_stands holds.held
      (slice_get-map-counted (λ i. filter_word_of form sizes i (gnu_hashes ys)) sizes.filter_words k below) (word-fits form sizes k (gnu_hashes ys))

  head_held : (bucket : ℕ) → bucket < sizes.buckets → gnu_bucket form m (header_of sizes (gnu_hashes ys)) bucket ≡ Some (next_in bucket 0 (stands_in sizes ys))
  head_held bucket below =
      let fits : 0 + length (stands_in sizes ys) ≤ 2 ^ 32 = omega (arith, length-buckets gnu_hash sizes.buckets ys, holds.symbols_fit) in
      word_held form.order 4 (16 + sizes.filter_words * word_size form.wide) (heads sizes.buckets (stands_in sizes ys)) holds.table m bucket (next_in bucket 0 (stands_in sizes ys)) heads_stand holds.held
      (slice_get-map-counted (λ b. next_in b 0 (stands_in sizes ys)) sizes.buckets bucket below) (next_below bucket 0 (stands_in sizes ys) (2 ^ 32) (omega arith) fits)

  -- the word of a symbol with a hash
  symbol_held : (i hash : ℕ) → slice_get (gnu_hashes ys) i ≡ Some (Some hash)
      → gnu_word form m (header_of sizes (gnu_hashes ys)) i ≡ Some (word_of sizes.buckets hash (drop (suc i) (gnu_hashes ys)))
  symbol_held i hash at =
      let (name, at_name, is) = mapped_from gnu_hash (hashed_names ys) i hash at in
      let below : hash < 2 ^ 32 = omega (arith, gnu_hash-below name, is) in
      word_held form.order 4 (16 + sizes.filter_words * word_size form.wide + 4 * sizes.buckets) (gnu_words sizes.buckets (gnu_hashes ys)) holds.table m (i - first_hashed (gnu_hashes ys))
      (word_of sizes.buckets hash (drop (suc i) (gnu_hashes ys))) words_stand holds.held
      (word_at sizes.buckets (gnu_hashes ys) i hash holds.bucketed at).1 (word-below sizes.buckets hash (drop (suc i) (gnu_hashes ys)) below)

  bucket_word : (i b : ℕ) → slice_get (stands_in sizes ys) i ≡ Some (Some b) → HasWord form sizes ys m i b
  bucket_word i b at =
      let (hash, at_hash, is) = mapped_from (λ (h : ℕ). h % sizes.buckets) (gnu_hashes ys) i b at in
      record {
        hash = hash;
        has_hash = at_hash;
        in_bucket = is;
        is_word = symbol_held i hash at_hash;
        same_end =
            ap (λ (n : ℕ). ends n (in_buckets sizes.buckets (drop (suc i) (gnu_hashes ys)))) is
            ∙ ap (ends b) (sym (behind-buckets sizes.buckets (suc i) (gnu_hashes ys)));
      }

  -- ## What is found

  goes_on_only : (b i first : ℕ) → slice_get (stands_in sizes ys) first ≡ Some (Some b)
      → ((word : ℕ) × (gnu_word form m (header_of sizes (gnu_hashes ys)) first ≡ Some word) × (word % 2 ≡ 0))
      → ends b (drop (suc first) (stands_in sizes ys)) ≡ false
  goes_on_only b i first here (word, is_word, even) =
      let w = bucket_word first b here in
      let same : word_of sizes.buckets w.hash (drop (suc first) (gnu_hashes ys)) ≡ word =
      same_Some (word_of sizes.buckets w.hash (drop (suc first) (gnu_hashes ys))) word (sym w.is_word ∙ is_word) in
      sym w.same_end ∙ word-even sizes.buckets w.hash (drop (suc first) (gnu_hashes ys)) (ap (λ (n : ℕ). n % 2) same ∙ even)

  found_only : (name : List ℕ) (i : ℕ) → IsFoundByGnuHash form m name_of name i → IsFoundAt ys name i
  found_only name i found =
      let b : ℕ = gnu_hash name % sizes.buckets in
      let same : found.header ≡ header_of sizes (gnu_hashes ys) = same_Some found.header (header_of sizes (gnu_hashes ys)) (sym found.is_header ∙ header_held) in
      let First : GnuHeader → Type 0 = λ h. gnu_bucket form m h (gnu_hash name % h.buckets) ≡ Some found.first in
      let Goes : GnuHeader → Type 0 = λ h. (j : ℕ) → found.first ≤ j → j < i → (word : ℕ) × (gnu_word form m h j ≡ Some word) × (word % 2 ≡ 0) in
      let is_first = subst First same found.is_first in
      let goes = subst Goes same found.goes_on in
      let below : b < sizes.buckets = mod-lt (gnu_hash name) holds.sized.buckets in
      let first : next_in b 0 (stands_in sizes ys) ≡ found.first = same_Some (next_in b 0 (stands_in sizes ys)) found.first (sym (head_held b below) ∙ is_first) in
      let at = run_only b (stands_in sizes ys) found.first i first found.is_symbol found.from_first (λ j from less here. goes_on_only b i j here (goes j from less)) in
      found_in_bucket gnu_hash sizes.buckets ys name_of name i b holds.names at found.named

  passed : (name : List ℕ) (i : ℕ) → slice_get (gnu_hashes ys) i ≡ Some (Some (gnu_hash name)) → PassesFilter form m (header_of sizes (gnu_hashes ys)) (gnu_hash name)
  passed name i at =
      let k : ℕ = gnu_hash name / filter_bits form % sizes.filter_words in
      let bits = bits-there form sizes (gnu_hashes ys) i (gnu_hash name) at in
      record {
        words = holds.sized.filter_words;
        word = filter_word_of form sizes k (gnu_hashes ys);
        is_word = filter_held k (mod-lt (gnu_hash name / filter_bits form) holds.sized.filter_words);
        first_bit = bits.first;
        second_bit = bits.second;
      }

  found_all : (name : List ℕ) (i : ℕ) → IsFoundAt ys name i → IsFoundByGnuHash form m name_of name i
  found_all name i found =
      let b : ℕ = gnu_hash name % sizes.buckets in
      let below : b < sizes.buckets = mod-lt (gnu_hash name) holds.sized.buckets in
      let at_name = name_of_found ys name i found in
      let at_hash = mapped_some gnu_hash (hashed_names ys) i name at_name in
      let here = bucket_of_name gnu_hash sizes.buckets (hashed_names ys) i name at_name in
      let runs = run_all (stands_in sizes ys) b i (first_in_none gnu_hash sizes.buckets ys) holds.bucketed here in
      let (d, at_d, there) = next_is b 0 (stands_in sizes ys) (next_in b 0 (stands_in sizes ys)) refl runs.is_first in
      let first_word = bucket_word d b there in
      let hashed = (word_at sizes.buckets (gnu_hashes ys) d first_word.hash holds.bucketed first_word.has_hash).0 in
      record {
        header = header_of sizes (gnu_hashes ys);
        is_header = header_held;
        passes = passed name i at_hash;
        buckets = holds.sized.buckets;
        first = next_in b 0 (stands_in sizes ys);
        is_first = head_held b below;
        is_symbol = runs.is_first;
        hashed = omega (arith, hashed, at_d);
        from_first = runs.from_first;
        goes_on = λ j from less.
            let (at_j, goes) = runs.goes_on j from less in
            let w = bucket_word j b at_j in
            (word_of sizes.buckets w.hash (drop (suc j) (gnu_hashes ys)), w.is_word, word-bit sizes.buckets w.hash (drop (suc j) (gnu_hashes ys)) false (w.same_end ∙ goes));
        word = word_of sizes.buckets (gnu_hash name) (drop (suc i) (gnu_hashes ys));
        is_word = symbol_held i (gnu_hash name) at_hash;
        same_hash = word-hash sizes.buckets (gnu_hash name) (drop (suc i) (gnu_hashes ys));
        named = holds.names i found.symbol found.is_there ∙ ap (λ (n : List ℕ). Some n) found.named;
      }

  -- ## Where runs end

  -- the last symbol of all stands in a bucket, if any symbol does
  last_there : (first b : ℕ) → slice_get (stands_in sizes ys) first ≡ Some (Some b)
      → (c : ℕ) × (slice_get (stands_in sizes ys) (length (stands_in sizes ys) - 1) ≡ Some (Some c))
  last_there first b at =
      let inside : first < length (stands_in sizes ys) = slice_get_within (stands_in sizes ys) first (Some b) at in
      elim (cases_lt first (length (stands_in sizes ys) - 1)) [
        | inl less ↦
            let (c, there, above) = holds.bucketed first (length (stands_in sizes ys) - 1) b less (omega (arith, inside)) at in
            (c, there)
        | inr past ↦
            let same : length (stands_in sizes ys) - 1 ≡ first = omega (arith, inside, past) in
            (b, ap (slice_get (stands_in sizes ys)) same ∙ at)
      ]

  run_ended : (bucket first : ℕ) → bucket < sizes.buckets → gnu_bucket form m (header_of sizes (gnu_hashes ys)) bucket ≡ Some first → first ≢ 0
      → RunEnds form m (header_of sizes (gnu_hashes ys)) (length ys) first
  run_ended bucket first below is_first some =
      let told : next_in bucket 0 (stands_in sizes ys) ≡ first = same_Some (next_in bucket 0 (stands_in sizes ys)) first (sym (head_held bucket below) ∙ is_first) in
      let (d, at_d, there) = next_is bucket 0 (stands_in sizes ys) first told some in
      let inside : d < length (stands_in sizes ys) = slice_get_within (stands_in sizes ys) d (Some bucket) there in
      let many = length-buckets gnu_hash sizes.buckets ys in
      let n : ℕ = length (stands_in sizes ys) - 1 in
      let (c, at_last) = last_there d bucket there in
      let w = bucket_word n c at_last in
      let none : drop (suc n) (stands_in sizes ys) ≡ [] = drop_all (suc n) (stands_in sizes ys) (omega (arith, inside)) in (
        n,
        word_of sizes.buckets w.hash (drop (suc n) (gnu_hashes ys)),
        omega (arith, inside, at_d),
        omega (arith, inside, many),
        w.is_word,
        word-bit sizes.buckets w.hash (drop (suc n) (gnu_hashes ys)) true (w.same_end ∙ ap (ends c) none),
      )

  -- ## With the header that is read

  passes_with : (h : GnuHeader) → gnu_header form m ≡ Some h → (name : List ℕ) (i : ℕ) → IsFoundAt ys name i → PassesFilter form m h (gnu_hash name)
  passes_with h is name i found =
      let same : header_of sizes (gnu_hashes ys) ≡ h = same_Some (header_of sizes (gnu_hashes ys)) h (sym header_held ∙ is) in
      let Passes : GnuHeader → Type 0 = λ g. PassesFilter form m g (gnu_hash name) in
      subst Passes same (passed name i (mapped_some gnu_hash (hashed_names ys) i name (name_of_found ys name i found)))

  ended_with : (h : GnuHeader) → gnu_header form m ≡ Some h → (bucket first : ℕ) → bucket < h.buckets → gnu_bucket form m h bucket ≡ Some first → first ≢ 0
      → RunEnds form m h (length ys) first
  ended_with h is =
      let same : header_of sizes (gnu_hashes ys) ≡ h = same_Some (header_of sizes (gnu_hashes ys)) h (sym header_held ∙ is) in
      let Ends : GnuHeader → Type 0 = λ g. (bucket first : ℕ) → bucket < g.buckets → gnu_bucket form m g bucket ≡ Some first → first ≢ 0 → RunEnds form m g (length ys) first in
      subst Ends same run_ended

pub gnu_tables_find : GnuTablesFind
gnu_tables_find = record {
  finds = λ form sizes ys m name_of holds name i. (found_only form sizes ys m name_of holds name i, found_all form sizes ys m name_of holds name i);
  passes = passes_with;
  ends = ended_with;
}
