-- Look-ups in the gABI's table, in every memory that keeps the table.
use Rattle.std.proofs.Common.{◌≡◌, ◌≢◌, ℕ, zero, suc, ◌+◌, ◌*◌, ◌%◌, ◌^◌, ◌<◌, ◌≤◌, List, [], length, drop, Bool, true, false, refl, sym, ap, ◌∙◌, Option, Some, None, arith}
use Rattle.std.specs.Prelude.{◌==◌, if◌then◌else◌, slice_get}
use Rattle.std.proofs.Math.Nat.{mod-lt}
use Rattle.std.proofs.lemmas.Bool.{eq-eqb, false≢true, ne_eqb}
use Rattle.std.proofs.lemmas.List.{append-nil}
use Rattle.patch_bytes.specs.Memory.{◌>>=◌, Memory, number_in}
use Rattle.patch_bytes.proofs.MemoryLaws.{some_bind}
use Rattle.elf_format.specs.declared.form.Form.{Form}
use Rattle.elf_format.specs.Hashes.{IsFoundByGabiHash, gabi_hash, gabi_visited, word_of_table}
use Rattle.elf_format.specs.Views.{NamedSymbol}
use Rattle.elf_tables.specs.Fields.{fields, words}
use Rattle.elf_hashes.specs.Buckets.{chains, hashes_of, heads, in_buckets, next_in}
use Rattle.elf_hashes.specs.Found.{IsFoundAt, hashed_names}
use Rattle.elf_hashes.specs.Gabi.{GabiTablesFind, HoldsGabiTable, gabi_words}
use Rattle.elf_hashes.proofs.ListLaws.{length-map-counted, slice_get-left, slice_get-map-counted, slice_get-right}
use Rattle.elf_hashes.proofs.ChainLaws.{after, chain_at, chains_below, next_below, visited, visits_all, visits_end, visits_only}
use Rattle.elf_hashes.proofs.NameLaws.{bucket_of_name, first_in_none, found_in_bucket, length-buckets, length-hashes, name_of_found}
use Rattle.elf_hashes.proofs.WordLaws.{word_held}

-- ## The words of a table

-- the first symbol of a bucket
head_word : (buckets b : ℕ) (hashes : List (Option ℕ)) → b < buckets
    → slice_get (gabi_words buckets hashes) (2 + b) ≡ Some (next_in b 0 (in_buckets buckets hashes))
head_word buckets b hashes below =
    let xs : List (Option ℕ) = in_buckets buckets hashes in
    let place : 2 + b ≡ suc (suc b) = omega arith in
    ap (slice_get (gabi_words buckets hashes)) place
    ∙ slice_get-left (heads buckets xs) (chains 0 xs) b (next_in b 0 xs) (slice_get-map-counted (λ bucket. next_in bucket 0 xs) buckets b below)

-- the entry of a symbol
chain_word : (buckets i : ℕ) (hashes : List (Option ℕ)) → slice_get (gabi_words buckets hashes) (2 + buckets + i) ≡ slice_get (chains 0 (in_buckets buckets hashes)) i
chain_word buckets i hashes =
    let xs : List (Option ℕ) = in_buckets buckets hashes in
    let place : 2 + buckets + i ≡ suc (suc (buckets + i)) = omega arith in
    ap (slice_get (gabi_words buckets hashes)) place
    ∙ slice_get-right (heads buckets xs) (chains 0 xs) buckets i (length-map-counted (λ bucket. next_in bucket 0 xs) buckets)

-- ## In a memory that holds the table

abbrev gabi_hashes : List NamedSymbol → List (Option ℕ)
gabi_hashes ys = hashes_of gabi_hash (hashed_names ys)

abbrev stands_in : ℕ → List NamedSymbol → List (Option ℕ)
stands_in buckets ys = in_buckets buckets (gabi_hashes ys)

module _ (form : Form) (buckets : ℕ) (ys : List NamedSymbol) (m : Memory) (name_of : ℕ → Option (List ℕ)) (holds : HoldsGabiTable form buckets ys m name_of) where
  fits : 0 + length (stands_in buckets ys) ≤ 2 ^ 32
  fits = omega (arith, length-buckets gabi_hash buckets ys, holds.symbols_fit)

  -- a word that stands in the table
  held : (k x : ℕ) → slice_get (gabi_words buckets (gabi_hashes ys)) k ≡ Some x → x < 2 ^ 32 → word_of_table form m k ≡ Some x
  held k x there below =
      let place : 4 * k ≡ 0 + 4 * k = omega arith in
      ap (number_in form.order 4 m) place
      ∙ word_held form.order 4 0 (gabi_words buckets (gabi_hashes ys)) holds.table m k x
      (record { front = []; back = []; long = refl; whole = holds.is_table ∙ sym (append-nil (fields form.order (words (gabi_words buckets (gabi_hashes ys))))) })
      holds.held there below

  counts : (word_of_table form m 0 ≡ Some buckets) × (word_of_table form m 1 ≡ Some (length ys))
  counts =
      let many : length (gabi_hashes ys) ≡ length ys = length-hashes gabi_hash ys in
      (held 0 buckets refl holds.buckets_fit, held 1 (length ys) (ap (λ (n : ℕ). Some n) many) holds.symbols_fit)

  -- the first symbol of a bucket
  head_held : (hash : ℕ) → word_of_table form m (2 + hash % buckets) ≡ Some (next_in (hash % buckets) 0 (stands_in buckets ys))
  head_held hash =
      let below : hash % buckets < buckets = mod-lt hash (omega (arith, holds.some)) in
      held (2 + hash % buckets) (next_in (hash % buckets) 0 (stands_in buckets ys)) (head_word buckets (hash % buckets) (gabi_hashes ys) below)
      (next_below (hash % buckets) 0 (stands_in buckets ys) (2 ^ 32) (omega arith) fits)

  -- the entry of a symbol in a bucket
  entry_held : (i b : ℕ) → slice_get (stands_in buckets ys) i ≡ Some (Some b) → word_of_table form m (2 + buckets + i) ≡ slice_get (chains 0 (stands_in buckets ys)) i
  entry_held i b there =
      let entry : ℕ = next_in b (0 + suc i) (drop (suc i) (stands_in buckets ys)) in
      let at : slice_get (chains 0 (stands_in buckets ys)) i ≡ Some entry = chain_at 0 (stands_in buckets ys) i b there in
      held (2 + buckets + i) entry (chain_word buckets i (gabi_hashes ys) ∙ at)
      (chains_below 0 (stands_in buckets ys) (2 ^ 32) i entry (omega arith) fits at)
      ∙ sym at

  -- a look-up comes to the same symbols
  same_visits : (hash k : ℕ) → gabi_visited form m hash k ≡ visited (hash % buckets) (stands_in buckets ys) k
  unfolding gabi_visited visited
  same_visits hash zero =
      some_bind (word_of_table form m 0) (λ n. if n == 0 then None else word_of_table form m (2 + hash % n)) buckets counts.0
      ∙ ap (λ (t : Bool). if t then None else word_of_table form m (2 + hash % buckets)) (ne_eqb buckets 0 holds.some)
      ∙ head_held hash
  same_visits hash (suc k) =
      some_bind (word_of_table form m 0) (λ n. gabi_visited form m hash k >>= (λ i. if i == 0 then None else word_of_table form m (2 + n + i))) buckets counts.0
      ∙ ap (λ (o : Option ℕ). o >>= (λ i. if i == 0 then None else word_of_table form m (2 + buckets + i))) (same_visits hash k)
      ∙ by_before (visited (hash % buckets) (stands_in buckets ys) k) refl
    where
      by_test : (i : ℕ) → visited (hash % buckets) (stands_in buckets ys) k ≡ Some i → (t : Bool) → (i == 0) ≡ t
          → (if t then None else word_of_table form m (2 + buckets + i)) ≡ (if t then None else slice_get (chains 0 (stands_in buckets ys)) i)
      by_test i at true is = refl
      by_test i at false is =
          let some : i ≢ 0 = λ z. false≢true (sym is ∙ eq-eqb i 0 z) in
          entry_held i (hash % buckets) (visits_only (hash % buckets) (stands_in buckets ys) k i some at)

      by_before : (o : Option ℕ) → visited (hash % buckets) (stands_in buckets ys) k ≡ o
          → (o >>= (λ i. if i == 0 then None else word_of_table form m (2 + buckets + i))) ≡ after (stands_in buckets ys) o
      by_before None at = refl
      by_before (Some i) at = by_test i at (i == 0) refl

  found_only : (name : List ℕ) (i : ℕ) → IsFoundByGabiHash form m name_of name i → IsFoundAt ys name i
  found_only name i found =
      let b : ℕ = gabi_hash name % buckets in
      let at : visited b (stands_in buckets ys) found.steps ≡ Some i = sym (same_visits (gabi_hash name) found.steps) ∙ found.visited in
      found_in_bucket gabi_hash buckets ys name_of name i b holds.names (visits_only b (stands_in buckets ys) found.steps i found.is_symbol at) found.named

  found_all : (name : List ℕ) (i : ℕ) → IsFoundAt ys name i → IsFoundByGabiHash form m name_of name i
  found_all name i found =
      let b : ℕ = gabi_hash name % buckets in
      let here = bucket_of_name gabi_hash buckets (hashed_names ys) i name (name_of_found ys name i found) in
      let (k, at) = visits_all b (stands_in buckets ys) i (first_in_none gabi_hash buckets ys) here in
      record {
        steps = k;
        visited = same_visits (gabi_hash name) k ∙ at;
        is_symbol = found.not_first;
        named = holds.names i found.symbol found.is_there ∙ ap (λ (n : List ℕ). Some n) found.named;
      }

  ended : (hash : ℕ) → (k : ℕ) × (k ≤ length ys) × (gabi_visited form m hash k ≡ Some 0)
  ended hash =
      let (k, within, at) = visits_end (hash % buckets) (stands_in buckets ys) (first_in_none gabi_hash buckets ys) in
      (k, omega (arith, within, length-buckets gabi_hash buckets ys), same_visits hash k ∙ at)

pub gabi_tables_find : GabiTablesFind
gabi_tables_find = record {
  finds = λ form buckets ys m name_of holds name i. (found_only form buckets ys m name_of holds name i, found_all form buckets ys m name_of holds name i);
  ends = ended;
  counts = counts;
}
