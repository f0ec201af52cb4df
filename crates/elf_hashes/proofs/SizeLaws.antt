-- How long hash tables are.
use Rattle.std.proofs.Common.{◌≡◌, ℕ, ◌+◌, ◌*◌, List, [], ◌∷◌, ◌++◌, length, drop, map, Bool, true, false, refl, sym, ap, ◌∙◌, Option, Some, None, arith}
use Rattle.std.specs.Prelude.{count_by, if◌then◌else◌, option_map}
use Rattle.std.proofs.lemmas.List.{length-append}
use Rattle.std.proofs.lemmas.List.Sums.{sum_by-cons}
use Rattle.patch_bytes.specs.Number.{word_size}
use Rattle.elf_format.specs.declared.form.Form.{Form}
use Rattle.elf_format.specs.Hashes.{gabi_hash, gnu_hash}
use Rattle.elf_format.specs.Views.{NamedSymbol}
use Rattle.elf_hashes.specs.declared.gnu.GnuSizes.{GnuSizes}
use Rattle.elf_hashes.specs.Buckets.{chains, hashes_of, heads, in_buckets, next_in}
use Rattle.elf_hashes.specs.Found.{found_name, hashed_names, is_found}
use Rattle.elf_hashes.specs.Gabi.{IsGabiTable, gabi_words}
use Rattle.elf_hashes.specs.Gnu.{IsGnuTable, gnu_words}
use Rattle.elf_hashes.specs.Sizes.{HashTablesAreSized}
use Rattle.elf_hashes.proofs.ListLaws.{length-map-counted}
use Rattle.elf_hashes.proofs.ChainLaws.{length-chains}
use Rattle.elf_hashes.proofs.NameLaws.{length-buckets}
use Rattle.elf_hashes.proofs.WordLaws.{length-as_wide}
use Rattle.elf_hashes.proofs.GnuLaws.{filter_bytes, header_bytes, heads_bytes, length-filter, length-header, length-heads, words_bytes}

gabi-size : (form : Form) (buckets : ℕ) (ys : List NamedSymbol) (table : List ℕ) → IsGabiTable form buckets (hashed_names ys) table → length table ≡ 4 * (2 + buckets + length ys)
gabi-size form buckets ys table is =
    let hashes : List (Option ℕ) = hashes_of gabi_hash (hashed_names ys) in
    let xs : List (Option ℕ) = in_buckets buckets hashes in
    ap length is ∙ length-as_wide form.order 4 (gabi_words buckets hashes)
    ∙ omega (
      arith,
      length-append (heads buckets xs) (chains 0 xs),
      length-map-counted (λ bucket. next_in bucket 0 xs) buckets,
      length-chains 0 xs,
      length-buckets gabi_hash buckets ys,
    )

-- a word for each symbol that is found
words-counted : (buckets : ℕ) (ys : List NamedSymbol) → length (gnu_words buckets (hashes_of gnu_hash (map found_name ys))) ≡ count_by is_found ys
unfolding gnu_words
words-counted buckets [] = refl
words-counted buckets (y ∷ ys) = by_found (is_found y) refl (words-counted buckets ys) ∙ sym (sum_by-cons (λ (s : NamedSymbol). if is_found s then 1 else 0) y ys)
  where
    by_found : (t : Bool) → is_found y ≡ t → length (gnu_words buckets (hashes_of gnu_hash (map found_name ys))) ≡ count_by is_found ys
        → length (gnu_words buckets (option_map gnu_hash (if t then Some y.name else None) ∷ hashes_of gnu_hash (map found_name ys))) ≡ (if t then 1 else 0) + count_by is_found ys
    by_found true is rest = omega (arith, rest)
    by_found false is rest = omega (arith, rest)

words-found : (buckets : ℕ) (ys : List NamedSymbol) → length (gnu_words buckets (hashes_of gnu_hash (hashed_names ys))) ≡ count_by is_found (drop 1 ys)
unfolding gnu_words hashed_names
words-found buckets [] = refl
words-found buckets (first ∷ rest) = words-counted buckets rest

gnu-size : (form : Form) (sizes : GnuSizes) (ys : List NamedSymbol) (table : List ℕ) → IsGnuTable form sizes (hashed_names ys) table
    → length table ≡ 16 + sizes.filter_words * word_size form.wide + 4 * sizes.buckets + 4 * count_by is_found (drop 1 ys)
gnu-size form sizes ys table is =
    let hashes : List (Option ℕ) = hashes_of gnu_hash (hashed_names ys) in
    let a : List ℕ = header_bytes form sizes hashes in
    let b : List ℕ = filter_bytes form sizes hashes in
    let d : List ℕ = heads_bytes form sizes hashes in
    ap length is ∙ length-append (a ++ b ++ d) (words_bytes form sizes hashes)
    ∙ omega (
      arith,
      length-append (a ++ b) d,
      length-append a b,
      length-header form sizes hashes,
      length-filter form sizes hashes,
      length-heads form sizes hashes,
      length-as_wide form.order 4 (gnu_words sizes.buckets hashes),
      words-found sizes.buckets ys,
    )

pub hash_tables_are_sized : HashTablesAreSized
hash_tables_are_sized = record { gabi = gabi-size; gnu = gnu-size }
