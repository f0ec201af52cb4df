-- How long hash tables are.
use Rattle.std.specs.Prelude.{ℕ, ◌+◌, ◌*◌, ◌≡◌, List, length, drop, count_by}
use Rattle.patch_bytes.specs.Number.{word_size}
use Rattle.elf_format.specs.declared.form.Form.{Form}
use Rattle.elf_format.specs.Views.{NamedSymbol}
use Rattle.elf_hashes.specs.declared.gnu.GnuSizes.{GnuSizes}
use Rattle.elf_hashes.specs.Found.{hashed_names, is_found}
use Rattle.elf_hashes.specs.Gabi.{IsGabiTable}
use Rattle.elf_hashes.specs.Gnu.{IsGnuTable}

-- The gABI's table has two words, one for each bucket and one for each symbol. A GNU table has a header of four, a filter, a word
-- for each bucket, and one for each symbol that is found.
pub record HashTablesAreSized : Type 0 where
  pub gabi : (form : Form) (buckets : ℕ) (ys : List NamedSymbol) (table : List ℕ) → IsGabiTable form buckets (hashed_names ys) table → length table ≡ 4 * (2 + buckets + length ys)
  pub gnu : (form : Form) (sizes : GnuSizes) (ys : List NamedSymbol) (table : List ℕ) → IsGnuTable form sizes (hashed_names ys) table
      → length table ≡ 16 + sizes.filter_words * word_size form.wide + 4 * sizes.buckets + 4 * count_by is_found (drop 1 ys)
