-- The gABI's hash table of symbols (gABI, Hash Table), and what look-ups in it find.
use Rattle.std.specs.Prelude.{ℕ, ◌^◌, ◌≡◌, ◌≢◌, ◌≤◌, ◌<◌, ◌↔◌, List, ◌∷◌, ◌++◌, length, Option, Some}
use Rattle.patch_bytes.specs.Memory.{Keeps, Memory, memory_of}
use Rattle.elf_format.specs.declared.form.Form.{Form}
use Rattle.elf_format.specs.Hashes.{IsFoundByGabiHash, gabi_hash, gabi_visited, word_of_table}
use Rattle.elf_format.specs.Views.{NamedSymbol}
use Rattle.elf_tables.specs.Fields.{fields, words}
use Rattle.elf_hashes.specs.Buckets.{chains, hashes_of, heads, in_buckets}
use Rattle.elf_hashes.specs.Found.{AreNamesOf, IsFoundAt, hashed_names}

-- the two numbers, the first symbol of each bucket, and behind each symbol the next of its bucket
abbrev pub gabi_words : ℕ → List (Option ℕ) → List ℕ
gabi_words buckets hashes =
    let xs = in_buckets buckets hashes in
    buckets ∷ length hashes ∷ (heads buckets xs ++ chains 0 xs)

-- the bytes are the table of these names, as many buckets as that
abbrev pub IsGabiTable : Form → ℕ → List (Option (List ℕ)) → List ℕ → Type 0
IsGabiTable form buckets names table = table ≡ fields form.order (words (gabi_words buckets (hashes_of gabi_hash names)))

-- A memory that holds a table of symbols, whatever else it holds, with who tells the symbols' names.
pub record HoldsGabiTable (form : Form) (buckets : ℕ) (ys : List NamedSymbol) (m : Memory) (name_of : ℕ → Option (List ℕ)) : Type 0 where
  pub some : buckets ≢ 0
  pub buckets_fit : buckets < 2 ^ 32
  pub symbols_fit : length ys < 2 ^ 32
  pub table : List ℕ
  pub is_table : IsGabiTable form buckets (hashed_names ys) table
  pub held : Keeps (memory_of table) m
  pub names : AreNamesOf ys name_of

-- A look-up finds a name at a symbol just where the symbol has it, is defined, isn't local and isn't the first; each chain ends
-- within as many steps as there are symbols; and the table tells how many those are.
pub record GabiTablesFind : Type 0 where
  pub finds : (form : Form) (buckets : ℕ) (ys : List NamedSymbol) (m : Memory) (name_of : ℕ → Option (List ℕ)) → HoldsGabiTable form buckets ys m name_of
      → (name : List ℕ) (i : ℕ) → IsFoundByGabiHash form m name_of name i ↔ IsFoundAt ys name i
  pub ends : (form : Form) (buckets : ℕ) (ys : List NamedSymbol) (m : Memory) (name_of : ℕ → Option (List ℕ)) → HoldsGabiTable form buckets ys m name_of
      → (hash : ℕ) → (k : ℕ) × (k ≤ length ys) × (gabi_visited form m hash k ≡ Some 0)
  pub counts : (form : Form) (buckets : ℕ) (ys : List NamedSymbol) (m : Memory) (name_of : ℕ → Option (List ℕ)) → HoldsGabiTable form buckets ys m name_of
      → (word_of_table form m 0 ≡ Some buckets) × (word_of_table form m 1 ≡ Some (length ys))
