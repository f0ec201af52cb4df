-- Look-ups by name in the hash tables of a written file, as a loader makes them.
use Rattle.std.specs.Prelude.{ℕ, ◌≤◌, ◌<◌, ◌≡◌, ◌≢◌, ◌↔◌, List, length, Option, Some}
use Rattle.std.specs.List.{slice_get}
use Rattle.patch_bytes.specs.Memory.{◌>>=◌, from, Memory}
use Rattle.elf_format.specs.declared.constants.TheConstants.{DT_GNU_HASH, DT_HASH}
use Rattle.elf_format.specs.declared.records.EntryNumbers.{EntryNumbers}
use Rattle.elf_format.specs.Dynamic.{value_of_tag}
use Rattle.elf_format.specs.Hashes.{GnuHeader, IsFoundByGabiHash, IsFoundByGnuHash, gabi_visited, gnu_bucket, gnu_header, word_of_table}
use Rattle.elf_format.specs.Image.{Image}
use Rattle.elf_format.specs.Views.{byte_at, dynamic_symbol_count, loader_view}
use Rattle.elf_hashes.specs.Found.{IsFoundAt}
use Rattle.elf_hashes.specs.Gnu.{RunEnds}

-- the name of a symbol, as a loader that knows program headers alone reads it
abbrev pub loader_name : List ℕ → ℕ → Option (List ℕ)
loader_name file i =
    loader_view file (dynamic_symbol_count file) >>= λ view. view.symbols >>= λ symbols. slice_get symbols i >>= λ y. Some y.name

-- the memory from an address on that program headers load of a file
abbrev pub loaded_from : Image → List ℕ → ℕ → Memory
loaded_from again file address = from (byte_at again.segments file) address

-- In the gABI's table at an address a look-up finds a name just at the symbols that have it, are defined, aren't local and aren't the
-- first; each chain ends within as many steps as there are symbols, and the table tells how many those are (gABI, Hash Table).
pub record FindsByGabiHash (again : Image) (file : List ℕ) (table : Memory) : Type 0 where
  pub finds : (name : List ℕ) (i : ℕ) → IsFoundByGabiHash again.form table (loader_name file) name i ↔ IsFoundAt again.dynamic_symbols name i
  pub ends : (hash : ℕ) → (k : ℕ) × (k ≤ length again.dynamic_symbols) × (gabi_visited again.form table hash k ≡ Some 0)
  pub counts : word_of_table again.form table 1 ≡ Some (length again.dynamic_symbols)

-- In a GNU table at an address a look-up finds a name just at the symbols that have it, are defined, aren't local and aren't the first; the
-- run of each bucket that isn't empty ends at a symbol that is there (GNU hash section).
pub record FindsByGnuHash (again : Image) (file : List ℕ) (table : Memory) : Type 0 where
  pub finds : (name : List ℕ) (i : ℕ) → IsFoundByGnuHash again.form table (loader_name file) name i ↔ IsFoundAt again.dynamic_symbols name i
  pub ends : (h : GnuHeader) → gnu_header again.form table ≡ Some h → (bucket first : ℕ) → bucket < h.buckets
      → gnu_bucket again.form table h bucket ≡ Some first → first ≢ 0
      → RunEnds again.form table h (length again.dynamic_symbols) first

-- Look-ups in the tables at the addresses that the dynamic list tells find exactly those symbols.
pub record AreNamesFound (again : Image) (raw : List EntryNumbers) (file : List ℕ) : Type 0 where
  pub gabi : (address : ℕ) → value_of_tag DT_HASH raw ≡ Some address → FindsByGabiHash again file (loaded_from again file address)
  pub gnu : (address : ℕ) → value_of_tag DT_GNU_HASH raw ≡ Some address → FindsByGnuHash again file (loaded_from again file address)
