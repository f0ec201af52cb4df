-- Symbols with their hash tables. Names, words and order are those of worked examples.
use Rattle.std.specs.Prelude.{ℕ, ◌≡◌, List, [], ◌∷◌, Option, None}
use Rattle.patch_bytes.specs.declared.number.ByteOrder2.TheVariants.{Big, Little}
use Rattle.patch_bytes.specs.declared.number.Wide.TheVariants.{W32, W64}
use Rattle.elf_format.specs.declared.form.Form.{Form}
use Rattle.elf_format.specs.Hashes.{gabi_hash, gnu_hash}
use Rattle.elf_format.specs.Views.{NamedSymbol}
use Rattle.elf_hashes.specs.declared.gnu.GnuSizes.{GnuSizes}
use Rattle.elf_hashes.specs.Buckets.{hashes_of, heads, in_buckets}
use Rattle.elf_hashes.specs.Found.{hashed_names}
use Rattle.elf_hashes.specs.Gabi.{gabi_words}
use Rattle.elf_hashes.specs.Gnu.{filter_words_of, first_hashed, gnu_words}
use Rattle.elf_hashes.specs.Order.{places_by_bucket}

-- a symbol of a name, with its binding and type, and its section
abbrev pub symbol : List ℕ → ℕ → ℕ → NamedSymbol
symbol name info section = record { name = name; st_info = info; st_other = 0; st_shndx = section; st_value = 0; st_size = 0; version = None }

abbrev pub f : List ℕ
f = 102 ∷ []

abbrev pub g : List ℕ
g = 103 ∷ []

-- a function of section 5 that is global, one that is weak, and one that is local
abbrev pub global : List ℕ → NamedSymbol
global name = symbol name 0x12 5

abbrev pub weak : List ℕ → NamedSymbol
weak name = symbol name 0x22 5

abbrev pub local : List ℕ → NamedSymbol
local name = symbol name 0x02 5

-- a function that is defined elsewhere
abbrev pub sought : List ℕ → NamedSymbol
sought name = symbol name 0x12 0

abbrev pub null : NamedSymbol
null = symbol [] 0 0

abbrev pub wide : Form
wide = record { wide = W64; order = Little }

abbrev pub narrow : Form
narrow = record { wide = W32; order = Big }

abbrev pub small : GnuSizes
small = record { buckets = 2; filter_words = 1; filter_shift = 6 }

abbrev pub hashed : (List ℕ → ℕ) → List NamedSymbol → List (Option ℕ)
hashed hash ys = hashes_of hash (hashed_names ys)

-- Two defined symbols in two buckets.
pub record PairRows : Type 0 where
  -- `g` stands in the even bucket
  pub order : places_by_bucket 2 (null ∷ global f ∷ global g ∷ []) ≡ 0 ∷ 2 ∷ 1 ∷ []
  pub gabi : gabi_words 2 (hashed gabi_hash (null ∷ global g ∷ global f ∷ [])) ≡ 2 ∷ 3 ∷ 2 ∷ 1 ∷ 0 ∷ 0 ∷ 0 ∷ []
  pub gabi_unordered : gabi_words 2 (hashed gabi_hash (null ∷ global f ∷ global g ∷ [])) ≡ 2 ∷ 3 ∷ 1 ∷ 2 ∷ 0 ∷ 0 ∷ 0 ∷ []
  pub first_symbol : first_hashed (hashed gnu_hash (null ∷ global g ∷ global f ∷ [])) ≡ 1
  pub filter : filter_words_of wide small (hashed gnu_hash (null ∷ global g ∷ global f ∷ [])) ≡ 0x1001800 ∷ []
  pub buckets : heads 2 (in_buckets 2 (hashed gnu_hash (null ∷ global g ∷ global f ∷ []))) ≡ 1 ∷ 2 ∷ []
  pub words : gnu_words 2 (hashed gnu_hash (null ∷ global g ∷ global f ∷ [])) ≡ 177677 ∷ 177675 ∷ []

-- One bucket: the chain goes through both, and the run ends at the second.
pub record ChainRows : Type 0 where
  pub gabi : gabi_words 1 (hashed gabi_hash (null ∷ global f ∷ weak g ∷ [])) ≡ 1 ∷ 3 ∷ 1 ∷ 0 ∷ 2 ∷ 0 ∷ []
  pub words : gnu_words 1 (hashed gnu_hash (null ∷ global f ∷ weak g ∷ [])) ≡ 177674 ∷ 177677 ∷ []

-- Symbols that no look-up finds.
pub record UnfoundRows : Type 0 where
  pub order : places_by_bucket 1 (null ∷ weak f ∷ sought g ∷ local f ∷ global g ∷ sought f ∷ []) ≡ 0 ∷ 3 ∷ 2 ∷ 5 ∷ 1 ∷ 4 ∷ []
  pub gabi : gabi_words 1 (hashed gabi_hash (global f ∷ local f ∷ sought g ∷ [])) ≡ 1 ∷ 3 ∷ 0 ∷ 0 ∷ 0 ∷ 0 ∷ []
  pub first_symbol : first_hashed (hashed gnu_hash (global f ∷ local f ∷ sought g ∷ [])) ≡ 3
  pub filter : filter_words_of narrow small (hashed gnu_hash (global f ∷ local f ∷ sought g ∷ [])) ≡ 0 ∷ []
  pub words : gnu_words 2 (hashed gnu_hash (global f ∷ local f ∷ sought g ∷ [])) ≡ []
  pub none : places_by_bucket 2 [] ≡ []

-- All rows.
pub record HashTableRows : Type 0 where
  pub pair : PairRows
  pub chain : ChainRows
  pub unfound : UnfoundRows
