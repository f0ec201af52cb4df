-- Which dynamic symbols a look-up by name finds, and symbols in an order.
use Rattle.std.specs.Prelude.{ℕ, ◌/◌, ◌≡◌, ◌≢◌, ◌<◌, List, [], ◌∷◌, length, map, Option, Some, None, All, ◌==◌, if◌then◌else◌, option_map, slice_get}
use Rattle.std.specs.List.{filter_map}
use Rattle.elf_format.specs.Views.{NamedSymbol}
pub use Rattle.elf_tables.specs.FoundSymbols.{is_found, is_local, is_sought}

-- ## Symbols in an order, told by where each stands

-- each position is that of a symbol
abbrev pub ArePlaces : List NamedSymbol → List ℕ → Type 0
ArePlaces ys order = All (λ i. i < length ys) order

-- the symbols at these positions
abbrev pub in_order : List NamedSymbol → List ℕ → List NamedSymbol
in_order ys order = filter_map (λ i. slice_get ys i) order

-- ## What hash tables are made of

-- the name by which a look-up finds the symbol
abbrev pub found_name : NamedSymbol → Option (List ℕ)
found_name y = if is_found y then Some y.name else None

-- the hash of each name by which a look-up may find a symbol, symbol by symbol
abbrev pub found_hashes : (List ℕ → ℕ) → List NamedSymbol → List (Option ℕ)
found_hashes hash ys = map (λ y. option_map hash (found_name y)) ys

-- the names by which look-ups find symbols, symbol by symbol: none finds the first one (gABI, Symbol Table, STN_UNDEF)
unfoldable pub hashed_names : List NamedSymbol → List (Option (List ℕ))
hashed_names [] = []
hashed_names (first ∷ rest) = None ∷ map found_name rest

-- ## What is promised of look-ups

-- The symbol at a position has the name, is defined, isn't local and isn't the first.
pub record IsFoundAt (ys : List NamedSymbol) (name : List ℕ) (i : ℕ) : Type 0 where
  pub not_first : i ≢ 0
  pub symbol : NamedSymbol
  pub is_there : slice_get ys i ≡ Some symbol
  pub defined : symbol.st_shndx ≢ 0
  pub seen : symbol.st_info / 16 ≢ 0
  pub named : symbol.name ≡ name

-- who looks up reads of each symbol the name that it has
abbrev pub AreNamesOf : List NamedSymbol → (ℕ → Option (List ℕ)) → Type 0
AreNamesOf ys name_of = (i : ℕ) (y : NamedSymbol) → slice_get ys i ≡ Some y → name_of i ≡ Some y.name
