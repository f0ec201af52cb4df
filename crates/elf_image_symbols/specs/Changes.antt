-- The changes of symbols.
use Rattle.std.specs.Prelude.{ℕ, ◌≡◌, ◌<◌, ◌≤◌, ◌⊎◌, List, [], ◌∷◌, length, map, Bool, false, ◌==◌, if◌then◌else◌, Option, Some, None, All, find, slice_index_or, unwrap_or}
use Rattle.elf_format.specs.ByteString.{borrowed_string}
use Rattle.elf_format.specs.declared.version_id.VersionId.{VersionId}
use Rattle.elf_format.specs.Views.{NamedSymbol}
use Rattle.elf_image_symbols.specs.declared.change.Change.{Change}
use Rattle.elf_image_symbols.specs.EditedList.{IsName, as_global}
use Rattle.elf_image_symbols.specs.Rising.{AreRising}

abbrev pub number_of : Change → ℕ
number_of c = c.number

-- ## A symbol with its change

-- the version of a symbol of which it is told whether it is cleared
abbrev pub version_by : Bool → Option VersionId → Option VersionId
version_by is_cleared version = if is_cleared then as_global version else version

-- what a change makes of its symbol
abbrev pub changed_by : Change → NamedSymbol → NamedSymbol
changed_by c y = record y { name = c.name.bytes; version = version_by c.is_cleared y.version }

-- a symbol, and what its change makes of it where it has one
abbrev pub changed : Option Change → NamedSymbol → NamedSymbol
changed None y = y
changed (Some c) y = changed_by c y

-- the change of the symbol with a number
abbrev pub change_of : List Change → ℕ → Option Change
change_of changes number = find (λ c. c.number == number) changes

-- stands for a symbol that isn't there
abbrev pub no_symbol : NamedSymbol
no_symbol = record { name = []; st_info = 0; st_other = 0; st_shndx = 0; st_value = 0; st_size = 0; version = None }

-- the symbol with a number, as it was read
abbrev pub read_at : List NamedSymbol → ℕ → NamedSymbol
read_at read number = slice_index_or read number no_symbol

-- the symbol with a number at read, as it is now
unfoldable pub symbol_now : List NamedSymbol → List Change → ℕ → NamedSymbol
symbol_now read changes number = changed (change_of changes number) (read_at read number)

-- a change of a symbol that leaves it as it was read
abbrev pub idle_change : List NamedSymbol → ℕ → Change
idle_change read number = record { number = number; name = borrowed_string (read_at read number).name; is_cleared = false }

-- the change of a symbol, or else one that leaves it as it was read
abbrev pub change_at : List NamedSymbol → List Change → ℕ → Change
change_at read changes number = unwrap_or (change_of changes number) (idle_change read number)

-- a change leaves of its symbol what is looked at
abbrev pub Leaves : {A : Type 0} → (NamedSymbol → A) → List NamedSymbol → Change → Type 0
Leaves part read c = part (changed_by c (read_at read c.number)) ≡ part (read_at read c.number)

-- ## Changes in order

-- the first of some changes is of the symbol with a number
abbrev pub starts_at : ℕ → List Change → Bool
starts_at number [] = false
starts_at number (c ∷ cs) = c.number == number

-- the name is the one that was read, or has no NUL
abbrev pub HasName : List NamedSymbol → Change → Type 0
HasName read c = (c.name.bytes ≡ (read_at read c.number).name) ⊎ IsName c.name.bytes

-- Changes of symbols that were read, at most one of each, by rising numbers.
pub record AreChanges (read : List NamedSymbol) (changes : List Change) : Type 0 where
  pub rising : AreRising 0 (length read) (map number_of changes)
  pub named : All (HasName read) changes

-- The change of the symbol with a number stands at a position.
pub record IsPlaceOf (changes : List Change) (number k : ℕ) : Type 0 where
  pub within : k < length changes
  pub before : (j : ℕ) (d : Change) → j < k → number_of (slice_index_or changes j d) < number
  pub here : (d : Change) → number_of (slice_index_or changes k d) ≡ number

-- No change is of the symbol with a number; one would stand at a position.
pub record IsGapFor (changes : List Change) (number k : ℕ) : Type 0 where
  pub within : k ≤ length changes
  pub before : (j : ℕ) (d : Change) → j < k → number_of (slice_index_or changes j d) < number
  pub behind : (j : ℕ) (d : Change) → k ≤ j → j < length changes → number < number_of (slice_index_or changes j d)
