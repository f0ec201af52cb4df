-- The symbols of a section, and what edits make of them.
use Rattle.std.specs.Prelude.{ℕ, zero, suc, ◌≡◌, ◌<◌, ◌⊎◌, List, [], ◌∷◌, length, map, filter, Bool, false, not, ◌==◌, IsTrue, Option, Some, option_map, slice_get, slice_index}
use Rattle.std.specs.List.{items_where_true, list_any}
use Rattle.elf_format.specs.declared.version_id.VersionId.{VersionId}
use Rattle.elf_format.specs.Image.{counted}
use Rattle.elf_format.specs.Options.{is_one_of}
use Rattle.elf_format.specs.Views.{NamedSymbol}

-- The symbols as they were read; the numbers at read of those that are there, in order; and these symbols as they are now.
pub record EditedList : Type 0 where
  pub read : List NamedSymbol
  pub numbers : List ℕ
  pub symbols : List NamedSymbol

-- all symbols are there, as they were read
abbrev pub as_read : List NamedSymbol → EditedList
as_read ys = record { read = ys; numbers = counted (length ys); symbols = ys }

-- ## One symbol

-- the name has no NUL
abbrev pub IsName : List ℕ → Type 0
IsName name = IsTrue (not (list_any (λ byte. byte == 0) name))

-- the symbol with another name
abbrev pub with_name : List ℕ → NamedSymbol → NamedSymbol
with_name name y = record y { name = name }

-- the version of a global symbol without one of its own, not hidden (GNU symbol versioning, VER_NDX_GLOBAL)
abbrev pub global_version : VersionId
global_version = record { index = 1; hidden = false }

-- that version in place of the one that there is
abbrev pub as_global : Option VersionId → Option VersionId
as_global version = option_map (λ _. global_version) version

-- the symbol with its version cleared
abbrev pub with_global_version : NamedSymbol → NamedSymbol
with_global_version y = record y { version = as_global y.version }

-- ## The list after an edit

-- a list of which the element at a position is changed, and no other
abbrev pub changed_at : {A : Type 0} → ℕ → (A → A) → List A → List A
changed_at i f [] = []
changed_at zero f (x ∷ xs) = f x ∷ xs
changed_at (suc i) f (x ∷ xs) = x ∷ changed_at i f xs

-- whether the symbol with a number at read stays where some go
abbrev pub stays : List ℕ → ℕ → Bool
stays gone number = not (is_one_of gone number)

-- the list without the symbols that had these numbers at read
abbrev pub without_numbers : List ℕ → EditedList → EditedList
without_numbers gone e = record e { numbers = filter (stays gone) e.numbers; symbols = items_where_true (map (stays gone) e.numbers) e.symbols }

-- ## Any edited list

-- A symbol as it was read, and as it is now: its name is the one that was read, or another one without a NUL; its version is
-- the one that was read, or cleared; nothing else changed.
pub record IsEditedSymbol (old y : NamedSymbol) : Type 0 where
  pub named : (y.name ≡ old.name) ⊎ IsName y.name
  pub versioned : (y.version ≡ old.version) ⊎ (y.version ≡ as_global old.version)
  pub same : y ≡ record old { name = y.name; version = y.version }

-- The symbols that are there are some of those that were read, in their order, edited.
pub record ArePicked (e : EditedList) : Type 0 where
  pub numbered : length e.numbers ≡ length e.symbols
  pub rising : (i j : ℕ) → i < j → j < length e.numbers → slice_index e.numbers i < slice_index e.numbers j
  pub edited : (i : ℕ) (y : NamedSymbol) → slice_get e.symbols i ≡ Some y
      → (old : NamedSymbol) × (slice_get e.read (slice_index e.numbers i) ≡ Some old) × IsEditedSymbol old y
