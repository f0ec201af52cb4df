-- Why the bytes of a file could not be read whole.
use Rattle.std.specs.Prelude.{ℕ, ◌-◌, ◌^◌, List, Option, Some, None}
use Rattle.std.specs.declared.io.Error.{Error}
use Rattle.byte_store.specs.Causes.{IsNotWhole}
use Rattle.byte_store.specs.Known.{Stays}
use Rattle.byte_store.specs.declared.reading.ReadError.{ReadError}
use Rattle.byte_store.specs.declared.reading.ReadError.TheVariants as read

-- the most bytes that are read of a store
abbrev pub most_read : ℕ
most_read = 2 ^ 64 - 2

-- a store was not read whole, which counted so many failures before and after
abbrev pub IsNotLoaded : (Error → Type 0) → Option (List ℕ) → ℕ → ℕ → ReadError → Type 0
IsNotLoaded reads known old new e = IsNotWhole reads most_read known old new e

-- the store at a path was not read whole: nothing was opened, for this error, or what was opened comes back with the bytes that
-- were known there
abbrev pub IsUnread : {S : Type 0} → (Error → Type 0) → (Error → Type 0) → (S → Option (List ℕ)) → (S → ℕ) → Option (List ℕ) → ReadError → Option S → Type 0
IsUnread opens reads contents failed known (read.Io e) None = opens e
IsUnread opens reads contents failed known e None = ⊥
IsUnread opens reads contents failed known e (Some store) = Stays known (contents store) × IsNotLoaded reads known 0 (failed store) e
