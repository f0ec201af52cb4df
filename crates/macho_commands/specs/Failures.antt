-- Why a command for a Mach-O file answers that the file could not be read or written.
use Rattle.std.specs.Prelude.{ℕ, ◌⊎◌, List, None, Option, Some, ⊤}
use Rattle.std.specs.declared.io.Error.{Error}
use Rattle.byte_store.specs.Causes.{EndsBy, IsNotRead}
use Rattle.byte_store.specs.declared.reading.ReadError.TheVariants as read
use Rattle.macho_commands.specs.declared.error.MachoCommandError.{MachoCommandError}
use Rattle.macho_commands.specs.declared.error.MachoCommandError.TheVariants.{Io}

-- writes to a store ended by this error
abbrev pub WritesEnd : (Error → Type 0) → Type 0 → ℕ → ℕ → Error → Type 0
WritesEnd writes takes_none old new e = EndsBy writes takes_none e old new

-- an error of a store of these bytes: its calls that read failed or came to no end, or those that write ended by it
abbrev pub IsOfStore : (Error → Type 0) → (Error → Type 0) → Type 0 → Option (List ℕ) → ℕ → ℕ → Error → Type 0
IsOfStore reads writes takes_none known old new e =
    IsNotRead reads known old new (read.Io e) ⊎ EndsBy writes takes_none e old new

-- an error of reading or writing is one of the store
abbrev pub HasCause : (Error → Type 0) → (Error → Type 0) → Type 0 → Option (List ℕ) → ℕ → ℕ → MachoCommandError → Type 0
HasCause reads writes takes_none known old new (Io e) = IsOfStore reads writes takes_none known old new e
HasCause reads writes takes_none known old new e = ⊤

-- an error at a path: where nothing was opened, the opening answered it; else it is one of the store, which counted no failure before
abbrev pub HasCauseAt : {S : Type 0} → (Error → Type 0) → (Error → Type 0) → (Error → Type 0) → Type 0 → (S → ℕ) → Option (List ℕ) → MachoCommandError → Option S → Type 0
HasCauseAt opens reads writes takes_none failed known (Io e) None = opens e
HasCauseAt opens reads writes takes_none failed known e None = ⊥
HasCauseAt opens reads writes takes_none failed known e (Some store) = HasCause reads writes takes_none known 0 (failed store) e
