-- Why a command for an ELF file answers that the file could not be read or written, or that nothing could be printed.
use Rattle.std.specs.Prelude.{ℕ, ◌⊎◌, List, Option, Some, None, ⊤}
use Rattle.std.specs.declared.io.Error.{Error}
use Rattle.byte_store.specs.Causes.{EndsBy}
use Rattle.byte_store.specs.Counts.{RisesBy}
use Rattle.byte_store.specs.declared.reading.ReadError.TheVariants as read
use Rattle.command_words.specs.Loading.{IsNotLoaded}
use Rattle.elf_commands_edits.specs.declared.error.ElfCommandError.{ElfCommandError}
use Rattle.elf_commands_edits.specs.declared.error.ElfCommandError.TheVariants.{Io}

-- an error of a store of these bytes: its calls that read failed or came to no end, or those that write ended by it
abbrev pub IsOfStore : (Error → Type 0) → (Error → Type 0) → Type 0 → Option (List ℕ) → ℕ → ℕ → Error → Type 0
IsOfStore reads writes takes_none known old new e =
    IsNotLoaded reads known old new (read.Io e) ⊎ EndsBy writes takes_none e old new

-- an error of reading or writing is one of the store
abbrev pub HasCause : (Error → Type 0) → (Error → Type 0) → Type 0 → Option (List ℕ) → ℕ → ℕ → ElfCommandError → Type 0
HasCause reads writes takes_none known old new (Io e) = IsOfStore reads writes takes_none known old new e
HasCause reads writes takes_none known old new e = ⊤

-- an error of writing alone
abbrev pub HasWriteCause : (Error → Type 0) → Type 0 → ℕ → ℕ → ElfCommandError → Type 0
HasWriteCause writes takes_none old new (Io e) = EndsBy writes takes_none e old new
HasWriteCause writes takes_none old new e = ⊤

-- an error of reading alone
abbrev pub HasReadCause : (Error → Type 0) → Option (List ℕ) → ℕ → ℕ → ElfCommandError → Type 0
HasReadCause reads known old new (Io e) = IsNotLoaded reads known old new (read.Io e)
HasReadCause reads known old new e = ⊤

-- an error of writing, or a failure of what lines are told to
abbrev pub HasTellCause : (Error → Type 0) → Type 0 → ℕ → ℕ → ℕ → ℕ → ElfCommandError → Type 0
HasTellCause writes takes_none old new said told (Io e) = RisesBy 1 said told ⊎ EndsBy writes takes_none e old new
HasTellCause writes takes_none old new said told e = ⊤

-- an error of reading or writing is one of the store, or what lines are told to failed
abbrev pub HasShrinkCause : (Error → Type 0) → (Error → Type 0) → Type 0 → Option (List ℕ) → ℕ → ℕ → ℕ → ℕ → ElfCommandError → Type 0
HasShrinkCause reads writes takes_none known old new said told (Io e) =
    RisesBy 1 said told ⊎ IsOfStore reads writes takes_none known old new e
HasShrinkCause reads writes takes_none known old new said told e = ⊤

-- ---- at a path

-- an error at a path: where nothing was opened, the opening answered it; else it is one of the store, which counted no
-- failure before
abbrev pub HasCauseAt : {S : Type 0} → (Error → Type 0) → (Error → Type 0) → (Error → Type 0) → Type 0 → (S → ℕ) → Option (List ℕ) → ElfCommandError → Option S → Type 0
HasCauseAt opens reads writes takes_none failed known (Io e) None = opens e
HasCauseAt opens reads writes takes_none failed known e None = ⊥
HasCauseAt opens reads writes takes_none failed known e (Some store) = HasCause reads writes takes_none known 0 (failed store) e

-- the same of an error where nothing is written
abbrev pub HasReadCauseAt : {S : Type 0} → (Error → Type 0) → (Error → Type 0) → (S → ℕ) → Option (List ℕ) → ElfCommandError → Option S → Type 0
HasReadCauseAt opens reads failed known (Io e) None = opens e
HasReadCauseAt opens reads failed known e None = ⊥
HasReadCauseAt opens reads failed known e (Some store) = HasReadCause reads known 0 (failed store) e

-- where nothing was opened, the opening answered the error; else it is one of the store, or what lines are told to failed
abbrev pub HasShrinkCauseAt : {S : Type 0} → (Error → Type 0) → (Error → Type 0) → (Error → Type 0) → Type 0 → (S → ℕ) → Option (List ℕ) → ℕ → ℕ → ElfCommandError → Option S → Type 0
HasShrinkCauseAt opens reads writes takes_none failed known said told (Io e) None = opens e
HasShrinkCauseAt opens reads writes takes_none failed known said told e None = ⊥
HasShrinkCauseAt opens reads writes takes_none failed known said told e (Some store) =
    HasShrinkCause reads writes takes_none known 0 (failed store) said told e
