-- What commands for ELF files make of the bytes of a store, where they are known.
use Rattle.std.specs.Prelude.{ℕ, ◌≡◌, ◌⊎◌, List, Option, Some, None, false, ⊤}
use Rattle.std.specs.declared.io.Error.{Error}
use Rattle.byte_store.specs.Causes.{EndsBy}
use Rattle.byte_store.specs.Known.{Stays}
use Rattle.byte_store.specs.Composed.{IsDifference, made_of, owned_patches}
use Rattle.byte_store.specs.Fault.{IsLeft}
use Rattle.byte_store.specs.declared.composed.Difference.{Difference}
use Rattle.byte_store.specs.declared.writing.Left.{Left}
use Rattle.elf_commands_lines.specs.ElfAsked.{ElfAsked, edits_asked, printing, shrinking}
use Rattle.elf_commands_edits.specs.Groups.{GroupEdit}
use Rattle.elf_image.specs.Image.{Image}
use Rattle.elf_commands.specs.ElfEngine.{LeavesElf, Makes, TellsEdit}
use Rattle.elf_commands_edits.specs.declared.error.ElfCommandError.{ElfCommandError}
use Rattle.elf_commands_edits.specs.declared.error.ElfCommandError.TheVariants.{Io}

-- known bytes become those that the edits leave that are asked for; those of a command that prints, or asks first what is found, stay
abbrev pub IsElfPatched : ElfAsked → Option (List ℕ) → Option (List ℕ) → Type 0
IsElfPatched printing old new = Stays old new
IsElfPatched (shrinking prefixes) old new = Stays old new
IsElfPatched a old new = (file : List ℕ) → old ≡ Some file
    → (made : List ℕ) × LeavesElf a file made × (new ≡ Some made)

-- A run of writes that failed: it was to turn a file into what the edits make of it, and each byte that it puts is one of that.
pub record IsElfTorn (a : ElfAsked) (file : List ℕ) (old new : Option (List ℕ)) : Type 0 where
  pub difference : Difference
  pub makeable : IsDifference file difference
  pub leaves : LeavesElf a file (made_of file difference)
  pub left : Left
  pub part : IsLeft left difference.growth.items (owned_patches difference.pieces.items) old new

-- The edits that are asked for find nothing to change in a file.
pub record ChangesNothing (a : ElfAsked) (file : List ℕ) : Type 0 where
  pub edits : List GroupEdit
  pub are : edits_asked a ≡ Some edits
  pub made : Image
  pub makes : Makes edits file made
  pub same : made.changed ≡ false

-- writes to a store ended by this error
abbrev pub WritesEnd : (Error → Type 0) → Type 0 → ℕ → ℕ → Error → Type 0
WritesEnd writes takes_none old new e = EndsBy writes takes_none e old new

-- what an error leaves and tells: only writes that ended by it change bytes, where the command was accepted
abbrev pub FailsElf : (Error → Type 0) → ElfAsked → Option (List ℕ) → Option (List ℕ) → ElfCommandError → Type 0
FailsElf ended a old new (Io e) = Stays old new ⊎ (ended e × ((file : List ℕ) → old ≡ Some file → IsElfTorn a file old new))
FailsElf ended a old new e = Stays old new × ((file : List ℕ) → old ≡ Some file → TellsEdit a file e)

-- ---- at a path

-- an error of an opening: nothing was opened
abbrev pub IsUnopened : {S : Type 0} → (Error → Type 0) → ElfCommandError → Option S → Type 0
IsUnopened opens (Io e) None = opens e
IsUnopened opens e store = ⊥

-- nothing was opened, for this error, or what was opened comes back with the bytes that were known of the path
abbrev pub IsKeptAt : {S : Type 0} → (Error → Type 0) → (S → Option (List ℕ)) → Option (List ℕ) → ElfCommandError → Option S → Type 0
IsKeptAt opens contents known (Io e) None = opens e
IsKeptAt opens contents known e None = ⊥
IsKeptAt opens contents known e (Some store) = Stays known (contents store)

-- what an error at a path leaves and tells: nothing was opened, or what was opened holds what the error left of the bytes
-- there; it counted no failure before
abbrev pub FailsElfAt : {S : Type 0} → (Error → Type 0) → Type 0 → (S → ℕ) → ElfAsked → (S → Option (List ℕ)) → Option (List ℕ) → ElfCommandError → Option S → Type 0
FailsElfAt writes takes_none failed a contents known e None = ⊤
FailsElfAt writes takes_none failed a contents known e (Some store) =
    FailsElf (WritesEnd writes takes_none 0 (failed store)) a known (contents store) e
