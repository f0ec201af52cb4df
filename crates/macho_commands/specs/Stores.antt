-- What a command makes of the bytes of a store, where they are known.
use Rattle.std.specs.Prelude.{ℕ, ◌≡◌, ◌⊎◌, All, List, None, Option, Some, ⊤}
use Rattle.std.specs.declared.io.Error.{Error}
use Rattle.byte_store.specs.Composed.{Stands}
use Rattle.byte_store.specs.Known.{Stays}
use Rattle.byte_store.specs.Laid.{Patch, first_bytes, laid}
use Rattle.macho_commands.specs.declared.error.MachoCommandError.{MachoCommandError}
use Rattle.macho_commands.specs.declared.error.MachoCommandError.TheVariants.{Io}
use Rattle.macho_commands.specs.Engine.{IsSignedOutcome, Tells, asked, outcome, outcome_of}
use Rattle.macho_commands.specs.Engine.Outcome.{bytes}
use Rattle.macho_commands.specs.Failures.{WritesEnd}
use Rattle.macho_commands.specs.Meaning.{MachoMeaning}
use Rattle.macho_commands.specs.declared.signing.Signing.{Signing}

-- known bytes become those that a command makes of them, which are accepted and show its edits
abbrev pub Patched : Signing → MachoMeaning → Option (List ℕ) → Option (List ℕ) → Type 0
Patched choice meaning old new = (file : List ℕ) → old ≡ Some file
    → (made : List ℕ) × (outcome choice meaning file ≡ bytes made) × (new ≡ Some made)
    × IsSignedOutcome choice meaning file made

-- the bytes of a patch stand in the edited file, before or after slots of its signatures are made anew
abbrev pub IsPartOf : List ℕ → List ℕ → Patch → Type 0
IsPartOf edited made patch = Stands edited patch ⊎ Stands made patch

-- The bytes of a file get first bytes of patches laid over them, in order. All of these make what the command makes, and each
-- is part of that, or of what the edits alone make. So every byte is, at its position, one of the file or of these two.
pub record IsTorn (choice : Signing) (meaning : MachoMeaning) (file : List ℕ) (new : Option (List ℕ)) : Type 0 where
  pub patches : List Patch
  pub makes : outcome choice meaning file ≡ bytes (laid patches file)
  pub edited : List ℕ
  pub is_edited : outcome_of (asked meaning) file ≡ bytes edited
  pub stand : All (IsPartOf edited (laid patches file)) patches
  pub count : ℕ
  pub first : new ≡ Some (laid (first_bytes count patches) file)

-- known bytes are torn
abbrev pub Torn : Signing → MachoMeaning → Option (List ℕ) → Option (List ℕ) → Type 0
Torn choice meaning old new = (file : List ℕ) → old ≡ Some file → IsTorn choice meaning file new

-- a refusal leaves the bytes, and tells the outcome
abbrev pub RefusesPatch : Signing → MachoMeaning → Option (List ℕ) → Option (List ℕ) → MachoCommandError → Type 0
RefusesPatch choice meaning old new e =
    Stays old new × ((file : List ℕ) → old ≡ Some file → Tells (outcome choice meaning file) e)

-- what an error leaves and tells: only writes that ended by it change bytes, where the command was accepted
abbrev pub FailsPatch : (Error → Type 0) → Signing → MachoMeaning → Option (List ℕ) → Option (List ℕ) → MachoCommandError → Type 0
FailsPatch ended choice meaning old new (Io e) = Stays old new ⊎ (ended e × Torn choice meaning old new)
FailsPatch ended choice meaning old new e = RefusesPatch choice meaning old new e

-- what an error at a path leaves and tells: nothing was opened, or what was opened, which counted no failure before, holds what
-- the error left of the bytes there
abbrev pub FailsPatchAt : {S : Type 0} → (Error → Type 0) → Type 0 → (S → ℕ) → Signing → MachoMeaning → (S → Option (List ℕ)) → Option (List ℕ) → MachoCommandError → Option S → Type 0
FailsPatchAt writes takes_none failed choice meaning contents known e None = ⊤
FailsPatchAt writes takes_none failed choice meaning contents known e (Some store) =
    FailsPatch (WritesEnd writes takes_none 0 (failed store)) choice meaning known (contents store) e
