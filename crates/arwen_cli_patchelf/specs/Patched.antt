-- What plans make of the bytes of stores and files, where they are known.
use Rattle.std.specs.Prelude.{ℕ, ◌≡◌, ◌⊎◌, All, List, Option, Some, None, drop, length, ⊤}
use Rattle.std.specs.Io.KnownBytes.{Appends}
use Rattle.std.specs.declared.io.Error.{Error}
use Rattle.byte_store.specs.Composed.{Stands}
use Rattle.byte_store.specs.Fault.{IsLeft}
use Rattle.byte_store.specs.Known.{Stays}
use Rattle.byte_store.specs.Laid.{Patch, changed}
use Rattle.byte_store.specs.Replaced.{IsReplacedInPart}
use Rattle.byte_store.specs.declared.writing.Left.{Left}
use Rattle.elf_commands.specs.ElfCommandError.{ElfCommandError}
use Rattle.elf_commands.specs.ElfCommandError.TheVariants.{Io, Memory}
use Rattle.elf_commands.specs.ElfStores.{WritesEnd}
use Rattle.elf_commands.specs.Shrinking.{Finding}
use Rattle.arwen_cli_patchelf.specs.Plans.{PlanMeant}
use Rattle.arwen_cli_patchelf.specs.Made.{AsksNothing, IsMadeOf, TellsUnmade}

-- ## In their place

-- known bytes become those that a plan makes of them
abbrev pub IsPatched : Finding → PlanMeant → Option (List ℕ) → Option (List ℕ) → Type 0
IsPatched finds plan old new = (file : List ℕ) → old ≡ Some file
    → (made : List ℕ) × IsMadeOf finds plan file made × (new ≡ Some made)

-- A run of writes that failed: it was to turn a file into what a plan makes of it, and each byte that it puts is one of that.
pub record IsPatchTorn (finds : Finding) (plan : PlanMeant) (file : List ℕ) (old new : Option (List ℕ)) : Type 0 where
  pub made : List ℕ
  pub is_made : IsMadeOf finds plan file made
  pub growth : List ℕ
  pub patches : List Patch
  pub end : ℕ
  pub makes : changed growth patches end file ≡ made
  pub behind : growth ≡ drop (length file) made
  pub stand : All (Stands made) patches
  pub left : Left
  pub part : IsLeft left growth patches old new

-- what an error leaves and tells: only writes that ended by it change bytes, where the plan was accepted
abbrev pub FailsPatch : (Error → Type 0) → Finding → PlanMeant → Option (List ℕ) → Option (List ℕ) → ElfCommandError → Type 0
FailsPatch ended finds plan old new (Io e) =
    Stays old new ⊎ (ended e × ((file : List ℕ) → old ≡ Some file → IsPatchTorn finds plan file old new))
FailsPatch ended finds plan old new e = Stays old new × ((file : List ℕ) → old ≡ Some file → TellsUnmade finds plan file e)

-- what an error leaves of known bytes that were to turn into others: they stay, or writes ended by it
abbrev pub IsUnwritten : (Error → Type 0) → List ℕ → List ℕ → Option (List ℕ) → Option (List ℕ) → ElfCommandError → Type 0
IsUnwritten ended bytes made old new (Io e) = Stays old new ⊎ (ended e × ((left : Left) × IsReplacedInPart bytes made left old new))
IsUnwritten ended bytes made old new Memory = Stays old new
IsUnwritten ended bytes made old new e = ⊥

-- a store that was opened for a plan has what the plan makes; none is opened for a plan that asks for nothing
abbrev pub IsPatchedAt : {S : Type 0} → (S → Option (List ℕ)) → Finding → PlanMeant → Option (List ℕ) → Option S → Type 0
IsPatchedAt contents finds plan known None = AsksNothing plan
IsPatchedAt contents finds plan known (Some store) = IsPatched finds plan known (contents store)

-- what an error at a path leaves and tells: nothing was opened, or what was opened holds what the error left of the bytes
-- there; it counted no failure before
abbrev pub FailsPatchAt : {S : Type 0} → (Error → Type 0) → Type 0 → (S → ℕ) → (S → Option (List ℕ)) → Finding → PlanMeant → Option (List ℕ) → ElfCommandError → Option S → Type 0
FailsPatchAt writes takes_none failed contents finds plan known e None = ⊤
FailsPatchAt writes takes_none failed contents finds plan known e (Some store) =
    FailsPatch (WritesEnd writes takes_none 0 (failed store)) finds plan known (contents store) e

-- what an error tells of the bytes at a path; one of reading or writing them tells nothing
abbrev pub TellsPlanPath : Finding → PlanMeant → Option (List ℕ) → ElfCommandError → Type 0
TellsPlanPath finds plan known (Io e) = ⊤
TellsPlanPath finds plan known e = (file : List ℕ) → known ≡ Some file → TellsUnmade finds plan file e

-- ## To another file

-- bytes are those that a plan makes of known ones
abbrev pub IsMadeKnown : Finding → PlanMeant → Option (List ℕ) → List ℕ → Type 0
IsMadeKnown finds plan known made = (file : List ℕ) → known ≡ Some file → IsMadeOf finds plan file made

-- a file that was created, of which `is_new` says what was known then, has got just these bytes
pub record HoldsBytes (is_new : Option (List ℕ) → Type 0) (bytes : List ℕ) (known : Option (List ℕ)) : Type 0 where
  pub start : Option (List ℕ)
  pub is_start : is_new start
  pub appended : Appends start known bytes

-- it has got what a plan makes of the bytes of a file, where they are known
pub record HoldsMade (is_new : Option (List ℕ) → Type 0) (finds : Finding) (plan : PlanMeant) (file : List ℕ) (known : Option (List ℕ)) : Type 0 where
  pub made : List ℕ
  pub is_made : IsMadeOf finds plan file made
  pub held : HoldsBytes is_new made known

abbrev pub HoldsKnown : (Option (List ℕ) → Type 0) → Finding → PlanMeant → Option (List ℕ) → Option (List ℕ) → Type 0
HoldsKnown is_new finds plan known new = (file : List ℕ) → known ≡ Some file → HoldsMade is_new finds plan file new
