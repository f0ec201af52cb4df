-- Why another file hasn't got what a plan makes of the bytes at a path.
use Rattle.std.specs.Prelude.{ℕ, ◌⊎◌, List, Option, Some, None}
use Rattle.std.specs.declared.io.Error.{Error}
use Rattle.elf_commands.specs.Counted.{Stops}
use Rattle.elf_commands.specs.ElfCommandError.{ElfCommandError}
use Rattle.elf_commands.specs.ElfCommandError.TheVariants.{Io}
use Rattle.elf_commands.specs.Shrinking.{Finding}
use Rattle.arwen_cli_patchelf.specs.Plans.{PlanMeant}
use Rattle.arwen_cli_patchelf.specs.Patched.{IsMadeKnown}

-- ## Bytes

-- a file that was created, of which `is_new` says what was known then, has got the first of these bytes, but not all, and
-- then a write failed; so many writes failed
pub record HoldsFront (is_new : Option (List ℕ) → Type 0) (bytes : List ℕ) (known : Option (List ℕ)) (failed : ℕ) : Type 0 where
  pub start : Option (List ℕ)
  pub is_start : is_new start
  pub stops : Stops bytes start known 0 failed

-- why a writer hasn't got all bytes: a write failed. `inner` is the writer beside its count of failures
abbrev pub StopsIn : {W X : Type 0} → (W → Option (List ℕ)) → (X → W) → (X → ℕ) → List ℕ → Option (List ℕ) → ElfCommandError → Option X → Type 0
StopsIn contents inner failed bytes known (Io e) (Some file) = Stops bytes known (contents (inner file)) 0 (failed file)
StopsIn contents inner failed bytes known e file = ⊥

-- why a new file hasn't got all bytes: none was created, for this error; or a write to it failed
abbrev pub IsCutOff : {W X : Type 0} → (Error → Type 0) → (Option (List ℕ) → Type 0) → (W → Option (List ℕ)) → (X → W) → (X → ℕ) → List ℕ → ElfCommandError → Option X → Type 0
IsCutOff creates is_new contents inner failed bytes (Io e) None = creates e
IsCutOff creates is_new contents inner failed bytes (Io e) (Some file) = HoldsFront is_new bytes (contents (inner file)) (failed file)
IsCutOff creates is_new contents inner failed bytes e file = ⊥

-- ## Plans

-- what a plan makes of known bytes is there, and a new file hasn't got all of it
abbrev pub IsMadeAndCutOff : {W X : Type 0} → (Error → Type 0) → (Option (List ℕ) → Type 0) → (W → Option (List ℕ)) → (X → W) → (X → ℕ)
    → Finding → PlanMeant → Option (List ℕ) → ElfCommandError → Option X → Type 0
IsMadeAndCutOff creates is_new contents inner failed finds plan known e file =
    (made : List ℕ) × IsMadeKnown finds plan known made × IsCutOff creates is_new contents inner failed made e file

-- an error of a plan whose bytes are to be in another file: without a file it may be one of reading, for which `unread` tells the
-- cause; or else what the plan makes is there
abbrev pub HasOutputCause : {W X : Type 0} → (ElfCommandError → Type 0) → (Error → Type 0) → (Option (List ℕ) → Type 0) → (W → Option (List ℕ)) → (X → W) → (X → ℕ)
    → Finding → PlanMeant → Option (List ℕ) → ElfCommandError → Option X → Type 0
HasOutputCause unread creates is_new contents inner failed finds plan known e None =
    unread e ⊎ IsMadeAndCutOff creates is_new contents inner failed finds plan known e None
HasOutputCause unread creates is_new contents inner failed finds plan known e (Some file) =
    IsMadeAndCutOff creates is_new contents inner failed finds plan known e (Some file)
