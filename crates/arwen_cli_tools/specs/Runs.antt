-- What lines of patchelf do to their files, where these are known.
use Rattle.std.specs.Prelude.{ℕ, ◌≡◌, ◌⊎◌, List, [], ◌∷◌, Option, Some, string_bytes}
use Rattle.arwen_cli_patchelf.specs.Shrinking.{Finding}
use Rattle.arwen_cli_options.specs.Options.{Text}
use Rattle.arwen_cli_patchelf.specs.Made.{IsMadeOf}
use Rattle.arwen_cli_patchelf.specs.Patched.{TellsPlanPath}
use Rattle.arwen_cli_patchelf.specs.ElfCommandError.{ElfCommandError}
use Rattle.arwen_cli_patchelf.specs.Printing.{IfCommand, PrintsAll, TellsPrints}
use Rattle.arwen_cli_patchelf.specs.declared.error.PatchelfError.{PatchelfError}
use Rattle.arwen_cli_patchelf.specs.declared.error.PatchelfError.TheVariants.{Absent, Command}
use Rattle.arwen_cli_patchelf.specs.declared.printing.Print.{Print}
use Rattle.arwen_cli_patchelf.specs.Plans.{PlanMeant}
use Rattle.arwen_cli_tools.specs.Causes.{IsElfFaultLine}
use Rattle.arwen_cli_tools.specs.declared.ending.Ending.{Ending}
use Rattle.arwen_cli_tools.specs.declared.ending.Ending.TheVariants.{Done, Failed, Told}

-- a plan makes something of known bytes: none of its steps is refused
abbrev pub CanBeMade : Finding → PlanMeant → Option (List ℕ) → Type 0
CanBeMade finds plan known = (file : List ℕ) → known ≡ Some file → (made : List ℕ) × IsMadeOf finds plan file made

-- All is done that a line asks of the file at a path: its prints are written, and nothing else, and its plan is made.
pub record IsDone (finds : Finding) (prints : List Print) (plan : PlanMeant) (contents : Text → Option (List ℕ)) (path : Text) (old new : Option (List ℕ)) : Type 0 where
  pub printed : PrintsAll prints (contents path) old new
  pub made : CanBeMade finds plan (contents path)

-- of each of these files, one behind the other
abbrev pub AreDone : Finding → List Print → PlanMeant → (Text → Option (List ℕ)) → List Text → Option (List ℕ) → Option (List ℕ) → Type 0
AreDone finds prints plan contents [] old new = new ≡ old
AreDone finds prints plan contents (path ∷ rest) old new =
    (mid : Option (List ℕ)) × IsDone finds prints plan contents path old mid × AreDone finds prints plan contents rest mid new

-- why a plan isn't made of known bytes, or not written
abbrev pub TellsPlanFault : Finding → PlanMeant → Option (List ℕ) → PatchelfError → Type 0
TellsPlanFault finds plan known (Command e) = TellsPlanPath finds plan known e
TellsPlanFault finds plan known (Absent print) = ⊥

-- not all is done: a print fails, or, once all is printed, the plan is refused or not written
abbrev pub TellsStop : {W : Type 0} → (W → Option (List ℕ)) → (W → ℕ) → Finding → List Print → PlanMeant → Option (List ℕ) → W → W → PatchelfError → Type 0
TellsStop written failed finds prints plan known old new e =
    TellsPrints written failed prints known old new e
    ⊎ (PrintsAll prints known (written old) (written new) × TellsPlanFault finds plan known e)

-- Not all is done of the file at a path. An error of reading or writing has its cause, which `answered` tells of the path.
pub record Stops {W : Type 0} (written : W → Option (List ℕ)) (failed : W → ℕ) (finds : Finding) (prints : List Print) (plan : PlanMeant) (contents : Text → Option (List ℕ)) (answered : Text → ElfCommandError → Type 0) (path : Text) (old new : W) (e : PatchelfError) : Type 0 where
  pub tells : TellsStop written failed finds prints plan (contents path) old new e
  pub cause : IfCommand (answered path) e

-- of one of these files, which is at this path, once all is done of those before it
abbrev pub StopsAt : {W : Type 0} → (W → Option (List ℕ)) → (W → ℕ) → Finding → List Print → PlanMeant → (Text → Option (List ℕ)) → (Text → ElfCommandError → Type 0) → List Text → W → W → Text → PatchelfError → Type 0
StopsAt written failed finds prints plan contents answered [] old new at e = ⊥
StopsAt {W} written failed finds prints plan contents answered (path ∷ rest) old new at e =
    ((at ≡ path) × Stops written failed finds prints plan contents answered path old new e)
    ⊎ ((mid : W) × IsDone finds prints plan contents path (written old) (written mid)
    × StopsAt written failed finds prints plan contents answered rest mid new at e)

-- a line ends with one that tells the fault of the file at a path, whose bytes may be known
abbrev pub IsFaultEnding : PlanMeant → Option (List ℕ) → Text → PatchelfError → Ending → Type 0
IsFaultEnding plan known path e (Failed line) = IsElfFaultLine plan known path e (string_bytes line)
IsFaultEnding plan known path e Done = ⊥
IsFaultEnding plan known path e (Told text) = ⊥

-- how a line ends: all is done of all its files, or a line tells the first of which not all is done, for which it is read again
abbrev pub EndsFiles : {W : Type 0} → (W → Option (List ℕ)) → (W → ℕ) → Finding → List Print → PlanMeant → (Text → Option (List ℕ)) → (Text → ElfCommandError → Type 0) → (Text → Option (List ℕ)) → List Text → W → W → Ending → Type 0
EndsFiles written failed finds prints plan contents answered again paths old new Done = AreDone finds prints plan contents paths (written old) (written new)
EndsFiles written failed finds prints plan contents answered again paths old new (Failed line) =
    (path : Text) × (e : PatchelfError) × StopsAt written failed finds prints plan contents answered paths old new path e
    × IsElfFaultLine plan (again path) path e (string_bytes line)
EndsFiles written failed finds prints plan contents answered again paths old new (Told text) = ⊥
