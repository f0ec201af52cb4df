-- What the bytes of a container show to whoever parses them again.
use Rattle.std.specs.Prelude.{ℕ, ◌≡◌, Bool, true, false, List, None, Result, IfOk}
use Rattle.arwen_macho.specs.declared.macho.MachoType.{MachoType}
use Rattle.arwen_macho.specs.declared.macho.MachoType.TheVariants.{Fat, SingleArch}
use Rattle.arwen_macho.specs.Container.{container_bytes}
use Rattle.arwen_macho.specs.FatHeld.{IsFatState}
use Rattle.arwen_macho.specs.FatShown.{FatShows}
use Rattle.arwen_macho.specs.Found.{begins_fat, container_found}
use Rattle.arwen_macho.specs.Shown.{Shows}
use Rattle.macho_edits.specs.State.{Refusal}
use Rattle.macho_edits.specs.Whole.{IsState}

-- whether a file is fat
abbrev pub is_fat_file : MachoType → Bool
is_fat_file (SingleArch held) = false
is_fat_file (Fat held) = true

-- a state that edits of an accepted file can lead to
abbrev pub IsFileState : MachoType → Type 0
IsFileState (SingleArch held) = IsState held.state
IsFileState (Fat held) = IsFatState held.state

-- what the bytes show of the state: the edited list of load commands, in each slice of a fat file
abbrev pub shows_state : MachoType → List ℕ → Type 0
shows_state (SingleArch held) bytes = Shows held.state bytes
shows_state (Fat held) bytes = FatShows held.state bytes

-- a parse accepts them, finds the same shape, and what the state holds
pub record ShowsFile (file : MachoType) (bytes : List ℕ) : Type 0 where
  pub accepted : container_found bytes ≡ None
  pub shape : begins_fat bytes ≡ is_fat_file file
  pub state : shows_state file bytes

-- where a batch is accepted, the bytes that it leaves are accepted again and show what it made
abbrev pub StepShows : Result MachoType Refusal → Type 0
StepShows answer = IfOk answer (λ new. ShowsFile new (container_bytes new))
