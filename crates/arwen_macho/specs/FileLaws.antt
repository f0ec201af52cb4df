-- Laws of files under edits, thin and fat: what they show as they are read, and after every batch.
use Rattle.std.specs.Prelude.{ℕ, ◌≡◌, All, List, None, Ok}
use Rattle.patch_bytes.specs.Bytes.{AreBytes}
use Rattle.arwen_macho.specs.declared.macho.MachoType.{MachoType}
use Rattle.macho_edits.specs.Call.{Call}
use Rattle.arwen_macho.specs.Container.{container_bytes, container_step, first_container}
use Rattle.arwen_macho.specs.ContainerShown.{IsFileState, ShowsFile}
use Rattle.arwen_macho.specs.FatHeld.{IsFatState}
use Rattle.arwen_macho.specs.FatShown.{FatShows}
use Rattle.arwen_macho.specs.FatState.{FatState, fat_laid_bytes}
use Rattle.arwen_macho.specs.Found.{container_found}
use Rattle.arwen_macho.specs.Shown.{Shows}
use Rattle.macho_edits.specs.State.{State, laid_bytes}
use Rattle.macho_edits.specs.Whole.{IsState, TextsAreBytes}

-- a file as it was parsed has the bytes that were read, in a state that edits can lead to
abbrev pub FreshHasItsBytes : Type 0
FreshHasItsBytes = (old : List ℕ) → AreBytes old → container_found old ≡ None → container_bytes (first_container old) ≡ old

abbrev pub FreshIsState : Type 0
FreshIsState = (old : List ℕ) → AreBytes old → container_found old ≡ None → IsFileState (first_container old)

-- what a batch makes of such a state is one again
abbrev pub StepIsState : Type 0
StepIsState =
    (calls : List Call) (old new : MachoType) → IsFileState old → All TextsAreBytes calls → container_step calls old ≡ Ok new
    → IsFileState new

-- the bytes of a state are accepted, and show it: of a thin file, of a fat one, of either
abbrev pub ThinBytesShow : Type 0
ThinBytesShow = (s : State) → IsState s → Shows s (laid_bytes s)

abbrev pub FatBytesShow : Type 0
FatBytesShow = (s : FatState) → IsFatState s → FatShows s (fat_laid_bytes s)

abbrev pub FileBytesShow : Type 0
FileBytesShow = (file : MachoType) → IsFileState file → ShowsFile file (container_bytes file)
