-- What edits write over a file's bytes.
use Rattle.std.specs.Prelude.{ℕ, ◌≡◌, ◌+◌, ◌≤◌, List, [], ◌∷◌, length, take, All, Result, Ok, IfOk}
use Rattle.std.specs.List.{AllZip}
use Rattle.std.specs.declared.alloc.Global.{Global}
use Rattle.std.specs.declared.vec.Vec.{Vec}
use Rattle.arwen_macho.specs.declared.change.Change.{Change}
use Rattle.arwen_macho.specs.declared.front.Front.{Front}
use Rattle.arwen_macho.specs.declared.macho.MachoType.{MachoType}
use Rattle.macho_edits.specs.Call.{Call}
use Rattle.arwen_macho.specs.Change.{IsStepOf, changed_file}
use Rattle.arwen_macho.specs.Container.{container_bytes, container_step}
use Rattle.arwen_macho.specs.FatHeld.{FatHeld, IsFatState}
use Rattle.arwen_macho.specs.FatSlice.{HeldSlice}
use Rattle.arwen_macho.specs.FatState.{fat_laid_bytes, fat_step, put_at}
use Rattle.macho_edits.specs.Held.{Held}
use Rattle.macho_edits.specs.State.{Refusal, laid_bytes, step}
use Rattle.macho_edits.specs.Whole.{IsState}

-- bytes with fronts over them, the first one last
abbrev pub fronts_on : List Front → List ℕ → List ℕ
fronts_on [] bytes = bytes
fronts_on (front ∷ fronts) bytes = put_at front.offset front.bytes.items (fronts_on fronts bytes)

-- a front that lies in so many bytes
abbrev pub LiesIn : ℕ → Front → Type 0
LiesIn len front = front.offset + length front.bytes.items ≤ len

-- fronts that lie in the bytes of a state, and make them those of the state that a step gives
pub record LeadOn {S : Type 0} (bytes_of : S → List ℕ) (old : S) (answer : Result S Refusal) (fronts : List Front) : Type 0 where
  pub new : S
  pub is : answer ≡ Ok new
  pub inside : All (LiesIn (length (bytes_of old))) fronts
  pub after : fronts_on fronts (bytes_of old) ≡ bytes_of new

-- fronts that lead a thin file, a fat file or a file of either shape on to what these calls make of it
abbrev pub LeadThin : List Call → Held → Vec Front Global → Type 0
LeadThin calls held fronts = LeadOn laid_bytes held.state (step calls held.state) fronts.items

abbrev pub LeadFat : List Call → FatHeld → Vec Front Global → Type 0
LeadFat calls held fronts = LeadOn fat_laid_bytes held.state (fat_step calls held.state) fronts.items

abbrev pub LeadFile : List Call → MachoType → Vec Front Global → Type 0
LeadFile calls file fronts = LeadOn container_bytes file (container_step calls file) fronts.items

-- what these calls make of a thin file or of a fat one is a state that edits can lead to
abbrev pub StepIsThin : List Call → Held → Type 0
StepIsThin calls held = IfOk (step calls held.state) IsState

abbrev pub StepIsFat : List Call → FatHeld → Type 0
StepIsFat calls held = IfOk (fat_step calls held.state) IsFatState

-- the front of a thin file that stands at this offset, after a change that does what these calls do
pub record IsFrontAt (calls : List Call) (held : Held) (at : ℕ) (front : Front) : Type 0 where
  pub change : Change
  pub of : IsStepOf calls held change
  pub offset : front.offset ≡ at
  pub bytes : front.bytes.items ≡ take change.high (laid_bytes (changed_file held change).state)

-- the front of a slice, after a change that does what these calls do
abbrev pub IsFrontOf : List Call → HeldSlice → Front → Type 0
IsFrontOf calls m front = IsFrontAt calls m.inner m.arch.offset front

-- the fronts of the slices of a fat file, after changes that do what these calls do
abbrev pub AreFrontsOf : List Call → List HeldSlice → Vec Front Global → Type 0
AreFrontsOf calls slices fronts = AllZip (IsFrontOf calls) slices fronts.items
