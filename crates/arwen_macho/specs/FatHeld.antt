-- What a container holds of a fat file, and what holds of every such state.
use Rattle.std.specs.Prelude.{ℕ, ◌≡◌, ◌∷◌, [], Bool, false, List, map, All, None, Result, Ok, MatchResult}
use Rattle.macho_image.specs.Fat.{archs_of, slice_of}
use Rattle.macho_edits.specs.declared.batch.MachoBatchError.{MachoBatchError}
use Rattle.macho_edits.specs.declared.error.MachoError.{MachoError}
use Rattle.macho_edits.specs.Batch.{RefusedAt}
use Rattle.macho_edits.specs.Call.{Call}
use Rattle.arwen_macho.specs.FatState.{FatState, Slice, fat_step, first_fat_state}
use Rattle.arwen_macho.specs.Found.{fat_found}
use Rattle.macho_edits.specs.Held.{RefusedBy, is_edited_by}
use Rattle.macho_edits.specs.State.{Refusal}
use Rattle.macho_edits.specs.Whole.{IsState}

-- the state, and whether its bytes are a copy that was edited
pub record FatHeld : Type 0 where
  pub state : FatState
  pub is_edited : Bool

-- a fat file as it was parsed
abbrev pub fat_held_at_read : List ℕ → FatHeld
fat_held_at_read old = record { state = first_fat_state old; is_edited = false }

-- a slice of these bytes, in a state that edits can lead to
pub record IsSlice (old : List ℕ) (s : Slice) : Type 0 where
  pub from : s.state.old ≡ slice_of old s.arch
  pub is_state : IsState s.state

-- a state that edits of an accepted fat file can lead to
pub record IsFatState (s : FatState) : Type 0 where
  pub accepted : fat_found s.old ≡ None
  pub archs : map (λ s. s.arch) s.slices ≡ archs_of s.old
  pub slices : All (IsSlice s.old) s.slices

-- an error tells the refusal that a batch meets in a fat file
abbrev pub FatRefuses : List Call → FatHeld → MachoBatchError → Type 0
FatRefuses calls held e = RefusedAt e (fat_step calls held.state)

-- an answer to a batch, and what it leaves: as `Steps` says of a thin file
abbrev pub FatSteps : {E : Type 0} → (E → Result FatState Refusal → Type 0) → List Call → FatHeld → FatHeld → Result (Unit {0}) E → Type 0
FatSteps tells calls old new answer =
    MatchResult answer
    (λ _. (fat_step calls old.state ≡ Ok new.state) × (new.is_edited ≡ is_edited_by calls old.is_edited))
    (λ e. (new ≡ old) × tells e (fat_step calls old.state))

-- to one edit, which is a batch of one, and to a batch
abbrev pub FatStepsOnce : Call → FatHeld → FatHeld → Result (Unit {0}) MachoError → Type 0
FatStepsOnce call old new answer = FatSteps RefusedBy (call ∷ []) old new answer

abbrev pub FatStepsBatch : List Call → FatHeld → FatHeld → Result (Unit {0}) MachoBatchError → Type 0
FatStepsBatch calls old new answer = FatSteps RefusedAt calls old new answer
