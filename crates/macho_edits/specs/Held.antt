-- What a container holds of a thin file.
use Rattle.std.specs.Prelude.{ℕ, ◌≡◌, Bool, true, false, List, [], ◌∷◌, Option, Some, None, Result, Ok, MatchResult, IsErrAnd, ⊤}
use Rattle.macho_image.specs.Image.{Image}
use Rattle.macho_edits.specs.declared.error.MachoError.{MachoError}
use Rattle.macho_edits.specs.Call.{Call, Cause}
use Rattle.macho_edits.specs.Refused.{cause_of}
use Rattle.macho_edits.specs.State.{Refusal, State, first_state, laid_bytes, step}

-- the state, and whether its bytes are a copy that was edited
pub record Held : Type 0 where
  pub state : State
  pub is_edited : Bool

-- the parsed file in a container
abbrev pub image_model : Held → Image
image_model held = record { bytes = laid_bytes held.state; is_edited = held.is_edited }

-- a file as it was parsed
abbrev pub held_at_read : List ℕ → Held
held_at_read old = record { state = first_state old; is_edited = false }

-- a cause is that of a refused step; want of memory is none
abbrev pub RefusesStep : {X : Type 0} → Option Cause → Result X Refusal → Type 0
RefusesStep None answer = ⊤
RefusesStep (Some cause) answer = IsErrAnd answer (λ refusal. refusal.cause ≡ cause)

-- an error of one edit is want of memory, or tells the cause of its refusal
abbrev pub RefusedBy : {X : Type 0} → MachoError → Result X Refusal → Type 0
RefusedBy e answer = RefusesStep (cause_of e) answer

-- whether the bytes are an edited copy after an accepted batch: a batch of no edits copies nothing
abbrev pub is_edited_by : List Call → Bool → Bool
is_edited_by [] was = was
is_edited_by (call ∷ calls) was = true

-- an answer to a batch, and what it leaves: the step, in a copy of the bytes unless nothing is edited; or
-- what was there, and an error that tells of the refused step what `tells` says
abbrev pub Steps : {E : Type 0} → (E → Result State Refusal → Type 0) → List Call → Held → Held → Result (Unit {0}) E → Type 0
Steps tells calls old new answer =
    MatchResult answer
    (λ _. (step calls old.state ≡ Ok new.state) × (new.is_edited ≡ is_edited_by calls old.is_edited))
    (λ e. (new ≡ old) × tells e (step calls old.state))

-- an answer to one edit, which is a batch of one
abbrev pub StepsOnce : Call → Held → Held → Result (Unit {0}) MachoError → Type 0
StepsOnce call old new answer = Steps RefusedBy (call ∷ []) old new answer
