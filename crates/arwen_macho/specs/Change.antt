-- A batch of edits that was decided, and waits to be carried out.
use Rattle.std.specs.Prelude.{ℕ, ◌≡◌, ◌≤◌, ◌<◌, max, take, true, List, Ok, Option, Some, None, ⊤}
use Rattle.std.specs.List.{concat}
use Rattle.macho_image.specs.Commands.{cut_commands}
use Rattle.macho_image.specs.Form.{ctx_of}
use Rattle.macho_image.specs.Prepared.{IsMadeFor, copy_for}
use Rattle.arwen_macho.specs.declared.change.Change.{Change}
use Rattle.arwen_macho.specs.declared.change.Fit.{Fit}
use Rattle.macho_edits.specs.Call.{Call, Cause}
use Rattle.macho_edits.specs.Call.Cause.{no_room}
use Rattle.macho_edits.specs.Held.{Held, image_model}
use Rattle.macho_edits.specs.State.{State, available, end_of, laid_bytes, step}
use Rattle.macho_edits.specs.Whole.{KeepsContents}

-- the list of load commands that a change brings
abbrev pub list_of : Held → Change → List (List ℕ)
list_of held change = cut_commands (ctx_of held.state.old).le change.prepared.count change.prepared.area

-- the change that brings in a list which fits, with the copy that it wants
abbrev pub change_with : Held → Fit → Change
change_with held fit = record {
  prepared = record { form = ctx_of (laid_bytes held.state); count = fit.count; area = fit.area.items; copy = copy_for (image_model held) };
  high = fit.high;
}

-- a change of this file: made for it, with a list that keeps what edits keep and ends where it may
pub record IsChangeOf (held : Held) (change : Change) : Type 0 where
  pub made : IsMadeFor (image_model held) change.prepared.count change.prepared.area change.prepared
  pub area : change.prepared.area ≡ concat (list_of held change)
  pub keeps : KeepsContents (ctx_of held.state.old).le held.state.list (list_of held change)
  pub room : end_of (ctx_of held.state.old) (list_of held change) ≤ available held.state
  pub high : change.high ≡ max held.state.high (end_of (ctx_of held.state.old) (list_of held change))

-- the file with the change carried out
abbrev pub changed_file : Held → Change → Held
changed_file held change = record {
  state = record { old = held.state.old; list = list_of held change; high = change.high };
  is_edited = true;
}

-- a list that fits, and is this one
abbrev pub IsFitFor : Held → List (List ℕ) → Fit → Type 0
IsFitFor held commands fit = IsChangeOf held (change_with held fit) × (list_of held (change_with held fit) ≡ commands)

-- the front of the file with a list that fits: behind it the bytes stay
abbrev pub front_fit : Held → Fit → List ℕ
front_fit held fit = take fit.high (laid_bytes (changed_file held (change_with held fit)).state)

-- a change of this file that does what these calls do
pub record IsStepOf (calls : List Call) (held : Held) (change : Change) : Type 0 where
  pub of : IsChangeOf held change
  pub steps : step calls held.state ≡ Ok (changed_file held change).state

-- a list that fits and is what these calls make
abbrev pub IsStepFit : List Call → Held → Fit → Type 0
IsStepFit calls held fit = IsStepOf calls held (change_with held fit)

-- an error of a change is want of memory, or want of room for this list
abbrev pub RefusesRoom : State → List (List ℕ) → Option Cause → Type 0
RefusesRoom s list None = ⊤
RefusesRoom s list (Some cause) =
    (available s < end_of (ctx_of s.old) list) × (cause ≡ no_room (end_of (ctx_of s.old) list) (available s))
