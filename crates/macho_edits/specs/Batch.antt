-- Batches of edits: which calls they make, and what the answer to one says.
use Rattle.std.specs.Prelude.{ℕ, ◌≡◌, List, map, Option, Some, None, Result, Ok, Err, MatchResult, ⊤, string_bytes}
use Rattle.macho_image.specs.declared.format.Ctx.{Ctx}
use Rattle.macho_edits.specs.declared.batch.MachoBatchError.{MachoBatchError}
use Rattle.macho_edits.specs.declared.batch.MachoEdit.{MachoEdit}
use Rattle.macho_edits.specs.declared.batch.MachoEdit.TheVariants.{AddRpath, ChangeInstallId, ChangeInstallName, ChangeRpath, RemoveRpath}
use Rattle.macho_edits.specs.Call.{Call, Cause}
use Rattle.macho_edits.specs.Call.Call.{add_rpath, change_install_id, change_install_name, change_rpath, remove_rpath}
use Rattle.macho_edits.specs.Held.{Held, Steps}
use Rattle.macho_edits.specs.Refused.{cause_of}
use Rattle.macho_edits.specs.State.{Refusal, edited_by, step}

abbrev pub call_made : MachoEdit → Call
call_made (AddRpath new) = add_rpath (string_bytes new)
call_made (ChangeRpath old new) = change_rpath (string_bytes old) (string_bytes new)
call_made (RemoveRpath old) = remove_rpath (string_bytes old)
call_made (ChangeInstallId new) = change_install_id (string_bytes new)
call_made (ChangeInstallName old new) = change_install_name (string_bytes old) (string_bytes new)

-- the calls that a batch makes
abbrev pub calls_of : List MachoEdit → List Call
calls_of edits = map call_made edits

-- a cause at an index is the refusal that the definition gives; want of memory is none
abbrev pub RefusesAt : {X : Type 0} → ℕ → Option Cause → Result X Refusal → Type 0
RefusesAt index None answer = ⊤
RefusesAt index (Some cause) answer = answer ≡ Err (record { index = index; cause = cause })

-- an error of a batch is want of memory, or tells the refusal at its index
abbrev pub RefusedAt : {X : Type 0} → MachoBatchError → Result X Refusal → Type 0
RefusedAt e answer = RefusesAt e.index (cause_of e.fault) answer

-- an error tells the refusal that a batch meets in a thin file
abbrev pub ThinRefuses : List Call → Held → MachoBatchError → Type 0
ThinRefuses calls held e = RefusedAt e (step calls held.state)

-- an answer to calls on a list, and the list that they leave
abbrev pub EditsAll : Ctx → List Call → List (List ℕ) → List (List ℕ) → Result (Unit {0}) MachoBatchError → Type 0
EditsAll ctx calls old new answer =
    MatchResult answer (λ _. edited_by ctx 0 calls old ≡ Ok new) (λ e. RefusedAt e (edited_by ctx 0 calls old))

-- an answer to a batch of a thin file, and what it leaves
abbrev pub StepsBatch : List Call → Held → Held → Result (Unit {0}) MachoBatchError → Type 0
StepsBatch calls old new answer = Steps RefusedAt calls old new answer
