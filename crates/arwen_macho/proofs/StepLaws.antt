-- A batch that was drafted upon a file's list, and the change or the refusal that it leads to, are the
-- step of the file's state.
use Rattle.std.proofs.Common.{◌≡◌, ℕ, List, length, Option, Some, None, Result, Ok, Err, IsErrAnd, ap, sym, refl, ◌∙◌, subst}
use Rattle.macho_image.specs.declared.format.Ctx.{Ctx}
use Rattle.macho_image.specs.Commands.{commands_of}
use Rattle.macho_image.specs.Form.{ctx_of}
use Rattle.arwen_macho.specs.declared.change.Change.{Change}
use Rattle.arwen_macho.specs.declared.macho.SingleMachO.TheInside.{Inside}
use Rattle.macho_edits.specs.Batch.{RefusesAt}
use Rattle.macho_edits.specs.Call.{Call, Cause}
use Rattle.arwen_macho.specs.Change.{IsChangeOf, RefusesRoom, changed_file, list_of}
use Rattle.macho_edits.specs.Held.{Held, RefusesStep}
use Rattle.arwen_macho.specs.HeldBy.{IsHeld, held_of}
use Rattle.macho_edits.specs.State.{Refusal, State, edited_by, step}
use Rattle.arwen_macho.proofs.StateLaws.{laid_shows, step-fits, step-no_room, step-refused}

-- a change of the drafted list is the step
pub step_changed : (calls : List Call) (held : Held) (change : Change) (commands : List (List ℕ)) → edited_by (ctx_of held.state.old) 0 calls held.state.list ≡ Ok commands → IsChangeOf held change → list_of held change ≡ commands → step calls held.state ≡ Ok (changed_file held change).state
step_changed calls held change commands drafted of list =
    let made : edited_by (ctx_of held.state.old) 0 calls held.state.list ≡ Ok (list_of held change) = drafted ∙ ap (λ (l : List (List ℕ)). Ok l) (sym list) in
    step-fits calls held.state (list_of held change) made of.room
    ∙ ap (λ (n : ℕ). Ok (record { old = held.state.old; list = list_of held change; high = n })) (sym of.high)

-- want of room for the drafted list refuses the step, behind its last edit
pub step_unfit : (calls : List Call) (s : State) (commands : List (List ℕ)) (found : Option Cause) → edited_by (ctx_of s.old) 0 calls s.list ≡ Ok commands → RefusesRoom s commands found → RefusesAt (length calls) found (step calls s)
step_unfit calls s commands None drafted refuses = tt
step_unfit calls s commands (Some cause) drafted refuses =
    step-no_room calls s commands drafted refuses.0 ∙ ap (λ (c : Cause). Err (record { index = length calls; cause = c })) (sym refuses.1)

-- a refusal at an index is one of its cause
pub refuses_step : {X : Type 0} (index : ℕ) (found : Option Cause) (answer : Result X Refusal) → RefusesAt index found answer → RefusesStep found answer
refuses_step index None answer refuses = tt
refuses_step {X} index (Some cause) answer refuses =
    let P : Result X Refusal → Type 0 = λ r. IsErrAnd r (λ refusal. refusal.cause ≡ cause) in
    subst P (sym refuses) refl

-- the form of the bytes as read, by the file as it is now
pub form_is : (s : Inside) (ctx : Ctx) → IsHeld s → ctx ≡ ctx_of s.inner.bytes → ctx ≡ ctx_of (held_of s).state.old
form_is s ctx is form = form ∙ ap ctx_of is.bytes ∙ (laid_shows (held_of s).state is.is_state).form

-- what a batch makes of the file's commands is what it makes of the state's list
pub edited_by_is : (s : Inside) (ctx : Ctx) (items : List (List ℕ)) (calls : List Call) → IsHeld s → ctx ≡ ctx_of s.inner.bytes → items ≡ commands_of s.inner.bytes → edited_by ctx 0 calls items ≡ edited_by (ctx_of (held_of s).state.old) 0 calls (held_of s).state.list
edited_by_is s ctx items calls is form list =
    ap (λ (c : Ctx). edited_by c 0 calls items) (form_is s ctx is form) ∙ ap (edited_by (ctx_of s.source.now) 0 calls) list

-- a refused batch of edits refuses the step
pub step_refused_batch : (calls : List Call) (s : State) (index : ℕ) (found : Option Cause) → RefusesAt index found (edited_by (ctx_of s.old) 0 calls s.list) → RefusesAt index found (step calls s)
step_refused_batch calls s index None refuses = tt
step_refused_batch calls s index (Some cause) refuses = step-refused calls s (record { index = index; cause = cause }) refuses
