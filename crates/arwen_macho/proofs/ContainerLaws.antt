-- What the container of either shape takes over from the shape that it holds.
use Rattle.std.proofs.Common.{◌≡◌, ℕ, Bool, List, [], ◌∷◌, ◌++◌, Option, Some, None, Result, Ok, Err, IsOk, ap, sym, refl, ◌∙◌, subst}
use Rattle.macho_edits.specs.declared.batch.MachoBatchError.{MachoBatchError}
use Rattle.arwen_macho.specs.declared.macho.MachoType.{MachoType}
use Rattle.arwen_macho.specs.declared.macho.MachoType.TheVariants.{Fat, SingleArch}
use Rattle.macho_edits.specs.Batch.{RefusesAt, StepsBatch}
use Rattle.macho_edits.specs.Call.{Call, Cause}
use Rattle.arwen_macho.specs.Container.{AnswersAll, AnswersBatch, TakesBatch, as_fat, as_thin, container_step, left_by, left_by_all}
use Rattle.arwen_macho.specs.FatHeld.{FatHeld, FatStepsBatch}
use Rattle.arwen_macho.specs.FatState.{FatState, fat_step}
use Rattle.macho_edits.specs.Held.{Held, is_edited_by}
use Rattle.macho_edits.specs.Refused.{cause_of}
use Rattle.macho_edits.specs.State.{Refusal, State, step}

-- a refusal at an index
refuses_thin_at : (index : ℕ) (found : Option Cause) (flag : Bool) (answer : Result State Refusal) → RefusesAt index found answer → RefusesAt index found (as_thin flag answer)
refuses_thin_at index None flag answer refuses = tt
refuses_thin_at index (Some cause) flag answer refuses = ap (as_thin flag) refuses

refuses_fat_at : (index : ℕ) (found : Option Cause) (flag : Bool) (answer : Result FatState Refusal) → RefusesAt index found answer → RefusesAt index found (as_fat flag answer)
refuses_fat_at index None flag answer refuses = tt
refuses_fat_at index (Some cause) flag answer refuses = ap (as_fat flag) refuses

pub refused_thin : (calls : List Call) (held : Held) (index : ℕ) (found : Option Cause) → RefusesAt index found (step calls held.state) → RefusesAt index found (container_step calls (SingleArch held))
unfolding container_step
refused_thin calls held index found refuses = refuses_thin_at index found (is_edited_by calls held.is_edited) (step calls held.state) refuses

pub refused_fat : (calls : List Call) (held : FatHeld) (index : ℕ) (found : Option Cause) → RefusesAt index found (fat_step calls held.state) → RefusesAt index found (container_step calls (Fat held))
unfolding container_step
refused_fat calls held index found refuses = refuses_fat_at index found (is_edited_by calls held.is_edited) (fat_step calls held.state) refuses

-- a thin file takes a batch
pub takes_thin : (calls : List Call) (old new : Held) (answer : Result (Unit {0}) MachoBatchError) → StepsBatch calls old new answer → TakesBatch calls (SingleArch old) (SingleArch new) answer
unfolding container_step
takes_thin calls old new (Ok done) steps =
    ap (as_thin (is_edited_by calls old.is_edited)) steps.0 ∙ ap (λ (flag : Bool). Ok (SingleArch (record { state = new.state; is_edited = flag }))) (sym steps.1)
takes_thin calls old new (Err e) steps =
    (ap (λ (held : Held). SingleArch held) steps.0, refuses_thin_at e.index (cause_of e.fault) (is_edited_by calls old.is_edited) (step calls old.state) steps.1)

-- a fat file takes a batch
pub takes_fat : (calls : List Call) (old new : FatHeld) (answer : Result (Unit {0}) MachoBatchError) → FatStepsBatch calls old new answer → TakesBatch calls (Fat old) (Fat new) answer
unfolding container_step
takes_fat calls old new (Ok done) steps =
    ap (as_fat (is_edited_by calls old.is_edited)) steps.0 ∙ ap (λ (flag : Bool). Ok (Fat (record { state = new.state; is_edited = flag }))) (sym steps.1)
takes_fat calls old new (Err e) steps =
    (ap (λ (held : FatHeld). Fat held) steps.0, refuses_fat_at e.index (cause_of e.fault) (is_edited_by calls old.is_edited) (fat_step calls old.state) steps.1)

-- what a refused batch leaves
left_refused : (old : MachoType) (answer : Result MachoType Refusal) (e : MachoBatchError) → left_by old answer (Err e) ≡ old
left_refused old (Ok new) e = refl
left_refused old (Err refusal) e = refl

-- a batch that was taken is answered, and leaves what its answer says
pub taken_is : (calls : List Call) (old new : MachoType) (answer : Result (Unit {0}) MachoBatchError) → TakesBatch calls old new answer → AnswersBatch calls old answer × (new ≡ left_by old (container_step calls old) answer)
taken_is calls old new (Ok done) taken =
    let Answered : Result MachoType Refusal → Type 0 = λ r. IsOk r × (new ≡ left_by old r (Ok done)) in
    subst Answered (sym taken) (refl, refl)
taken_is calls old new (Err e) taken = (taken.1, taken.0 ∙ sym (left_refused old (container_step calls old) e))

-- a list of batches with one more, and its answer
pub answers_more : (batches : List (List Call)) (answers : List (Result (Unit {0}) MachoBatchError)) (calls : List Call) (answer : Result (Unit {0}) MachoBatchError) (old : MachoType) → AnswersAll batches answers old → AnswersBatch calls (left_by_all batches answers old) answer → AnswersAll (batches ++ (calls ∷ [])) (answers ++ (answer ∷ [])) old
answers_more [] [] calls answer old all here = (here, tt)
answers_more [] (other ∷ answers) calls answer old all here = elim all [ ]
answers_more (batch ∷ batches) [] calls answer old all here = elim all [ ]
answers_more (batch ∷ batches) (other ∷ answers) calls answer old all here =
    (all.0, answers_more batches answers calls answer (left_by old (container_step batch old) other) all.1 here)

pub left_more : (batches : List (List Call)) (answers : List (Result (Unit {0}) MachoBatchError)) (calls : List Call) (answer : Result (Unit {0}) MachoBatchError) (old : MachoType) → AnswersAll batches answers old → left_by_all (batches ++ (calls ∷ [])) (answers ++ (answer ∷ [])) old ≡ left_by (left_by_all batches answers old) (container_step calls (left_by_all batches answers old)) answer
left_more [] [] calls answer old all = refl
left_more [] (other ∷ answers) calls answer old all = elim all [ ]
left_more (batch ∷ batches) [] calls answer old all = elim all [ ]
left_more (batch ∷ batches) (other ∷ answers) calls answer old all =
    left_more batches answers calls answer (left_by old (container_step batch old) other) all.1
