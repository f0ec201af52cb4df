-- The program's answers to errors of the library tell the outcome.
use Rattle.std.proofs.Common.{◌≡◌, ◌∷◌, [], Option, Some, None, Result, Ok, Err, List, ℕ, length, refl, sym, ap, ◌∙◌, subst}
use Rattle.std.specs.List.{All}
use Rattle.macho_edits.specs.declared.batch.MachoBatchError.{MachoBatchError}
use Rattle.macho_edits.specs.declared.commands.CommandBuilderError.TheVariants.{CStrError, ScrollError, Memory as builder_memory}
use Rattle.macho_edits.specs.declared.error.MachoError.{MachoError}
use Rattle.macho_edits.specs.declared.error.MachoError.TheVariants.{CommandBuilderError, DylibIdMissing, DylibNameMissing, Memory, NoRoom, Parsing, RpathMissing, UnixArchive}
use Rattle.arwen_macho.specs.declared.front.Front.{Front}
use Rattle.arwen_macho.specs.declared.macho.MachoType.{MachoType}
use Rattle.macho_edits.specs.Batch.{RefusesAt}
use Rattle.macho_edits.specs.Call.{Call, Cause}
use Rattle.arwen_macho.specs.Found.{container_found}
use Rattle.macho_edits.specs.Held.{RefusesStep}
use Rattle.macho_edits.specs.Refused.{cause_of}
use Rattle.macho_edits.specs.State.{Refusal}
use Rattle.macho_commands.specs.Engine.{AreAsked, Asked, Tells, TellsBatch, TellsMacho, WritesEdits, outcome_of, refused_answer, written}
use Rattle.macho_commands.specs.Engine.Asked.{one, several}
use Rattle.macho_commands.specs.Engine.Outcome.{bytes, refused, refused_batch}
use Rattle.arwen_macho.specs.Container.{container_bytes, container_step, first_container}
use Rattle.arwen_macho.specs.ContainerShown.{ShowsFile, StepShows}
use Rattle.arwen_macho.specs.Fronts.{LeadOn, LiesIn, fronts_on}
use Rattle.macho_commands.specs.Errors.{answer_by_fault, answer_to, answer_to_batch}

refused_by : (cause : Cause) (e : MachoError) (answer : Result MachoType Refusal) → cause_of e ≡ Some cause → RefusesStep (Some cause) answer → TellsMacho (written refused answer) e
refused_by cause e (Ok file) is refuses = absurd refuses
refused_by cause e (Err refusal) is refuses = is ∙ ap (λ (c : Cause). Some c) (sym refuses)

pub tells_step : (answer : Result MachoType Refusal) (e : MachoError) → RefusesStep (cause_of e) answer → Tells (written refused answer) (answer_to e)
tells_step answer Memory refuses = tt
tells_step answer (Parsing fault) refuses = refused_by _ (Parsing fault) answer refl refuses
tells_step answer UnixArchive refuses = refused_by _ UnixArchive answer refl refuses
tells_step answer (CommandBuilderError (CStrError nul)) refuses = refused_by _ (CommandBuilderError (CStrError nul)) answer refl refuses
tells_step answer (CommandBuilderError ScrollError) refuses = refused_by _ (CommandBuilderError ScrollError) answer refl refuses
tells_step answer (CommandBuilderError builder_memory) refuses = refused_by _ (CommandBuilderError builder_memory) answer refl refuses
tells_step answer (RpathMissing text) refuses = refused_by _ (RpathMissing text) answer refl refuses
tells_step answer (DylibNameMissing text) refuses = refused_by _ (DylibNameMissing text) answer refl refuses
tells_step answer DylibIdMissing refuses = refused_by _ DylibIdMissing answer refl refuses
tells_step answer (NoRoom needed available) refuses = refused_by _ (NoRoom needed available) answer refl refuses

batch_by : (cause : Cause) (e : MachoBatchError) (answer : Result MachoType Refusal) → cause_of e.fault ≡ Some cause → RefusesAt e.index (Some cause) answer → TellsBatch (written refused_batch answer) e
batch_by cause e answer is refuses = rw refuses (refl, is)

tells_batch_by : (answer : Result MachoType Refusal) (e : MachoBatchError) (fault : MachoError) → e.fault ≡ fault → RefusesAt e.index (cause_of fault) answer → Tells (written refused_batch answer) (answer_by_fault e fault)
tells_batch_by answer e Memory is refuses = tt
tells_batch_by answer e (Parsing fault) is refuses = batch_by _ e answer (ap cause_of is) refuses
tells_batch_by answer e UnixArchive is refuses = batch_by _ e answer (ap cause_of is) refuses
tells_batch_by answer e (CommandBuilderError (CStrError nul)) is refuses = batch_by _ e answer (ap cause_of is) refuses
tells_batch_by answer e (CommandBuilderError ScrollError) is refuses = batch_by _ e answer (ap cause_of is) refuses
tells_batch_by answer e (CommandBuilderError builder_memory) is refuses = batch_by _ e answer (ap cause_of is) refuses
tells_batch_by answer e (RpathMissing text) is refuses = batch_by _ e answer (ap cause_of is) refuses
tells_batch_by answer e (DylibNameMissing text) is refuses = batch_by _ e answer (ap cause_of is) refuses
tells_batch_by answer e DylibIdMissing is refuses = batch_by _ e answer (ap cause_of is) refuses
tells_batch_by answer e (NoRoom needed available) is refuses = batch_by _ e answer (ap cause_of is) refuses

pub tells_batch : (answer : Result MachoType Refusal) (e : MachoBatchError) → RefusesAt e.index (cause_of e.fault) answer → Tells (written refused_batch answer) (answer_to_batch e)
tells_batch answer e refuses = tells_batch_by answer e e.fault refl refuses

-- a refusal at an index is one for its cause
refuses_there : (index : ℕ) (found : Option Cause) (answer : Result MachoType Refusal) → RefusesAt index found answer → RefusesStep found answer
refuses_there index None answer refuses = tt
refuses_there index (Some cause) answer refuses = rw refuses refl

-- the answers to a command whose edits are known
pub tells_refused : (a : Asked) (calls : List Call) (file : List ℕ) (e : MachoBatchError) → AreAsked a calls → container_found file ≡ None → RefusesAt e.index (cause_of e.fault) (container_step calls (first_container file)) → Tells (outcome_of a file) (refused_answer a e)
tells_refused (one call) calls file e are found refuses =
    let Refused : List Call → Type 0 = λ l. RefusesAt e.index (cause_of e.fault) (container_step l (first_container file)) in
    rw found (tells_step (container_step (call ∷ []) (first_container file)) e.fault (refuses_there e.index (cause_of e.fault) (container_step (call ∷ []) (first_container file)) (subst Refused are refuses)))
tells_refused (several edits) calls file e are found refuses =
    rw (are, found) (tells_batch (container_step calls (first_container file)) e refuses)

pub writes_on : (a : Asked) (calls : List Call) (file : List ℕ) (fronts : List Front) → AreAsked a calls → container_found file ≡ None → container_bytes (first_container file) ≡ file → LeadOn container_bytes (first_container file) (container_step calls (first_container file)) fronts → StepShows (container_step calls (first_container file)) → WritesEdits a file fronts
writes_on a calls file fronts are found same lead shows =
    let Inside : List ℕ → Type 0 = λ l. All (LiesIn (length l)) fronts in
    let Shown : List ℕ → Type 0 = λ l. ShowsFile lead.new l in
    let after : container_bytes lead.new ≡ fronts_on fronts file = sym lead.after ∙ ap (fronts_on fronts) same in
    let step_shows : StepShows (Ok lead.new) = subst StepShows lead.is shows in
    record {
      inside = subst Inside same lead.inside;
      is = outcome_is a calls file lead.new are found lead.is ∙ ap (λ (l : List ℕ). bytes l) after;
      shows = record { calls = calls; are = are; made = lead.new; step = lead.is; bytes = sym after; shows = subst Shown after step_shows };
    }
  where
    outcome_is : (a : Asked) (calls : List Call) (file : List ℕ) (new : MachoType) → AreAsked a calls → container_found file ≡ None → container_step calls (first_container file) ≡ Ok new → outcome_of a file ≡ bytes (container_bytes new)
    outcome_is (one call) calls file new are found is = rw (found, ← are, is) refl
    outcome_is (several edits) calls file new are found is = rw (are, found, is) refl
