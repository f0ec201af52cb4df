use Rattle.std.proofs.Common.{List, map, Vec, Global, subst}
use Rattle.std.specs.List.{AllZip}
use Rattle.std.proofs.lemmas.Result.{IfErr-weaker, IfOk-weaker}
use Rattle.macho_edits.specs.declared.batch.MachoBatchError.{MachoBatchError}
use Rattle.arwen_macho.specs.declared.front.Front.{Front}
use Rattle.macho_edits.specs.Batch.{RefusesAt}
use Rattle.macho_edits.specs.Edit.{calls_lent}
use Rattle.macho_edits.specs.Call.{Call}
use Rattle.arwen_macho.specs.FatHeld.{FatHeld}
use Rattle.arwen_macho.specs.FatHeldBy.{fat_held_of}
use Rattle.arwen_macho.specs.FatSlice.{HeldSlice, slice_model}
use Rattle.arwen_macho.specs.FatState.{fat_laid_bytes, fat_step, step_slices}
use Rattle.arwen_macho.specs.Fronts.{IsFrontOf, LeadOn, StepIsFat}
use Rattle.macho_edits.specs.Refused.{cause_of}
use Rattle.arwen_macho.proofs.FatStepLaws.{fat_batch_refused}
use Rattle.arwen_macho.proofs.LeadLaws.{lead_fat}
use Rattle.arwen_macho.proofs.StatesLaws.{on_ok, step_fat}
use Rattle.arwen_macho.proofs.fat.FatMachoContainer.fronts_by.Goals as goal

pub returns-clause-ok : goal.returns-clause-ok
returns-clause-ok c =
    let calls : List Call = calls_lent c.args.edits.now in
    let s = c.self.inside in
    let Before : Vec Front Global → Type 0 = λ v. AllZip (IsFrontOf calls) c.deref.result.now v.items in
    let After : Vec Front Global → Type 0 = λ v. LeadOn fat_laid_bytes c.args.self.now.state (fat_step calls c.args.self.now.state) v.items in
    IfOk-weaker c.fronts_all.result Before After
    (λ v fronts.
    let Slices : List HeldSlice → Type 0 = λ l. AllZip (IsFrontOf calls) l v.items in
    let Held : FatHeld → Type 0 = λ h. LeadOn fat_laid_bytes h.state (fat_step calls h.state) v.items in
    subst Held c.self.view_is (lead_fat calls s v.items c.self.invariant (subst Slices c.deref.ensures.value fronts)))
    c.fronts_all.ensures.ok

pub returns-clause-err : goal.returns-clause-err
returns-clause-err c =
    let calls : List Call = calls_lent c.args.edits.now in
    let s = c.self.inside in
    let Before : MachoBatchError → Type 0 = λ e. RefusesAt e.index (cause_of e.fault) (step_slices calls (map slice_model c.deref.result.now)) in
    let After : MachoBatchError → Type 0 = λ e. RefusesAt e.index (cause_of e.fault) (fat_step calls c.args.self.now.state) in
    IfErr-weaker c.fronts_all.result Before After
    (λ e refuses.
    let Slices : List HeldSlice → Type 0 = λ l. RefusesAt e.index (cause_of e.fault) (step_slices calls (map slice_model l)) in
    let Held : FatHeld → Type 0 = λ h. RefusesAt e.index (cause_of e.fault) (fat_step calls h.state) in
    subst Held c.self.view_is (fat_batch_refused calls (fat_held_of s).state e.index (cause_of e.fault) (subst Slices c.deref.ensures.value refuses)))
    c.fronts_all.ensures.err

pub returns-clause-state : goal.returns-clause-state
returns-clause-state c =
    let calls : List Call = calls_lent c.args.edits.now in
    let State : FatHeld → Type 0 = λ h. StepIsFat calls h in
    let is = subst State c.self.view_is (step_fat calls (fat_held_of c.self.inside).state c.self.invariant.is_state c.requires) in
    on_ok c.fronts_all.result (StepIsFat calls c.args.self.now) is
