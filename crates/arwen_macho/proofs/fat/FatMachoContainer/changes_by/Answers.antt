use Rattle.std.proofs.Common.{List, map, Vec, Global, subst}
use Rattle.std.specs.List.{AllZip}
use Rattle.std.proofs.lemmas.Result.{IfErr-weaker, IfOk-weaker}
use Rattle.arwen_macho.specs.declared.change.Change.{Change}
use Rattle.macho_edits.specs.declared.batch.MachoBatchError.{MachoBatchError}
use Rattle.macho_edits.specs.Batch.{RefusesAt}
use Rattle.macho_edits.specs.Edit.{calls_lent}
use Rattle.macho_edits.specs.Call.{Call}
use Rattle.arwen_macho.specs.FatChange.{AreStepOf}
use Rattle.arwen_macho.specs.FatHeld.{FatHeld}
use Rattle.arwen_macho.specs.FatHeldBy.{fat_held_of}
use Rattle.arwen_macho.specs.FatSlice.{HeldSlice, IsStepIn, slice_model}
use Rattle.arwen_macho.specs.FatState.{fat_step, step_slices}
use Rattle.macho_edits.specs.Refused.{cause_of}
use Rattle.arwen_macho.proofs.FatHeldLaws.{changes_are}
use Rattle.arwen_macho.proofs.FatStepLaws.{fat_batch_refused}
use Rattle.arwen_macho.proofs.fat.FatMachoContainer.changes_by.Goals as goal

pub returns-clause-ok : goal.returns-clause-ok
returns-clause-ok c =
    let calls : List Call = calls_lent c.args.edits.now in
    let s = c.self.inside in
    let Before : Vec Change Global → Type 0 = λ v. AllZip (IsStepIn calls) c.deref.result.now v.items in
    let After : Vec Change Global → Type 0 = λ v. AreStepOf calls c.args.self.now v.items in
    IfOk-weaker c.changes_all.result Before After
    (λ v steps.
    let Slices : List HeldSlice → Type 0 = λ l. AllZip (IsStepIn calls) l v.items in
    let Held : FatHeld → Type 0 = λ h. AreStepOf calls h v.items in
    subst Held c.self.view_is (changes_are calls s v.items c.self.invariant (subst Slices c.deref.ensures.value steps)))
    c.changes_all.ensures.ok

pub returns-clause-err : goal.returns-clause-err
returns-clause-err c =
    let calls : List Call = calls_lent c.args.edits.now in
    let s = c.self.inside in
    let Before : MachoBatchError → Type 0 = λ e. RefusesAt e.index (cause_of e.fault) (step_slices calls (map slice_model c.deref.result.now)) in
    let After : MachoBatchError → Type 0 = λ e. RefusesAt e.index (cause_of e.fault) (fat_step calls c.args.self.now.state) in
    IfErr-weaker c.changes_all.result Before After
    (λ e refuses.
    let Slices : List HeldSlice → Type 0 = λ l. RefusesAt e.index (cause_of e.fault) (step_slices calls (map slice_model l)) in
    let Held : FatHeld → Type 0 = λ h. RefusesAt e.index (cause_of e.fault) (fat_step calls h.state) in
    subst Held c.self.view_is (fat_batch_refused calls (fat_held_of s).state e.index (cause_of e.fault) (subst Slices c.deref.ensures.value refuses)))
    c.changes_all.ensures.err
