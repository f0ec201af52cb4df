use Rattle.std.proofs.Common.{◌<◌, ◌+◌, ℕ, List, length, take, drop, map, sym, subst, arith}
use Rattle.std.specs.List.{AllZip}
use Rattle.std.proofs.lemmas.Result.{err_from_is_err_and}
use Rattle.arwen_macho.specs.declared.front.Front.{Front}
use Rattle.macho_edits.specs.Batch.{RefusesAt}
use Rattle.macho_edits.specs.Edit.{calls_lent}
use Rattle.macho_edits.specs.Call.{Call}
use Rattle.arwen_macho.specs.FatSlice.{HeldSlice, slice_model}
use Rattle.arwen_macho.specs.FatState.{step_slices}
use Rattle.arwen_macho.specs.Fronts.{IsFrontOf}
use Rattle.macho_edits.specs.Refused.{cause_of}
use Rattle.macho_edits.specs.State.{step}
use Rattle.arwen_macho.proofs.CommitLaws.{AllZip_more, split_at}
use Rattle.arwen_macho.proofs.FatStepLaws.{refuses_batch}
use Rattle.arwen_macho.proofs.LeadLaws.{stepped_in}
use Rattle.arwen_macho.proofs.fat.fronts_all.Goals as goal

pub returns-in_err-front-clause-err : goal.returns-in_err-front-clause-err
returns-in_err-front-clause-err c =
    let calls : List Call = calls_lent c.args.edits.now in
    let slices : List HeldSlice = c.args.slices.now in
    let i : ℕ = c.loop-slice.slice-index in
    let m : HeldSlice = c.slice-item.result in
    let e = c.in_err-front.field-0.0 in
    let inside : i < length slices = omega arith in
    let Whole : List HeldSlice → Type 0 = λ l. RefusesAt e.index (cause_of e.fault) (step_slices calls (map slice_model l)) in
    let stepped = stepped_in calls (take i slices) c.loop-slice.fronts.items c.loop-slice.invariant in
    let Refused : HeldSlice → Type 0 = λ s. RefusesAt e.index (cause_of e.fault) (step calls s.inner.state) in
    let refuses = refuses_batch calls e.index (cause_of e.fault) (take i slices) stepped.0 m (drop (i + 1) slices) stepped.1 (subst Refused c.slice.view_is c.in_err-front.ensures.err) in
    let p = err_from_is_err_and c.from_residual-in_err-front.result c.from_residual-in_err-front.ensures.1 in
    rw (p.1, p.2) (subst Whole (sym (split_at slices i m inside c.slice-item.is)) refuses)

pub loop-slice-preserved : goal.loop-slice-preserved
loop-slice-preserved c =
    let calls : List Call = calls_lent c.args.edits.now in
    let slices : List HeldSlice = c.args.slices.now in
    let i : ℕ = c.loop-slice.slice-index in
    let m : HeldSlice = c.slice-item.result in
    let inside : i < length slices = omega arith in
    let Of : HeldSlice → Type 0 = λ s. IsFrontOf calls s c.in_ok-front.front in
    let Items : List Front → Type 0 = λ l. AllZip (IsFrontOf calls) (take (i + 1) slices) l in
    subst Items (sym c.in_ok-push.ensures.items) (AllZip_more (IsFrontOf calls) slices c.loop-slice.fronts.items i m c.in_ok-front.front inside c.slice-item.is c.loop-slice.invariant (subst Of c.slice.view_is c.in_ok-front.ensures.ok))
