use Rattle.std.proofs.Common.{◌≡◌, ℕ, List, Result, Ok, ap, sym, ◌∙◌, subst}
use Rattle.std.proofs.lemmas.List.{length-map}
use Rattle.std.proofs.lemmas.Result.{err_from_is_err_and}
use Rattle.patch_bytes.specs.ByteString.{bytes_of_each}
use Rattle.macho_image.specs.Form.{ctx_of}
use Rattle.macho_edits.specs.Batch.{RefusesAt}
use Rattle.macho_edits.specs.Edit.{call_of, calls_lent}
use Rattle.arwen_macho.specs.Change.{change_with}
use Rattle.macho_edits.specs.Held.{Held}
use Rattle.arwen_macho.specs.HeldBy.{held_of}
use Rattle.macho_edits.specs.Refused.{cause_of}
use Rattle.macho_edits.specs.State.{Refusal, edited_by, step}
use Rattle.macho_edits.specs.Whole.{KeepsContents}
use Rattle.arwen_macho.proofs.StateLaws.{edited_by_keeps}
use Rattle.arwen_macho.proofs.StepLaws.{edited_by_is, step_changed, step_refused_batch, step_unfit}
use Rattle.arwen_macho.proofs.macho.SingleMachO.fit_by.Goals as goal

pub fit_for-requires : goal.fit_for-requires
fit_for-requires c =
    let s = c.self.inside in
    let calls = calls_lent c.args.edits.now in
    let same = edited_by_is s c.ctx.result (bytes_of_each c.in_ok-commands.commands.items) calls c.self.invariant c.ctx.ensures.form c.in_ok-commands.ensures in
    let made = sym same ∙ c.in_ok-edit_all.ensures in
    let keeps = edited_by_keeps (ctx_of s.source.now) 0 calls (held_of s).state.list (bytes_of_each c.edit_all.new.commands.items) c.requires c.self.invariant.is_state.whole made in
    let Kept : Held → Type 0 = λ h. KeepsContents (ctx_of h.state.old).le h.state.list (bytes_of_each c.as_slice.result.now) in
    let Items : List (List ℕ) → Type 0 = λ l. KeepsContents (ctx_of s.source.now).le (held_of s).state.list l in
    subst Kept c.self.view_is (subst Items (ap bytes_of_each (sym c.as_slice.ensures.value)) keeps)

pub returns-in_err-edit_all-clause-err : goal.returns-in_err-edit_all-clause-err
returns-in_err-edit_all-clause-err c =
    let s = c.self.inside in
    let calls = calls_lent c.args.edits.now in
    let same = edited_by_is s c.ctx.result (bytes_of_each c.in_ok-commands.commands.items) calls c.self.invariant c.ctx.ensures.form c.in_ok-commands.ensures in
    let e = c.in_err-edit_all.field-0.0 in
    let found = cause_of e.fault in
    let Refused : Result (List (List ℕ)) Refusal → Type 0 = λ r. RefusesAt e.index found r in
    let refuses = subst Refused same c.in_err-edit_all.ensures in
    let Stepped : Held → Type 0 = λ h. RefusesAt e.index found (step calls h.state) in
    let p = err_from_is_err_and c.from_residual-in_err-edit_all.result c.from_residual-in_err-edit_all.ensures.1 in
    rw (p.1, p.2) (subst Stepped c.self.view_is (step_refused_batch calls (held_of s).state e.index found refuses))

pub returns-in-Ok-clause-ok : goal.returns-in-Ok-clause-ok
returns-in-Ok-clause-ok c =
    let s = c.self.inside in
    let calls = calls_lent c.args.edits.now in
    let same = edited_by_is s c.ctx.result (bytes_of_each c.in_ok-commands.commands.items) calls c.self.invariant c.ctx.ensures.form c.in_ok-commands.ensures in
    let Drafted : Held → Type 0 = λ h. edited_by (ctx_of h.state.old) 0 calls h.state.list ≡ Ok (bytes_of_each c.edit_all.new.commands.items) in
    let drafted = subst Drafted c.self.view_is (sym same ∙ c.in_ok-edit_all.ensures) in
    let of = c.in-Ok.ensures.ok in
    record { of = of.0; steps = step_changed calls c.args.self.now (change_with c.args.self.now c.in-Ok.fit) (bytes_of_each c.edit_all.new.commands.items) drafted of.0 (of.1 ∙ ap bytes_of_each c.as_slice.ensures.value) }

pub returns-clause-err : goal.returns-clause-err
returns-clause-err c =
    let s = c.self.inside in
    let calls = calls_lent c.args.edits.now in
    let same = edited_by_is s c.ctx.result (bytes_of_each c.in_ok-commands.commands.items) calls c.self.invariant c.ctx.ensures.form c.in_ok-commands.ensures in
    let found = cause_of c.in-Err.fault in
    let Drafted : Held → Type 0 = λ h. edited_by (ctx_of h.state.old) 0 calls h.state.list ≡ Ok (bytes_of_each c.as_slice.result.now) in
    let drafted = subst Drafted c.self.view_is (sym same ∙ c.in_ok-edit_all.ensures ∙ ap (λ (l : List (List ℕ)). Ok l) (ap bytes_of_each (sym c.as_slice.ensures.value))) in
    let At : ℕ → Type 0 = λ n. RefusesAt n found (step calls c.args.self.now.state) in
    subst At (length-map c.args.edits.now call_of) (step_unfit calls c.args.self.now.state (bytes_of_each c.as_slice.result.now) found drafted c.in-Err.ensures.err)
