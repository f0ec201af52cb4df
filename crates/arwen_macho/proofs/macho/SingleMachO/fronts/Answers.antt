use Rattle.std.proofs.Common.{◌∷◌, [], ◌++◌, List, ap, sym, ◌∙◌, subst}
use Rattle.std.specs.List.{All}
use Rattle.macho_edits.specs.declared.draft.Edit.{Edit}
use Rattle.arwen_macho.specs.declared.front.Front.{Front}
use Rattle.macho_edits.specs.Batch.{calls_of}
use Rattle.macho_edits.specs.Call.{Call}
use Rattle.macho_edits.specs.Edit.{calls_lent}
use Rattle.arwen_macho.specs.Fronts.{IsFrontAt, LeadOn}
use Rattle.macho_edits.specs.Held.{Held}
use Rattle.macho_edits.specs.State.{laid_bytes, step}
use Rattle.macho_edits.specs.Whole.{IsState, TextsAreBytes}
use Rattle.arwen_macho.proofs.LeadLaws.{lead_thin}
use Rattle.arwen_macho.proofs.StatesLaws.{step_thin}
use Rattle.arwen_macho.proofs.macho.SingleMachO.fronts.Goals as goal

pub returns-clause-ok : goal.returns-clause-ok
returns-clause-ok c =
    let calls = calls_of c.args.edits.now in
    let State : Held → Type 0 = λ h. IsState h.state in
    let is = subst State c.self.view_is c.self.invariant.is_state in
    let At : List Call → Type 0 = λ l. IsFrontAt l c.args.self.now 0 c.in_ok-front.front in
    let Lent : List Edit → Type 0 = λ l. IsFrontAt (calls_lent l) c.args.self.now 0 c.in_ok-front.front in
    let Lead : List Front → Type 0 = λ l. LeadOn laid_bytes c.args.self.now.state (step calls c.args.self.now.state) l in
    let of = subst At c.in_ok-lent.ensures.calls (subst Lent c.as_slice.ensures.value c.in_ok-front.ensures.ok) in
    subst Lead (sym (c.in_ok-push.ensures.items ∙ ap (λ (l : List Front). l ++ c.in_ok-front.front ∷ []) c.new-fronts.ensures.items)) (lead_thin calls c.args.self.now c.in_ok-front.front is of)

pub returns-clause-state : goal.returns-clause-state
returns-clause-state c =
    let State : Held → Type 0 = λ h. IsState h.state in
    let is = subst State c.self.view_is c.self.invariant.is_state in
    let Texts : List Call → Type 0 = λ l. All TextsAreBytes l in
    step_thin (calls_of c.args.edits.now) c.args.self.now.state is (subst Texts c.in_ok-lent.ensures.calls c.in_ok-lent.ensures.texts)
