use Rattle.std.proofs.Common.{◌<◌, ℕ, List, [], ◌∷◌, ◌++◌, length, take, ap, sym, ◌∙◌, subst, arith}
use Rattle.std.specs.List.{All}
use Rattle.std.proofs.lemmas.List.{map_more, map_push, take_all}
use Rattle.std.proofs.lemmas.List.Elements.{All-nil, All-push}
use Rattle.macho_edits.specs.declared.batch.MachoEdit.{MachoEdit}
use Rattle.macho_edits.specs.declared.draft.Edit.{Edit}
use Rattle.macho_edits.specs.Batch.{call_made, calls_of}
use Rattle.macho_edits.specs.Call.{Call}
use Rattle.macho_edits.specs.Edit.{AreTexts, call_of, calls_lent}
use Rattle.macho_edits.specs.Whole.{TextsAreBytes}
use Rattle.macho_edits.proofs.batch.lend_all.Goals as goal

pub loop-edit-init : goal.loop-edit-init
loop-edit-init c =
    let none = c.in_ok-lent.ensures.items in
    let Texts : List Edit → Type 0 = AreTexts in
    record { calls = ap calls_lent none; texts = subst Texts (sym none) (All-nil TextsAreBytes) }

pub loop-edit-preserved : goal.loop-edit-preserved
loop-edit-preserved c =
    let i : ℕ = c.loop-edit.edit-index in
    let edits : List MachoEdit = c.args.edits.now in
    let lent : List Edit = c.loop-edit.lent.items in
    let inside : i < length edits = omega arith in
    let pushed = ap calls_lent c.in_ok-push.ensures.items ∙ map_push call_of lent c.lend.result in
    let Texts : List Call → Type 0 = All TextsAreBytes in
    record {
      calls =
          pushed
          ∙ ap (λ (calls : List Call). calls ++ call_of c.lend.result ∷ []) c.loop-edit.invariant.calls
          ∙ ap (λ (call : Call). calls_of (take i edits) ++ call ∷ []) (c.lend.ensures.call ∙ ap call_made c.edit-item.is)
          ∙ sym (map_more call_made edits i c.edit-item.result inside);
      texts = subst Texts (sym pushed) (All-push TextsAreBytes (calls_lent lent) (call_of c.lend.result) c.loop-edit.invariant.texts c.lend.ensures.bytes);
    }

pub returns-clause-calls : goal.returns-clause-calls
returns-clause-calls c = c.loop-edit.invariant.calls ∙ ap calls_of (take_all c.loop-edit.edit-index c.args.edits.now (omega arith))

pub returns-clause-texts : goal.returns-clause-texts
returns-clause-texts c = c.loop-edit.invariant.texts
