use Rattle.std.proofs.Common.{◌≡◌, [], List, length, Ok, refl, sym, subst}
use Rattle.std.proofs.lemmas.Bool.{eqb-true}
use Rattle.std.proofs.lemmas.List.{nil_from_length}
use Rattle.macho_edits.specs.declared.batch.MachoEdit.{MachoEdit}
use Rattle.macho_edits.specs.Batch.{calls_of}
use Rattle.macho_edits.specs.Held.{Held, is_edited_by}
use Rattle.arwen_macho.specs.HeldBy.{held_of}
use Rattle.macho_edits.specs.State.{step}
use Rattle.arwen_macho.proofs.StateLaws.{step-nil}
use Rattle.arwen_macho.proofs.macho.SingleMachO.apply.Goals as goal

pub returns-then-is_empty-clause-steps : goal.returns-then-is_empty-clause-steps
returns-then-is_empty-clause-steps c =
    let none : c.args.edits.now ≡ [] = nil_from_length c.args.edits.now (eqb-true (length c.args.edits.now) 0 (sym c.if-is_empty.ensures)) in
    let Nil : Held → Type 0 = λ h. step [] h.state ≡ Ok h.state in
    let same = subst Nil c.self.view_is (step-nil (held_of c.self.inside).state c.self.invariant.is_state) in
    let After : List MachoEdit → Type 0 = λ edits. (step (calls_of edits) c.args.self.now.state ≡ Ok c.args.self.now.state) × (c.args.self.now.is_edited ≡ is_edited_by (calls_of edits) c.args.self.now.is_edited) in
    subst After (sym none) (same, refl)
