use Rattle.std.proofs.Common.{◌∙◌, ap}
use Rattle.macho_signatures.proofs.RenewalSteps.{slot_left, slot_pushed, slots_all}
use Rattle.macho_signing.specs.Thin.{pages_of, touched_by}
use Rattle.macho_signing.proofs.thin.push_slots.Goals as goal
use Rattle.macho_signing.proofs.thin.push_slots.Goals.{then-is_chosen+in_ok-push, else-is_chosen}

pub returns : goal.returns
returns c = slots_all c.args.directory.now (touched_by (pages_of c.args.scope) c.args.bytes.now) c.args.bytes.now c.loop-page.page c.args.slots.now.items c.loop-page.slots.items c.loop-page.auto.page-end c.loop-page-test.false c.loop-page.invariant

pub loop-page-preserved : goal.loop-page-preserved
loop-page-preserved c =
    let touched = touched_by (pages_of c.args.scope) c.args.bytes.now in
    elim c.if-is_chosen.branch [
      | then-is_chosen+in_ok-push w ↦
          slot_pushed c.args.directory.now touched c.args.bytes.now c.loop-page.page w.slot_place.result w.page_hash.result c.args.slots.now.items c.loop-page.slots.items c.if-is_chosen.slots.items c.is_chosen.result c.loop-page.invariant
          (ap (λ v. v.items) w.slots-is ∙ w.in_ok-push.ensures.items) w.slot_place.ensures.value w.page_hash.ensures c.is_chosen.ensures w.if-is_chosen.true
      | else-is_chosen w ↦
          ap (λ v. v.items) w.slots-is
          ∙ slot_left c.args.directory.now touched c.args.bytes.now c.loop-page.page c.args.slots.now.items c.loop-page.slots.items c.is_chosen.result c.loop-page.invariant c.is_chosen.ensures w.if-is_chosen.false
    ]
