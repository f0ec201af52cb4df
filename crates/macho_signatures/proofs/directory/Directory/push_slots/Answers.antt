use Rattle.std.proofs.Common.{◌∙◌, ap}
use Rattle.macho_signatures.proofs.RenewalSteps.{slot_left, slot_pushed, slots_all}
use Rattle.macho_signatures.proofs.directory.Directory.push_slots.Goals as goal
use Rattle.macho_signatures.proofs.directory.Directory.push_slots.Goals.{then-is_touched+in_ok-push, else-is_touched}

pub returns : goal.returns
returns c = slots_all c.args.self.now c.args.touched.now c.args.bytes.now c.loop-page.page c.args.slots.now.items c.loop-page.slots.items c.loop-page.auto.page-end c.loop-page-test.false c.loop-page.invariant

pub loop-page-preserved : goal.loop-page-preserved
loop-page-preserved c =
    elim c.if-is_touched.branch [
      | then-is_touched+in_ok-push w ↦
          slot_pushed c.args.self.now c.args.touched.now c.args.bytes.now c.loop-page.page w.slot_place.result w.page_hash.result c.args.slots.now.items c.loop-page.slots.items c.if-is_touched.slots.items c.is_touched.result c.loop-page.invariant
          (ap (λ v. v.items) w.slots-is ∙ w.in_ok-push.ensures.items) w.slot_place.ensures.value w.page_hash.ensures c.is_touched.ensures w.if-is_touched.true
      | else-is_touched w ↦
          ap (λ v. v.items) w.slots-is
          ∙ slot_left c.args.self.now c.args.touched.now c.args.bytes.now c.loop-page.page c.args.slots.now.items c.loop-page.slots.items c.is_touched.result c.loop-page.invariant c.is_touched.ensures w.if-is_touched.false
    ]
