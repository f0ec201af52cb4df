use Rattle.std.proofs.Common.{◌∙◌, sym}
use Rattle.std.proofs.lemmas.List.{at_drop_all}
use Rattle.macho_signatures.specs.Renewed.{laid}
use Rattle.macho_signatures.proofs.RenewalSteps.{laid_more, lies_at}
use Rattle.macho_signatures.proofs.renewal.lay_slots.Goals as goal

pub returns : goal.returns
returns c = sym (at_drop_all (λ xs. laid xs c.loop-slot.bytes) c.args.slots.now c.loop-slot.slot-index c.loop-slot-test.false) ∙ c.loop-slot.invariant.left

pub lay_slot-requires : goal.lay_slot-requires
lay_slot-requires c = lies_at c.args.slots.now c.loop-slot.slot-index _ c.args.bytes.now c.loop-slot.bytes c.requires c.loop-slot.invariant.long c.loop-slot-test.true

pub loop-slot-preserved : goal.loop-slot-preserved
loop-slot-preserved c = record {
  long = c.lay_slot.auto.bytes ∙ c.loop-slot.invariant.long;
  left = laid_more c.args.slots.now c.loop-slot.slot-index _ c.loop-slot.bytes c.lay_slot.new.bytes _ c.loop-slot-test.true c.lay_slot.ensures c.loop-slot.invariant.left;
}
