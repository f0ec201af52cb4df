use Rattle.elf_image.specs.ImageModel.{entry_model}
use Rattle.elf_image.proofs.CopySteps.{next_copied}
use Rattle.elf_image.proofs.copies.copied_entries.Goals as goal

pub loop-entry-preserved : goal.loop-entry-preserved
loop-entry-preserved c =
    next_copied entry_model c.args.entries.now c.loop-entry.entry-index c.loop-entry.made.items c.entry-item.result c.in_ok-one.one c.push.new.self.items
    c.loop-entry-test.true c.entry-item.is c.in_ok-push.ensures.items c.in_ok-one.ensures c.loop-entry.invariant
