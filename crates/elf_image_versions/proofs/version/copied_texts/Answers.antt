use Rattle.elf_image_versions.proofs.CopySteps.{next_same}
use Rattle.elf_image_versions.proofs.version.copied_texts.Goals as goal

pub loop-text-preserved : goal.loop-text-preserved
loop-text-preserved c =
    next_same c.args.texts.now c.loop-text.text-index c.loop-text.made.items c.text-item.result c.in_ok-one.one c.push.new.self.items
    c.loop-text-test.true c.text-item.is c.in_ok-push.ensures.items c.in_ok-one.ensures c.loop-text.invariant
