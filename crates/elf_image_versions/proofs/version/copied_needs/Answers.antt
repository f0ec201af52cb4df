use Rattle.elf_image_versions.specs.VersionsModel.{needs_model}
use Rattle.elf_image_versions.proofs.CopySteps.{next_copied}
use Rattle.elf_image_versions.proofs.version.copied_needs.Goals as goal

pub loop-need-preserved : goal.loop-need-preserved
loop-need-preserved c =
    next_copied needs_model c.args.needs.now c.loop-need.need-index c.loop-need.made.items c.need-item.result c.in_ok-one.one c.push.new.self.items
    c.loop-need-test.true c.need-item.is c.in_ok-push.ensures.items c.in_ok-one.ensures c.loop-need.invariant
