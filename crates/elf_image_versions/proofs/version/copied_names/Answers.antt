use Rattle.elf_image_versions.specs.VersionsModel.{name_model}
use Rattle.elf_image_versions.proofs.CopySteps.{next_copied}
use Rattle.elf_image_versions.proofs.version.copied_names.Goals as goal

pub loop-version-preserved : goal.loop-version-preserved
loop-version-preserved c =
    next_copied name_model c.args.versions.now c.loop-version.version-index c.loop-version.made.items c.version-item.result c.in_ok-one.one c.push.new.self.items
    c.loop-version-test.true c.version-item.is c.in_ok-push.ensures.items c.in_ok-one.ensures c.loop-version.invariant
