-- One mark after another.
use Rattle.std.proofs.Common.{get_or, map, refl}
use Rattle.elf_image_versions.specs.WalkSteps.{marked}
use Rattle.elf_format.proofs.ForCallers.ReadingSteps.{no_name}
use Rattle.elf_image_versions.proofs.VersionSteps.{mark_done, mark_goes}
use Rattle.elf_image_versions.proofs.known.mark_names.Goals as goal

pub loop-name-preserved : goal.loop-name-preserved
loop-name-preserved c =
    mark_goes (λ v. v.index) c.args.names.now c.loop-name.name-index (get_or c.args.names.now c.loop-name.name-index no_name) no_name c.loop-name.marks
    (marked (map (λ v. v.index) c.args.names.now) c.args.marks.now) c.loop-name-test.true refl c.loop-name.invariant

pub returns : goal.returns
returns c =
    mark_done (λ v. v.index) c.args.names.now c.loop-name.name-index c.loop-name.marks (marked (map (λ v. v.index) c.args.names.now) c.args.marks.now) c.loop-name-test.false c.loop-name.invariant
