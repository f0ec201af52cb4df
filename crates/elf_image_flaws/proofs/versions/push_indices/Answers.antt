-- One version after another.
use Rattle.std.proofs.Common.{refl}
use Rattle.elf_format.specs.declared.records.NeedNameNumbers.{NeedNameNumbers}
use Rattle.elf_format.proofs.ForCallers.ReadingSteps.{no_name}
use Rattle.elf_image_flaws.proofs.FlawSteps.{pushed}
use Rattle.elf_image_flaws.proofs.versions.push_indices.Goals as goal

pub loop-version-preserved : goal.loop-version-preserved
loop-version-preserved c =
    pushed c.args.versions.now c.loop-version.version-index no_name c.loop-version.known.items c.args.known.now.items c.push.new.self.items (λ (v : NeedNameNumbers). v.index) _
    c.loop-version-test.true c.in_ok-push.ensures.items refl c.loop-version.invariant
