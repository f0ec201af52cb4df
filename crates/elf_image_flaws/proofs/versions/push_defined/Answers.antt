-- One definition after another.
use Rattle.std.proofs.Common.{ap, ◌∙◌}
use Rattle.elf_format.specs.Versions.{DefinitionNumbers}
use Rattle.elf_image_flaws.proofs.FlawSteps.{pushed}
use Rattle.elf_image_flaws.proofs.versions.push_defined.Goals as goal

pub loop-definition-preserved : goal.loop-definition-preserved
loop-definition-preserved c =
    pushed c.args.definitions.now c.loop-definition.definition-index c.definition-item.result c.loop-definition.known.items c.args.known.now.items c.push.new.self.items
    (λ (d : DefinitionNumbers). d.index) c.definition.inside.index c.loop-definition-test.true c.in_ok-push.ensures.items
    (ap (λ (d : DefinitionNumbers). d.index) (c.definition.view_is ∙ c.definition-item.is)) c.loop-definition.invariant
