-- One mark after another.
use Rattle.std.proofs.Common.{◌+◌, drop, map, set, true, ap, ◌∙◌}
use Rattle.elf_format.specs.Versions.{DefinitionNumbers}
use Rattle.elf_image_versions.specs.WalkSteps.{marked}
use Rattle.elf_image_versions.proofs.VersionSteps.{mark_done, mark_goes}
use Rattle.elf_image_versions.proofs.known.mark_definitions.Goals as goal

pub loop-definition-preserved : goal.loop-definition-preserved
loop-definition-preserved c =
    let i = c.loop-definition.definition-index in
    ap (λ n. marked (map (λ d. d.index) (drop (i + 1) c.args.definitions.now)) (set c.loop-definition.marks n true)) (ap (λ (d : DefinitionNumbers). d.index) c.definition.view_is)
    ∙ mark_goes (λ d. d.index) c.args.definitions.now i c.definition-item.result c.definition-item.result c.loop-definition.marks
    (marked (map (λ d. d.index) c.args.definitions.now) c.args.marks.now) c.loop-definition-test.true c.definition-item.is c.loop-definition.invariant

pub returns : goal.returns
returns c =
    mark_done (λ d. d.index) c.args.definitions.now c.loop-definition.definition-index c.loop-definition.marks (marked (map (λ d. d.index) c.args.definitions.now) c.args.marks.now)
    c.loop-definition-test.false c.loop-definition.invariant
