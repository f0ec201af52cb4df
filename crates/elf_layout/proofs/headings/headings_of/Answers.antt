use Rattle.std.proofs.Common.{map}
use Rattle.elf_layout_plan.specs.PlanModel.{place_model}
use Rattle.elf_layout_segments.specs.AnchorPositions.{anchor_model}
use Rattle.elf_layout.specs.Targets.{begins_model}
use Rattle.elf_layout.proofs.WrittenSteps.{headings_found-are}
use Rattle.elf_layout.proofs.headings.headings_of.Goals as goal

pub returns-in-Some : goal.returns-in-Some
returns-in-Some c =
    headings_found-are c.args.form c.args.p c.in-Some.alone (map place_model c.args.places.now) (begins_model c.args.notes.now) c.args.size (anchor_model c.args.anchor.now) c.at_targets.result c.targets_of.result
    c.at_targets.ensures c.targets_of.ensures c.in-Some.ensures.0 c.in-Some.ensures.1
