use Rattle.std.proofs.Common.{length, ap, arith}
use Rattle.std.proofs.lemmas.List.{length-map}
use Rattle.elf_layout_plan.specs.Plan.{resized}
use Rattle.elf_layout_plan.specs.PlanModel.{place_model}
use Rattle.elf_write_contents.proofs.PlanCounts.{plan_counts}
use Rattle.elf_write_contents.proofs.headers.counts.Goals as goal

pub overflow_cast-result : goal.overflow_cast-result
overflow_cast-result c =
    omega (arith, (plan_counts (resized c.args.image.now) c.args.plan.now c.requires).segments, ap length c.segments.ensures)

pub overflow_cast-result-2 : goal.overflow_cast-result-2
overflow_cast-result-2 c =
    omega (
      arith,
      (plan_counts (resized c.args.image.now) c.args.plan.now c.requires).places,
      ap length c.places.ensures,
      length-map c.places.result.now place_model,
    )
