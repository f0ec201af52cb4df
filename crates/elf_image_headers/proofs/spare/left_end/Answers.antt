use Rattle.std.proofs.Common.{◌∙◌, arith, sym}
use Rattle.elf_image_headers.specs.SpareFrom.{stays_loaded}
use Rattle.elf_image_headers.specs.PartModels.{segment_model}
use Rattle.elf_image_headers.proofs.SpareSteps.{greatest_done, memory_end, next_greatest}
use Rattle.elf_image_headers.proofs.spare.left_end.Goals as goal

pub loop-segment-preserved : goal.loop-segment-preserved
loop-segment-preserved c = record {
  end = next_greatest (stays_loaded c.args.from) memory_end segment_model c.args.segments.now c.loop-segment.segment-index c.loop-segment.end c.max-end.result c.end_if.result _ _ c.loop-segment-test.true c.max-end.ensures c.end_if.ensures.value
      c.does_load_stay.ensures
      ∙ c.loop-segment.invariant.end;
  near = omega (arith, c.max-end.ensures, c.end_if.ensures.near, c.loop-segment.invariant.near);
}

pub returns-clause-end : goal.returns-clause-end
returns-clause-end c =
    sym (greatest_done (stays_loaded c.args.from) memory_end segment_model c.args.segments.now c.loop-segment.segment-index c.loop-segment.end c.loop-segment-test.false) ∙ c.loop-segment.invariant.end
