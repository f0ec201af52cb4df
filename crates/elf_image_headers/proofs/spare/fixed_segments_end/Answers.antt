use Rattle.std.proofs.Common.{◌∙◌, ap, arith, sym}
use Rattle.elf_image_headers.specs.Spare.{is_fixed_segment}
use Rattle.elf_image_headers.specs.SpareFrom.{has_fixed_type}
use Rattle.elf_image_headers.specs.PartModels.{segment_model}
use Rattle.elf_image_headers.proofs.SpareSteps.{greatest_done, memory_end, next_greatest}
use Rattle.elf_image_headers.proofs.spare.fixed_segments_end.Goals as goal

pub loop-segment-preserved : goal.loop-segment-preserved
loop-segment-preserved c = record {
  end = next_greatest is_fixed_segment memory_end segment_model c.args.segments.now c.loop-segment.segment-index c.loop-segment.end c.max-end.result c.end_if.result _ _ c.loop-segment-test.true c.max-end.ensures c.end_if.ensures.value
      (c.is_fixed_segment.ensures ∙ ap has_fixed_type c.p_type.ensures)
      ∙ c.loop-segment.invariant.end;
  near = omega (arith, c.max-end.ensures, c.end_if.ensures.near, c.loop-segment.invariant.near);
}

pub returns-clause-end : goal.returns-clause-end
returns-clause-end c =
    sym (greatest_done is_fixed_segment memory_end segment_model c.args.segments.now c.loop-segment.segment-index c.loop-segment.end c.loop-segment-test.false) ∙ c.loop-segment.invariant.end
