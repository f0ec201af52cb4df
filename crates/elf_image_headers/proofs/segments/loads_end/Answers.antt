use Rattle.std.proofs.Common.{◌∙◌, ap, arith, sym}
use Rattle.std.specs.Prelude.{◌==◌}
use Rattle.elf_format.specs.declared.constants.TheConstants.{PT_LOAD}
use Rattle.elf_format.specs.File.{is_loaded}
use Rattle.elf_image_headers.specs.PartModels.{segment_model}
use Rattle.elf_image_headers.proofs.SpareSteps.{greatest_done, memory_end, next_greatest}
use Rattle.elf_image_headers.proofs.segments.loads_end.Goals as goal

pub loop-segment-preserved : goal.loop-segment-preserved
loop-segment-preserved c = record {
  end = next_greatest is_loaded memory_end segment_model c.args.segments.now c.loop-segment.segment-index c.loop-segment.end c.max-end.result c.end_if.result _ _ c.loop-segment-test.true c.max-end.ensures c.end_if.ensures.value
      (ap (λ n. n == PT_LOAD) c.p_type.ensures)
      ∙ c.loop-segment.invariant.end;
  near = omega (arith, c.max-end.ensures, c.end_if.ensures.near, c.loop-segment.invariant.near);
}

pub returns-clause-value : goal.returns-clause-value
returns-clause-value c =
    sym (greatest_done is_loaded memory_end segment_model c.args.segments.now c.loop-segment.segment-index c.loop-segment.end c.loop-segment-test.false) ∙ c.loop-segment.invariant.end
