use Rattle.std.proofs.Common.{◌∙◌, arith, sym}
use Rattle.elf_image_headers.specs.PartModels.{section_model}
use Rattle.elf_image_headers.proofs.SpareSteps.{next_section, sections_done}
use Rattle.elf_image_headers.proofs.spare.Movable.fixed_sections_end.Goals as goal

pub loop-i-preserved : goal.loop-i-preserved
loop-i-preserved c = record {
  end = next_section c.args.self.now.strings c.args.self.now.interpreter section_model c.args.numbers.now c.args.sections.now c.loop-i.i c.loop-i.found c.max-found.result c.fixed_section_end.result
      _ _ c.index-sections-i.result (omega (arith, c.min-i-end.ensures, c.loop-i-test.true)) (omega (arith, c.min-i-end.ensures, c.loop-i-test.true)) c.max-found.ensures
      c.fixed_section_end.ensures.end c.index-sections-i.is
      ∙ c.loop-i.invariant.end;
  near = omega (arith, c.max-found.ensures, c.fixed_section_end.ensures.near, c.loop-i.invariant.near);
}

pub returns-clause-end : goal.returns-clause-end
returns-clause-end c =
    sym (sections_done c.args.self.now.strings c.args.self.now.interpreter section_model c.args.numbers.now c.args.sections.now c.loop-i.i c.loop-i.found
    (omega (arith, c.min-i-end.ensures, c.loop-i-test.false)))
    ∙ c.loop-i.invariant.end
