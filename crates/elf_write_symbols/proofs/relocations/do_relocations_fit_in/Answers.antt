-- One section after another.
use Rattle.std.proofs.Common.{arith}
use Rattle.std.specs.List.{list_all}
use Rattle.elf_format.specs.Image.{Image}
use Rattle.elf_image.specs.ImageModel.{section_model}
use Rattle.elf_image.specs.Kept.{kept_sections}
use Rattle.elf_write_symbols.specs.Fits.{do_section_relocations_fit}
use Rattle.elf_write_symbols.specs.Steps.{kept}
use Rattle.elf_write_symbols.proofs.ListSteps.{all_done, all_ends, all_goes}
use Rattle.elf_write_symbols.proofs.relocations.do_relocations_fit_in.Goals as goal

pub returns-then-not-does_section_fit : goal.returns-then-not-does_section_fit
returns-then-not-does_section_fit c =
    let read : Image = c.args.read.now in
    let image : Image = c.args.image.now in
    all_ends (do_section_relocations_fit read image) (kept_sections image) c.loop-i.i (kept image c.loop-i.i (section_model c.section_at-section.result.now))
    c.does_section_fit.result (list_all (do_section_relocations_fit read image) (kept_sections image))
    c.section_at-section.ensures.kept c.does_section_fit.ensures c.if-not-does_section_fit.true c.loop-i.invariant

pub loop-i-preserved : goal.loop-i-preserved
loop-i-preserved c =
    let read : Image = c.args.read.now in
    let image : Image = c.args.image.now in
    all_goes (do_section_relocations_fit read image) (kept_sections image) c.loop-i.i (kept image c.loop-i.i (section_model c.section_at-section.result.now))
    c.does_section_fit.result (list_all (do_section_relocations_fit read image) (kept_sections image))
    c.section_at-section.ensures.kept c.does_section_fit.ensures c.if-not-does_section_fit.false c.loop-i.invariant

pub returns : goal.returns
returns c =
    let read : Image = c.args.read.now in
    let image : Image = c.args.image.now in
    all_done (do_section_relocations_fit read image) (kept_sections image) c.loop-i.i
    (list_all (do_section_relocations_fit read image) (kept_sections image)) (omega arith) c.loop-i.invariant
