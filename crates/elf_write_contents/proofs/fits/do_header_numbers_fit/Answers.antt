-- The tests of the records are those of the image and the plan.
use Rattle.std.proofs.Common.{List, ap, ◌∙◌}
use Rattle.elf_format.specs.declared.form.Form.{Form}
use Rattle.elf_format.specs.declared.records.SegmentHeader.{SegmentHeader}
use Rattle.elf_write_contents.specs.FitSteps.{do_unnamed_fit}
use Rattle.elf_write_contents.proofs.FitsImage.{numbers_fit}
use Rattle.elf_write_contents.proofs.fits.do_header_numbers_fit.Goals as goal

pub returns-clause-fit : goal.returns-clause-fit
returns-clause-fit c =
    let fit = λ (form : Form) (segments : List SegmentHeader). do_unnamed_fit form c.args.header segments c.args.sections.now c.args.entries.now in
    c.do_records_fit.ensures.unnamed
    ∙ ap (λ (form : Form). fit form c.segments.result.now) c.form-form.ensures
    ∙ ap (λ (segments : List SegmentHeader). fit c.args.image.now.form segments) c.segments.ensures
    ∙ numbers_fit c.args.read.now c.args.image.now c.args.plan.now c.args.made.now c.args.entries.now c.args.header c.args.sections.now
    c.requires.planned c.requires.strings c.requires.header c.requires.sections c.requires.entries
