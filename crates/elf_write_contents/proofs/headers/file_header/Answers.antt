use Rattle.std.proofs.Common.{ap}
use Rattle.elf_format.specs.declared.form.Form.{Form}
use Rattle.elf_write_contents.proofs.HeadersMade.{file_header_is}
use Rattle.elf_write_contents.proofs.headers.file_header.Goals as goal

pub returns : goal.returns
returns c =
    file_header_is c.args.image.now c.args.plan.now c.header-header.result.now
    c.form-form.result c.e_phoff.result c.e_shoff.result c.segment_header_size.result c.counts-e_phnum.result.0
    c.section_header_size.result c.counts-e_phnum.result.1 c.names_number.result
    c.header-header.ensures (ap (λ (form : Form). form.wide) c.form-form.ensures) (ap (λ (form : Form). form.order) c.form-form.ensures) c.e_phoff.ensures c.e_shoff.ensures c.segment_header_size.ensures
    c.counts-e_phnum.ensures.segments c.section_header_size.ensures.value c.counts-e_phnum.ensures.places c.names_number.ensures
