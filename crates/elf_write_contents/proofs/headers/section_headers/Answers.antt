-- The image was read from its source.
use Rattle.std.proofs.Common.{subst}
use Rattle.elf_format.specs.Image.{Image}
use Rattle.elf_write_symbol_tables.specs.WrittenStrings.{AreStrings}
use Rattle.elf_write_contents.proofs.headers.section_headers.Goals as goal
use Rattle.elf_write_contents.specs.Inner.{IsPlanned}

pub headers_with-requires-clause-planned : goal.headers_with-requires-clause-planned
headers_with-requires-clause-planned c =
    subst (λ (r : Image). IsPlanned r c.args.image.now c.args.plan.now) c.requires.planned.ready.at_read c.requires.planned

pub headers_with-requires-clause-strings : goal.headers_with-requires-clause-strings
headers_with-requires-clause-strings c =
    subst (λ (r : Image). AreStrings r c.args.image.now c.args.made.now) c.requires.planned.ready.at_read c.requires.strings
