-- Where the numbers of headers or of relocations don't fit, not all numbers do.
use Rattle.std.proofs.Common.{sym, ◌∙◌}
use Rattle.elf_write_contents.proofs.NumbersUnfit.{headers_unfit}
use Rattle.elf_write_contents.proofs.PreparedFaults.{relocations_far}
use Rattle.elf_write_contents.proofs.prepared.fitting_numbers.Goals as goal

pub returns-then-not-do_header_numbers_fit-clause-fault : goal.returns-then-not-do_header_numbers_fit-clause-fault
returns-then-not-do_header_numbers_fit-clause-fault c large =
    headers_unfit c.args.image.now c.args.plan.now (sym c.do_header_numbers_fit.ensures.fit ∙ c.if-not-do_header_numbers_fit.true)

pub returns-then-not-do_relocations_fit_in-clause-fault : goal.returns-then-not-do_relocations_fit_in-clause-fault
returns-then-not-do_relocations_fit_in-clause-fault c large =
    relocations_far c.args.read.now c.args.image.now c.args.plan.now c.requires.planned
    (sym c.do_relocations_fit_in.ensures ∙ c.if-not-do_relocations_fit_in.true)
