-- Where offsets of texts don't reach, not all numbers fit.
use Rattle.std.proofs.Common.{◌≡◌, false}
use Rattle.std.proofs.lemmas.Result.{err_from_is_err_and}
use Rattle.elf_tables.specs.declared.fault.TableFault.TheVariants.{NumberTooLarge}
use Rattle.elf_write_contents.specs.Numbers.{do_numbers_fit}
use Rattle.elf_write_contents.proofs.PreparedFaults.{names_far}
use Rattle.elf_write_contents.proofs.prepared.prepare.Goals as goal

pub returns-in_err-made-clause-fault : goal.returns-in_err-made-clause-fault
returns-in_err-made-clause-fault c =
    let p = err_from_is_err_and c.from_residual.result c.from_residual.ensures.1 in
    let far : c.in_err-made.field-0.0 ≡ NumberTooLarge → do_numbers_fit c.args.image.now c.args.plan.now ≡ false =
    λ large. names_far c.args.read.now c.args.image.now c.args.plan.now c.requires (c.in_err-made.ensures.fault large) in
    rw (p.1, p.2) far

pub made_strings-requires : goal.made_strings-requires
made_strings-requires c = c.requires.ready
