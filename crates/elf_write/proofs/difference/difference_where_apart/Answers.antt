-- Where 32 bits don't reach all of the dynamic strings, not all numbers fit.
use Rattle.std.proofs.Common.{◌≡◌, false}
use Rattle.std.proofs.lemmas.Result.{err_from_is_err_and}
use Rattle.elf_tables.specs.declared.fault.TableFault.TheVariants.{NumberTooLarge}
use Rattle.elf_write_contents.specs.Numbers.{do_numbers_fit}
use Rattle.elf_write_contents.proofs.ForCallers.{names_far}
use Rattle.elf_write.proofs.difference.difference_where_apart.Goals as goal

pub returns-in_err-made-clause-fault : goal.returns-in_err-made-clause-fault
returns-in_err-made-clause-fault c =
    let p = err_from_is_err_and c.from_residual.result c.from_residual.ensures.1 in
    let far : c.in_err-made.field-0.0 ≡ NumberTooLarge → do_numbers_fit c.args.image.now c.args.plan.now ≡ false =
    λ large. names_far c.args.read.now c.args.image.now c.args.plan.now c.requires.planned (c.in_err-made.ensures.fault large) in
    rw (p.1, p.2) far

pub strings_from-requires-clause-ready : goal.strings_from-requires-clause-ready
strings_from-requires-clause-ready c = c.requires.planned.ready
