-- The sizes by the sections and their numbers are the new sizes.
use Rattle.std.proofs.Common.{◌≡◌, ℕ, Vec, Global, Ok, Err}
use Rattle.std.proofs.lemmas.Result.{err_from_is_err_and}
use Rattle.elf_layout_plan.specs.TableFault.{TableFault}
use Rattle.elf_layout_plan.specs.TableFault.TheVariants.{NumberTooLarge}
use Rattle.elf_layout_sizes.proofs.SizeSteps.{same_answer}
use Rattle.elf_layout_sizes.proofs.sizes.gathered.Goals as goal

pub returns-in_err-sizes-clause-sizes : goal.returns-in_err-sizes-clause-sizes
returns-in_err-sizes-clause-sizes c =
    let e = err_from_is_err_and c.from_residual-in_err-sizes.result c.from_residual-in_err-sizes.ensures.1 in
    rw (e.1, e.2) (λ large.
    same_answer (λ (v : Vec ℕ Global). v.items) (λ (f : TableFault). f ≡ NumberTooLarge) c.args.read.now c.args.image.now
    c.in_ok-sizing.sizing c.in_ok-sizing.ensures (Err c.in_err-sizes.field-0.0) c.in_err-sizes.ensures large)

pub returns-clause-sizes : goal.returns-clause-sizes
returns-clause-sizes c =
    same_answer (λ (v : Vec ℕ Global). v.items) (λ (f : TableFault). f ≡ NumberTooLarge) c.args.read.now c.args.image.now
    c.in_ok-sizing.sizing c.in_ok-sizing.ensures (Ok c.in_ok-sizes.sizes) c.in_ok-sizes.ensures
