-- What the fault of a table tells of the sizes.
use Rattle.std.proofs.Common.{◌≡◌, false, refl, sym, ap, ◌∙◌}
use Rattle.std.proofs.lemmas.Result.{err_from_is_err_and}
use Rattle.elf_format.specs.Image.{Image}
use Rattle.elf_layout_plan.specs.TableFault.{TableFault}
use Rattle.elf_layout_plan.specs.TableFault.TheVariants as table
use Rattle.elf_layout_plan.specs.Faults.{fault_of_table}
use Rattle.elf_layout_plan.specs.Refusals.{AreNoSizes, do_sizes_of_image_fit}
use Rattle.elf_layout_plan.specs.Sizes.{do_sizes_fit}
use Rattle.elf_layout_sizes.proofs.sizes.new_sizes_with_strings.Goals as goal

no_sizes : (image : Image) (e : TableFault) → (e ≡ table.NumberTooLarge → do_sizes_of_image_fit image ≡ false) → AreNoSizes image (fault_of_table e)
no_sizes image table.NumberTooLarge large = large refl
no_sizes image table.Memory large = tt

pub returns-in_err-new-clause-fault : goal.returns-in_err-new-clause-fault
returns-in_err-new-clause-fault c =
    let p = err_from_is_err_and c.from_residual.result c.from_residual.ensures.1 in
    rw (p.1, p.2) (no_sizes c.args.image.now c.in_err-new.field-0.0
    (λ e. ap (λ r. do_sizes_fit r c.args.image.now) (sym c.requires) ∙ c.in_err-new.ensures.sizes e))
