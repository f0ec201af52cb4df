-- An image with its sizes is the one that the image alone gives.
use Rattle.std.proofs.Common.{◌≡◌, ℕ, List, true, sym, ap, subst, ◌∙◌}
use Rattle.elf_format.specs.Image.{Image}
use Rattle.elf_layout_plan.specs.declared.fault.LayoutFault.{LayoutFault}
use Rattle.elf_layout_plan.specs.declared.fault.LayoutFault.TheVariants as faults
use Rattle.elf_image.specs.Kept.{image_at_read}
use Rattle.elf_layout_plan.specs.Memory.{Resized}
use Rattle.elf_layout_plan.specs.Plan.{resized}
use Rattle.elf_layout_plan.specs.Refusals.{IsStuckBy}
use Rattle.elf_layout_plan.specs.Rounds.{is_stuck_with}
use Rattle.elf_layout_plan.specs.Sizes.{new_sizes}
use Rattle.elf_layout_moves.specs.Inner.{IsResized, IsStuckAt}

made : Image → Image → List ℕ → Resized
made read image sizes = record { read = read; image = image; sizes = sizes }

of_parts : (image read : Image) (sizes : List ℕ) → read ≡ image_at_read image → sizes ≡ new_sizes read image → resized image ≡ made read image sizes
unfolding made
of_parts image read sizes same are = ap (λ rd. made rd image (new_sizes rd image)) (sym same) ∙ ap (made read image) (sym are)

pub resized_is : (r : Resized) → IsResized r → resized r.image ≡ r
unfolding made
resized_is r is = of_parts r.image r.read r.sizes is.read is.sizes

-- what the image alone says of two blocks that can't move
pub stuck_at : (r : Resized) → IsResized r → (looked : ℕ) (fault : LayoutFault) → IsStuckBy r.image looked fault → IsStuckAt r looked fault
stuck_at r is looked faults.Overlap h = let P : Resized → Type 0 = λ s. is_stuck_with s looked ≡ true in subst P (resized_is r is) h
stuck_at r is looked faults.NumberTooLarge h = h
stuck_at r is looked faults.Memory h = h
