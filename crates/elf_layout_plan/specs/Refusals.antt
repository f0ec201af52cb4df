-- Which fault is answered when.
use Rattle.std.specs.Prelude.{ℕ, ◌≡◌, true, false, List, Bool, IsTrue}
use Rattle.elf_format.specs.Image.{Image}
use Rattle.elf_layout_plan.specs.declared.fault.LayoutFault.{LayoutFault}
use Rattle.elf_layout_plan.specs.declared.fault.LayoutFault.TheVariants as faults
use Rattle.elf_tables.specs.Kept.{image_at_read}
use Rattle.elf_layout_plan.specs.Plan.{IsOverlapping, IsTooLarge, resized}
use Rattle.elf_layout_plan.specs.Memory.{Resized}
use Rattle.elf_layout_plan.specs.Rounds.{IsAsked, is_stuck_with}
use Rattle.elf_layout_plan.specs.Sizes.{do_sizes_fit, new_sizes}

-- the new sizes of an image's sections
abbrev pub sizes_of_image : Image → List ℕ
sizes_of_image image = new_sizes (image_at_read image) image

-- the sizes of all sections of an image fit, and so do the offsets of texts
abbrev pub do_sizes_of_image_fit : Image → Bool
do_sizes_of_image_fit image = do_sizes_fit (image_at_read image) image

-- no sizes: one of them is too large
abbrev pub AreNoSizes : Image → LayoutFault → Type 0
AreNoSizes image faults.Overlap = ⊥
AreNoSizes image faults.NumberTooLarge = do_sizes_of_image_fit image ≡ false
AreNoSizes image faults.Memory = Unit {0}

-- no sections to move: two blocks overlap that can't move
abbrev pub IsStuckBy : Image → ℕ → LayoutFault → Type 0
IsStuckBy image added faults.Overlap = is_stuck_with (resized image) added ≡ true
IsStuckBy image added faults.NumberTooLarge = ⊥
IsStuckBy image added faults.Memory = Unit {0}

-- two blocks that can't move overlap with a number of program headers more that is asked for
pub record IsStuckAsked (r : Resized) : Type 0 where
  pub looked : ℕ
  pub asked : IsAsked r looked
  pub stuck : IsTrue (is_stuck_with r looked)

-- no plan
abbrev pub IsNoPlan : Image → LayoutFault → Type 0
IsNoPlan image faults.Overlap = IsOverlapping (resized image)
IsNoPlan image faults.NumberTooLarge = IsTooLarge (resized image)
IsNoPlan image faults.Memory = Unit {0}
