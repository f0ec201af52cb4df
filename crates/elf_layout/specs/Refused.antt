-- Why there is no plan for an image whose new sizes are computed too.
use Rattle.std.specs.Prelude.{◌≡◌, ◌⊎◌, false}
use Rattle.elf_format.specs.Image.{Image}
use Rattle.elf_layout_plan.specs.declared.fault.LayoutFault.{LayoutFault}
use Rattle.elf_layout_plan.specs.declared.fault.LayoutFault.TheVariants as faults
use Rattle.elf_layout_plan.specs.Plan.{IsOverlapping, IsTooLarge, resized}
use Rattle.elf_layout_plan.specs.Refusals.{do_sizes_of_image_fit}

-- a new size or the offset of a text is past its field, or what follows from the sizes has no plan
abbrev pub IsNoLayout : Image → LayoutFault → Type 0
IsNoLayout image faults.Overlap = IsOverlapping (resized image)
IsNoLayout image faults.NumberTooLarge = (do_sizes_of_image_fit image ≡ false) ⊎ IsTooLarge (resized image)
IsNoLayout image faults.Memory = Unit {0}
