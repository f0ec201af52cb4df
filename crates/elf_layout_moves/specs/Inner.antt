-- What the steps hand to each other by which it is found which sections move.
use Rattle.std.specs.Prelude.{ℕ, ◌≡◌, List, length, map, Bool, true}
use Rattle.elf_format.specs.Image.{counted}
use Rattle.elf_format.specs.Options.{is_one_of}
use Rattle.elf_layout_plan.specs.declared.fault.LayoutFault.{LayoutFault}
use Rattle.elf_layout_plan.specs.declared.fault.LayoutFault.TheVariants as faults
use Rattle.elf_image.specs.Kept.{image_at_read}
use Rattle.elf_layout_plan.specs.Memory.{Resized}
use Rattle.elf_layout_plan.specs.Rounds.{is_stuck_with}
use Rattle.elf_layout_plan.specs.Sizes.{new_sizes}

-- ## Images with sizes

-- the image that was read is that of the same bytes, and the sizes are those of the edited image's sections
pub record IsResized (r : Resized) : Type 0 where
  pub read : r.read ≡ image_at_read r.image
  pub sizes : r.sizes ≡ new_sizes r.read r.image

-- ## Sections that move

-- the positions of the sections
abbrev pub positions_of : Resized → List ℕ
positions_of r = counted (length r.image.sections)

-- one mark for each section, which says whether its position is among those that move
pub record AreMarks (r : Resized) (moved : List ℕ) (marks : List Bool) : Type 0 where
  pub is : marks ≡ map (is_one_of moved) (positions_of r)

-- ## Rounds

-- a round that looks with so many entries finds two blocks that overlap and can't move
abbrev pub IsStuckAt : Resized → ℕ → LayoutFault → Type 0
IsStuckAt r looked faults.Overlap = is_stuck_with r looked ≡ true
IsStuckAt r looked faults.NumberTooLarge = ⊥
IsStuckAt r looked faults.Memory = Unit {0}
