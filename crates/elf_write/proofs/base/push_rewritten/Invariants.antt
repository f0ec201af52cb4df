use Rattle.std.proofs.Common.{◌≡◌, ◌++◌, take}
use Rattle.elf_image.specs.Kept.{kept_sections}
use Rattle.elf_layout_plan.specs.Plan.{resized}
use Rattle.elf_write.specs.LayingSteps.{rewritten_places}
use Rattle.elf_write.proofs.base.push_rewritten.Given as goal

-- the places of the sections so far
abbrev pub invariant-loop-i : goal.invariant-loop-i
invariant-loop-i l = l.places.items ≡ l.initial.places.items ++ rewritten_places (resized l.image) (take l.i (kept_sections l.image))
