use Rattle.std.proofs.Common.{◌≡◌}
use Rattle.elf_image.specs.Kept.{kept_sections}
use Rattle.elf_image_uses.specs.Renumbering.{has_opaque_user, is_opaque_user}
use Rattle.elf_image_uses.specs.Staying.{staying, stays}
use Rattle.elf_image_uses.proofs.ListSteps.{some_from}
use Rattle.elf_image_uses.proofs.renumbering.has_opaque_user.Given as goal

-- none of the sections so far is a user
abbrev pub invariant-loop-i : goal.invariant-loop-i
invariant-loop-i l =
    some_from (stays l.gone) (λ s. is_opaque_user l.table s.section) (kept_sections l.image) l.i ≡ has_opaque_user l.table (staying l.gone l.image)
