use Rattle.std.proofs.Common.{◌≡◌}
use Rattle.std.specs.Prelude.{◌==◌}
use Rattle.elf_image.specs.Kept.{kept_of_type, kept_sections}
use Rattle.elf_image_uses.proofs.ListSteps.{first_from}
use Rattle.elf_image_uses.proofs.kept.table_number.Given as goal

-- none of the sections so far is of the type
abbrev pub invariant-loop-i : goal.invariant-loop-i
invariant-loop-i l = first_from (λ s. s.section.sh_type == l.kind) (kept_sections l.image) l.i ≡ kept_of_type l.kind l.image
