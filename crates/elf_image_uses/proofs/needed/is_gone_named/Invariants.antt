use Rattle.std.proofs.Common.{◌≡◌}
use Rattle.std.specs.List.{list_any}
use Rattle.elf_image.specs.Kept.{kept_sections}
use Rattle.elf_image_uses.specs.Needed.{names_section}
use Rattle.elf_image_uses.specs.Staying.{staying, stays}
use Rattle.elf_image_uses.proofs.ListSteps.{some_from}
use Rattle.elf_image_uses.proofs.needed.is_gone_named.Given as goal

-- none of the sections so far stays and names a section that goes
abbrev pub invariant-loop-i : goal.invariant-loop-i
invariant-loop-i l =
    some_from (stays l.gone) (λ s. list_any (names_section s.section) l.gone) (kept_sections l.image) l.i
    ≡ list_any (λ s. list_any (names_section s.section) l.gone) (staying l.gone l.image)
