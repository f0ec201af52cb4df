use Rattle.std.proofs.Common.{◌≡◌}
use Rattle.std.specs.List.{list_any}
use Rattle.elf_image.specs.Kept.{kept_sections}
use Rattle.elf_image_uses.specs.Staying.{goes, going}
use Rattle.elf_image_uses.specs.Steps.{lasts}
use Rattle.elf_image_uses.proofs.ListSteps.{some_from}
use Rattle.elf_image_uses.proofs.needed.some_last.Given as goal

-- none of the sections so far goes and lasts
abbrev pub invariant-loop-i : goal.invariant-loop-i
invariant-loop-i l =
    some_from (goes l.gone) (λ s. lasts l.names l.strings s.number s.section.sh_type) (kept_sections l.image) l.i
    ≡ list_any (λ s. lasts l.names l.strings s.number s.section.sh_type) (going l.gone l.image)
