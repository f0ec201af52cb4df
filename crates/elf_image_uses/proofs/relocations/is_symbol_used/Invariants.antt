use Rattle.std.proofs.Common.{◌≡◌}
use Rattle.std.specs.Prelude.{◌&&◌, ◌==◌, not}
use Rattle.std.specs.List.{list_any}
use Rattle.elf_image.specs.Kept.{kept_sections}
use Rattle.elf_image_uses.specs.Relocated.{is_symbol_used, names_symbol}
use Rattle.elf_image_uses.specs.Staying.{staying, stays}
use Rattle.elf_image_uses.proofs.ListSteps.{some_from}
use Rattle.elf_image_uses.proofs.relocations.is_symbol_used.Given as goal

-- none of the sections so far names a symbol of these
abbrev pub invariant-loop-i : goal.invariant-loop-i
invariant-loop-i l =
    some_from (stays l.gone) (λ s. list_any (λ n. not (n == 0) && names_symbol l.form l.table n s.section) l.numbers) (kept_sections l.image) l.i
    ≡ is_symbol_used l.form l.table l.numbers (staying l.gone l.image)
