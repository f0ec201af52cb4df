use Rattle.std.proofs.Common.{◌≡◌, ◌++◌, drop, map}
use Rattle.std.specs.Prelude.{filter}
use Rattle.elf_image.specs.Kept.{kept_sections}
use Rattle.elf_image_uses.specs.Steps.{begins_of, is_begin}
use Rattle.elf_image_uses.proofs.along.begins.Given as goal

-- the sections that begin so far, and those of what is left
abbrev pub invariant-loop-i : goal.invariant-loop-i
invariant-loop-i l =
    l.made.items ++ map (λ s. s.section.sh_addr) (filter (is_begin l.go l.gone) (drop l.i (kept_sections l.image))) ≡ begins_of l.go l.gone l.image
