use Rattle.std.proofs.Common.{◌≡◌, ◌+◌, take, sum_by}
use Rattle.elf_image_flaws.specs.Flaws.{relocation_bytes}
use Rattle.elf_image_flaws.proofs.links.are_relocations_within.Given as goal

-- what is left, and what the sections so far have
abbrev pub invariant-loop-section : goal.invariant-loop-section
invariant-loop-section l = l.left + sum_by relocation_bytes (take l.section-index l.sections) ≡ l.room
