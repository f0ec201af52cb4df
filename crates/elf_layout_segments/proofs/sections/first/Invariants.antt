use Rattle.std.proofs.Common.{◌≡◌, drop}
use Rattle.elf_layout_segments.specs.Sections.{first_wanted}
use Rattle.elf_layout_segments.proofs.sections.first.Given as goal

abbrev pub invariant-loop-section : goal.invariant-loop-section
invariant-loop-section l = first_wanted l.wanted (drop l.section-index l.sections) ≡ first_wanted l.wanted l.sections
