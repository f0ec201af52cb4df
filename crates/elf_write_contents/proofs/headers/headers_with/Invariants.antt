use Rattle.elf_image.specs.Kept.{kept_sections}
use Rattle.elf_layout_plan.specs.Plan.{resized}
use Rattle.elf_write_contents.specs.HeaderSteps.{AreMade}
use Rattle.elf_write_symbol_tables.specs.WrittenStrings.{strings_at}
use Rattle.elf_write_contents.proofs.headers.headers_with.Given as goal

abbrev pub invariant-loop-i : goal.invariant-loop-i
invariant-loop-i l =
    AreMade (resized l.image) (strings_at l.image l.made l.image.header.e_shstrndx) (kept_sections l.image) l.plan.places l.headers.items l.i
