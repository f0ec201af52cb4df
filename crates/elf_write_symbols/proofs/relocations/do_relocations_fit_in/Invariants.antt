use Rattle.std.proofs.Common.{◌≡◌}
use Rattle.std.specs.List.{list_all}
use Rattle.elf_image.specs.Kept.{kept_sections}
use Rattle.elf_write_symbols.specs.Fits.{do_section_relocations_fit}
use Rattle.elf_write_symbols.proofs.ListSteps.{all_from}
use Rattle.elf_write_symbols.proofs.relocations.do_relocations_fit_in.Given as goal

-- the relocations of all sections fit if those of the sections that are left do
abbrev pub invariant-loop-i : goal.invariant-loop-i
invariant-loop-i l =
    all_from (do_section_relocations_fit l.read l.image) (kept_sections l.image) l.i
    ≡ list_all (do_section_relocations_fit l.read l.image) (kept_sections l.image)
