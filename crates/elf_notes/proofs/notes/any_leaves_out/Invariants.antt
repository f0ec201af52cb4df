use Rattle.std.proofs.Common.{◌≡◌, drop, map}
use Rattle.std.specs.List.{list_any}
use Rattle.elf_image.specs.ImageModel.{section_model}
use Rattle.elf_image_symbols.specs.Loan.{symbols_now}
use Rattle.elf_notes.specs.Notes.{leaves_out}
use Rattle.elf_notes.proofs.notes.any_leaves_out.Given as goal

-- no section so far leaves out a symbol
abbrev pub invariant-loop-section : goal.invariant-loop-section
invariant-loop-section l = list_any (leaves_out l.form (symbols_now l.symbols)) (map section_model (drop l.section-index l.sections)) ≡ list_any (leaves_out l.form (symbols_now l.symbols)) (map section_model l.sections)
