use Rattle.std.proofs.Common.{◌≡◌, ◌++◌, ◌≤◌, drop, map}
use Rattle.elf_edits.specs.Changes.{name_for}
use Rattle.elf_image.specs.ImageModel.{section_model, text_model}
use Rattle.elf_symbol_edits.specs.Named.{section_name}
use Rattle.elf_symbol_edits.proofs.sections.names_in.Given as goal

-- the names so far, and those of the sections that are left
abbrev pub invariant-loop-i : goal.invariant-loop-i
invariant-loop-i l =
    (1 ≤ l.i)
    × (map text_model l.made.items ++ map (λ s. name_for l.names.entries (section_name s)) (drop l.i (map section_model l.sections))
    ≡ map (λ s. name_for l.names.entries (section_name s)) (drop 1 (map section_model l.sections)))
