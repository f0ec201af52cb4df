use Rattle.std.proofs.Common.{◌≡◌, ◌++◌, drop, map}
use Rattle.std.specs.Prelude.{◌&&◌, ◌==◌, filter, not}
use Rattle.std.specs.HashSet.{keys}
use Rattle.std.specs.List.{zip}
use Rattle.elf_edits.specs.Changes.{has_name}
use Rattle.elf_symbol_edits.specs.Named.{numbers_passing, section_name}
use Rattle.elf_symbol_edits.proofs.names.sections_in.Given as goal

-- the sections so far, and those of what is left
abbrev pub invariant-loop-i : goal.invariant-loop-i
invariant-loop-i l =
    l.made.items ++ map (λ x. x.0) (filter (λ x. not (x.0 == 0) && has_name (keys l.names) (section_name x.1)) (drop l.i (zip l.image.section_numbers l.image.sections)))
    ≡ numbers_passing (λ s. has_name (keys l.names) (section_name s)) l.image.section_numbers l.image.sections
