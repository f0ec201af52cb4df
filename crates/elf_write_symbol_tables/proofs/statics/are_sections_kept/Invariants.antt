use Rattle.std.proofs.Common.{◌≡◌, drop}
use Rattle.std.specs.List.{list_all}
use Rattle.elf_write_symbol_tables.specs.SymbolSteps.{is_section_kept as is_kept}
use Rattle.elf_write_symbol_tables.proofs.statics.are_sections_kept.Given as goal

-- the sections of the symbols that are left are kept just where all are
abbrev pub invariant-loop-i : goal.invariant-loop-i
invariant-loop-i l = list_all (is_kept l.image) (drop l.i l.image.symbols) ≡ list_all (is_kept l.image) l.image.symbols
