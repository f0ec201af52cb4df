use Rattle.elf_write_symbols.specs.Final.{final}
use Rattle.elf_write_symbol_tables.specs.SymbolSteps.{AreSpelled}
use Rattle.elf_write_symbol_tables.proofs.dynamic.ordered_records.Given as goal

-- the records so far are spelled
abbrev pub invariant-loop-i : goal.invariant-loop-i
invariant-loop-i l = AreSpelled l.image.form l.made.table.bytes (final l.read l.image).dynamic_symbols l.i l.bytes.items
