use Rattle.elf_write_symbols.specs.Final.{final}
use Rattle.elf_write_strings.specs.WrittenStrings.{content_read}
use Rattle.elf_write_symbol_tables.specs.SymbolSteps.{AreSpelled}
use Rattle.elf_write_symbol_tables.proofs.statics.records_as_named.Given as goal

-- the records so far are spelled
abbrev pub invariant-loop-i : goal.invariant-loop-i
invariant-loop-i l = AreSpelled l.image.form (content_read l.image l.section.sh_link) (final l.read l.image).symbols l.i l.bytes.items
