use Rattle.std.proofs.Common.{◌≡◌, drop}
use Rattle.elf_write_strings.specs.WrittenStrings.{made_of}
use Rattle.elf_write_strings.proofs.made.made_of.Given as goal

-- the table is looked for among those that are left
abbrev pub invariant-loop-table : goal.invariant-loop-table
invariant-loop-table l = made_of (drop l.table-index l.made) l.number ≡ made_of l.made l.number
