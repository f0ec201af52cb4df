use Rattle.std.proofs.Common.{◌≡◌, ◌≤◌, ◌-◌, ◌*◌, ◌++◌, length}
use Rattle.elf_format.specs.Form.{records}
use Rattle.elf_format.proofs.tables.read_records.Given as goal

-- what was made so far, and what the rest gives
abbrev pub invariant-loop : goal.invariant-loop
invariant-loop g l = record {
  room : (l.count - l.counter) * l.size ≤ length l.rest;
  made : l.made.items ++ records (g.R.Record.decode l.form) l.size (l.count - l.counter) l.rest ≡ records (g.R.Record.decode l.form) l.size l.count l.bytes;
}
