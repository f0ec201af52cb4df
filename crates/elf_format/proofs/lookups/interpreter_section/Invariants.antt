use Rattle.std.proofs.Common.{◌≡◌, drop}
use Rattle.std.specs.Prelude.{find}
use Rattle.elf_format.specs.Seen.{is_interpreter}
use Rattle.elf_format.proofs.lookups.interpreter_section.Given as goal

-- no section so far passes the test
abbrev pub invariant-loop-s : goal.invariant-loop-s
invariant-loop-s l = find (is_interpreter l.segment) (drop l.s-index l.sections) ≡ find (is_interpreter l.segment) l.sections
