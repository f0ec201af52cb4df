use Rattle.std.proofs.Common.{◌≡◌, drop, eqb}
use Rattle.std.specs.Prelude.{find}
use Rattle.elf_format.proofs.lookups.section_of_type.Given as goal

-- no section so far passes the test
abbrev pub invariant-loop-s : goal.invariant-loop-s
invariant-loop-s l = find (λ q. eqb q.sh_type l.kind) (drop l.s-index l.sections) ≡ find (λ q. eqb q.sh_type l.kind) l.sections
