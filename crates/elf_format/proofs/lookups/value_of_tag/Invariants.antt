use Rattle.std.proofs.Common.{◌≡◌, drop, eqb}
use Rattle.std.specs.Prelude.{find}
use Rattle.elf_format.proofs.lookups.value_of_tag.Given as goal

-- no entry so far passes the test
abbrev pub invariant-loop-e : goal.invariant-loop-e
invariant-loop-e l = find (λ q. eqb q.d_tag l.tag) (drop l.e-index l.entries) ≡ find (λ q. eqb q.d_tag l.tag) l.entries
