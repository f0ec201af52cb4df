use Rattle.std.proofs.Common.{◌≡◌, drop, eqb}
use Rattle.std.specs.Prelude.{find}
use Rattle.elf_format.proofs.lookups.segment_of_type.Given as goal

-- no program header so far passes the test
abbrev pub invariant-loop-p : goal.invariant-loop-p
invariant-loop-p l = find (λ q. eqb q.p_type l.kind) (drop l.p-index l.segments) ≡ find (λ q. eqb q.p_type l.kind) l.segments
