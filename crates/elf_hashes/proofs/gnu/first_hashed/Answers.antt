-- Where the first hash stands.
use Rattle.std.proofs.Common.{sym, arith}
use Rattle.elf_hashes.proofs.GnuWords.{first-end, first-none, first-some}
use Rattle.elf_hashes.proofs.gnu.first_hashed.Goals as goal

pub returns-then-is_some-clause-value : goal.returns-then-is_some-clause-value
returns-then-is_some-clause-value c = first-some c.args.hashes.now c.loop-i.i (omega arith) (sym c.if-is_some.ensures) c.loop-i.invariant

pub loop-i-preserved : goal.loop-i-preserved
loop-i-preserved c = first-none c.args.hashes.now c.loop-i.i (omega arith) (sym c.if-is_some.ensures) c.loop-i.invariant

pub returns-clause-value : goal.returns-clause-value
returns-clause-value c = first-end c.args.hashes.now c.loop-i.i (omega arith) c.loop-i.invariant
