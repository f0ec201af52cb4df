-- A symbol with a hash comes before the others of its bucket, and one without stands in none.
use Rattle.std.proofs.Math.Nat.{mod-lt}
use Rattle.elf_hashes.proofs.ChainSteps.{chained-none, chained-some}
use Rattle.elf_hashes.proofs.chains.chain_symbol.Goals as goal
use Rattle.elf_hashes.proofs.chains.chain_symbol.Goals.{in-None, in-Some}

pub returns : goal.returns
returns c = elim c.match-hashes-i.branch [
  | in-Some w ↦
      rw (w.firsts-is, w.nexts-is, w.put_first.ensures.was)
      (chained-some c.args.i w.in-Some.hash c.args.hashes.now c.args.firsts.now c.args.nexts.now w.put_first.new.firsts c.requires.inside w.in-Some.is
      (mod-lt w.in-Some.hash c.requires.some) w.put_first.ensures.put c.requires.behind)
  | in-None w ↦
      rw (w.firsts-is, w.nexts-is)
      (chained-none c.args.i c.args.hashes.now c.args.firsts.now c.args.nexts.now c.requires.inside w.in-None.is c.requires.behind)
]
