-- All symbols are chained.
use Rattle.std.proofs.Common.{ℕ, length, subst, arith}
use Rattle.elf_hashes.specs.Steps.{AreChained}
use Rattle.elf_hashes.proofs.ChainSteps.{chained-begin, chained-entries, chained-heads}
use Rattle.elf_hashes.proofs.chains.chain.Goals as goal

pub loop-i-init : goal.loop-i-init
loop-i-init c = record {
  within = omega arith;
  chained = chained-begin c.args.hashes.now c.args.firsts.now c.args.nexts.now c.requires.long c.requires.none;
}

pub returns-clause-firsts : goal.returns-clause-firsts
returns-clause-firsts c =
    let Chained : ℕ → Type 0 = λ i. AreChained i c.args.hashes.now c.loop-i.firsts c.loop-i.nexts in
    chained-heads (length c.args.firsts.now) c.args.hashes.now c.loop-i.firsts c.loop-i.nexts c.loop-i.auto.firsts (subst Chained (omega arith) c.loop-i.invariant.chained)

pub returns-clause-nexts : goal.returns-clause-nexts
returns-clause-nexts c =
    let Chained : ℕ → Type 0 = λ i. AreChained i c.args.hashes.now c.loop-i.firsts c.loop-i.nexts in
    chained-entries (length c.args.firsts.now) c.args.hashes.now c.loop-i.firsts c.loop-i.nexts c.loop-i.auto.firsts (subst Chained (omega arith) c.loop-i.invariant.chained)
