-- The bits of all hashes are set.
use Rattle.std.proofs.Common.{◌≡◌, ℕ, ◌∙◌, subst, arith}
use Rattle.elf_hashes.specs.Steps.{AreBitsSet}
use Rattle.elf_hashes.proofs.ChainSteps.{bits-all, bits-begin}
use Rattle.elf_hashes.proofs.filter.set_bits.Goals as goal

pub loop-i-init : goal.loop-i-init
loop-i-init c = record {
  within = omega arith;
  are_set = bits-begin c.args.form c.args.sizes c.args.hashes.now c.args.words.now c.requires.none;
}

pub returns : goal.returns
returns c =
    let Set : ℕ → Type 0 = λ i. AreBitsSet c.args.form c.args.sizes i c.args.hashes.now c.loop-i.words in
    let whole : c.loop-i.i ≡ 0 = omega arith in
    bits-all c.args.form c.args.sizes c.args.hashes.now c.loop-i.words (c.loop-i.auto.words ∙ c.requires.many) (subst Set whole c.loop-i.invariant.are_set)
