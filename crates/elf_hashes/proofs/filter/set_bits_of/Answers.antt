-- The two bits of a hash are set in the word that it names.
use Rattle.std.proofs.Common.{◌≡◌, ℕ, ◌/◌, ◌%◌, length, set, get_or, ap, ◌∙◌, sym}
use Rattle.std.specs.Prelude.{bit_or}
use Rattle.std.proofs.Math.Nat.{mod-lt}
use Rattle.elf_format.specs.Hashes.{filter_bits}
use Rattle.elf_hashes.proofs.ChainSteps.{bits-none, bits-some}
use Rattle.elf_hashes.proofs.filter.set_bits_of.Goals as goal

pub returns-in-Some : goal.returns-in-Some
returns-in-Some c =
    let hash : ℕ = c.in-Some.hash in
    let words = c.args.words.now in
    let k : ℕ = hash / c.filter_bits.result % length words in
    let named : hash / filter_bits c.args.form % c.args.sizes.filter_words ≡ k =
    ap (λ (n : ℕ). hash / n % c.args.sizes.filter_words) (sym c.filter_bits.ensures) ∙ ap (λ (n : ℕ). hash / c.filter_bits.result % n) (sym c.requires.many) in
    bits-some c.args.form c.args.sizes c.args.i hash k c.args.hashes.now words (set words k (bit_or (get_or words k 0) c.bits_of.result)) c.requires.inside c.in-Some.is
    (mod-lt (hash / c.filter_bits.result) (rw c.requires.many c.requires.some)) named
    (ap (λ (n : ℕ). set words k (bit_or (get_or words k 0) n)) c.bits_of.ensures) c.requires.behind

pub returns-in-None : goal.returns-in-None
returns-in-None c = bits-none c.args.form c.args.sizes c.args.i c.args.hashes.now c.args.words.now c.requires.inside c.in-None.is c.requires.behind
