-- One symbol's word more, or none, and all.
use Rattle.std.proofs.Common.{◌+◌, List, Option, ℕ, ap, ◌∙◌, arith}
use Rattle.std.proofs.lemmas.List.{take_rest}
use Rattle.elf_hashes.specs.Gnu.{word_of}
use Rattle.elf_hashes.proofs.GnuWords.{words-end, words-none, words-some}
use Rattle.elf_hashes.proofs.gnu.symbol_words.Goals as goal
use Rattle.elf_hashes.proofs.gnu.symbol_words.Goals.{in-Some+in_ok-push-in-Some, in-None}

pub loop-i-preserved : goal.loop-i-preserved
loop-i-preserved c = elim c.match-hashes-i.branch [
  | in-Some+in_ok-push-in-Some w ↦
      rw w.made-is
      (words-some c.args.buckets c.args.hashes.now c.loop-i.made.items w.push.new.self.items c.loop-i.i w.in-Some.hash w.word_of.result (omega arith) w.in-Some.is
      (w.word_of.ensures ∙ ap (λ (l : List (Option ℕ)). word_of c.args.buckets w.in-Some.hash l) (take_rest c.args.hashes.now (c.loop-i.i + 1)))
      w.in_ok-push-in-Some.ensures.items c.loop-i.invariant)
  | in-None w ↦ rw w.made-is (words-none c.args.buckets c.args.hashes.now c.loop-i.made.items c.loop-i.i (omega arith) w.in-None.is c.loop-i.invariant)
]

pub returns : goal.returns
returns c = words-end c.args.buckets c.args.hashes.now c.loop-i.made.items c.loop-i.i (omega arith) c.loop-i.invariant
