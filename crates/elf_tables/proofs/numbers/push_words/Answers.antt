-- One more number is appended.
use Rattle.std.proofs.Common.{ℕ, ◌++◌, ap, ◌∙◌, arith}
use Rattle.elf_tables.proofs.FieldLaws.{fields_more}
use Rattle.elf_tables.proofs.numbers.push_words.Goals as goal

pub loop-number-preserved : goal.loop-number-preserved
loop-number-preserved c =
    fields_more (λ (x : ℕ). (4, x)) c.args.order c.args.bytes.now.items c.loop-number.bytes.items c.extend_from_slice.new.self.items c.args.numbers.now c.loop-number.number-index 0 (omega arith) c.loop-number.invariant
    (c.in_ok-extend_from_slice.ensures.items ∙ ap (λ r. c.loop-number.bytes.items ++ r) c.word_bytes.ensures)
