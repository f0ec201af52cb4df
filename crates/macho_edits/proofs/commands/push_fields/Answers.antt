-- One more field is appended.
use Rattle.std.proofs.Common.{◌++◌, ap, ◌∙◌, arith}
use Rattle.macho_edits.proofs.BuilderLemmas.{fields_more}
use Rattle.macho_edits.proofs.commands.push_fields.Goals as goal

pub loop-number-preserved : goal.loop-number-preserved
loop-number-preserved c =
    fields_more c.args.order c.args.bytes.now.items c.loop-number.bytes.items c.extend_from_slice.new.self.items c.args.numbers.now c.loop-number.number-index (omega arith) c.loop-number.invariant (c.in_ok-extend_from_slice.ensures.items ∙ ap (λ r. c.loop-number.bytes.items ++ r) c.field_bytes.ensures)
