-- The fields, the text and the zeros stand one behind the other.
use Rattle.std.proofs.Common.{arith}
use Rattle.macho_edits.proofs.BuilderLemmas.{length-text_behind, text_behind, zeros_behind}
use Rattle.macho_edits.proofs.commands.command_bytes.Goals as goal

pub overflow_sub-padding : goal.overflow_sub-padding
overflow_sub-padding c =
    let text = text_behind c.args.order c.args.numbers.now c.args.text.now c.in_ok-bytes.bytes.items c.push_fields.new.bytes.items c.extend_from_slice.new.self.items c.in_ok-bytes.ensures.items c.in_ok-push_fields.ensures c.in_ok-extend_from_slice.ensures.items in
    omega (arith, length-text_behind c.args.order c.args.numbers.now c.args.text.now c.extend_from_slice.new.self.items text, c.extend_from_slice.new.self.ok.0)

pub returns : goal.returns
returns c =
    let text = text_behind c.args.order c.args.numbers.now c.args.text.now c.in_ok-bytes.bytes.items c.push_fields.new.bytes.items c.extend_from_slice.new.self.items c.in_ok-bytes.ensures.items c.in_ok-push_fields.ensures c.in_ok-extend_from_slice.ensures.items in
    zeros_behind c.args.order c.args.numbers.now c.args.text.now c.extend_from_slice.new.self.items c.push_zeros.new.bytes.items c.args.size c.len.result text (omega (arith, c.extend_from_slice.new.self.ok.0)) c.in_ok-push_zeros.ensures
