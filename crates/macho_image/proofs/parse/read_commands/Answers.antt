use Rattle.std.proofs.Common.{arith}
use Rattle.std.proofs.lemmas.Result.{err_from_is_err_and}
use Rattle.macho_image.proofs.ListingLaws.{checked_more, fails_first, listed_more, lowered_more, place_more}
use Rattle.macho_image.proofs.parse.read_commands.Goals as goal

pub returns-in_err-command : goal.returns-in_err-command
returns-in_err-command c =
    let p = err_from_is_err_and c.from_residual.result c.from_residual.ensures.1 in
    let first = fails_first c.args.order c.args.count c.loop-i._i c.loop-i.rest.now _ c.in_err-command.field-0.0 (omega arith) c.loop-i.invariant.checked c.in_err-command.ensures in
    rw (p.1, p.2) (λ _. first)

pub loop-i-preserved : goal.loop-i-preserved
loop-i-preserved c =
    let order = c.args.order in
    let count = c.args.count in
    let i = c.loop-i._i in
    let rest = c.loop-i.rest.now in
    let command = c.in_ok-command.command.now in
    let checked = c.in_ok-command.ensures in
    record {
      place = place_more order c.loop-i.offset _ rest command checked.0 checked.1 c.loop-i.invariant.place;
      checked = checked_more order count i rest command _ (omega arith) checked.0 checked.1 c.loop-i.invariant.checked;
      listed = listed_more order count i c.loop-i.offset rest command c.read_variant.result c.loop-i.commands.items c.push.new.self.items _ (omega arith) checked.0 checked.1 c.read_variant.ensures c.in_ok-push.ensures.items c.loop-i.invariant.listed;
      lowered = lowered_more order count i rest command c.loop-i.first_content _ _ (omega arith) checked.0 checked.1 c.lower_by_command-first_content.ensures c.loop-i.invariant.lowered;
    }
