use Rattle.std.proofs.Common.{◌^◌, [], arith}
use Rattle.byte_store.proofs.RunLaws.{piece_lies}
use Rattle.macho_commands_stores.proofs.changes.push_changes_at.Goals as goal

pub overflow_add-offset : goal.overflow_add-offset
overflow_add-offset c =
    let lies = piece_lies c.args.changes.now (2 ^ 32) c.loop-change.change-index (record { offset = 0; bytes = record { ref_ptr = (0, 0); now = [] } }) c.requires.inside (omega arith) in
    omega (arith, c.requires.at, lies)
