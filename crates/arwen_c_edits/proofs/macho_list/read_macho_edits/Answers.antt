use Rattle.std.proofs.Common.{map}
use Rattle.macho_edits.specs.Batch.{call_made}
use Rattle.arwen_c_edits.specs.MachoEdits.{macho_edit_read}
use Rattle.arwen_c_edits.proofs.ListSteps.{all_read, fault_read, pushed}
use Rattle.arwen_c_edits.proofs.macho_list.read_macho_edits.Goals as goal

pub returns-in-Err-clause-err : goal.returns-in-Err-clause-err
returns-in-Err-clause-err c =
    fault_read macho_edit_read c.args.edits.now c.loop-index.index c.loop-index-test.true (map call_made c.loop-index.read.items) c.in-Err.error
    c.error_at.result c.in-Err.ensures.err c.error_at.ensures c.loop-index.invariant

pub loop-index-preserved : goal.loop-index-preserved
loop-index-preserved c =
    pushed macho_edit_read c.args.edits.now c.loop-index.index c.loop-index-test.true call_made c.loop-index.read.items c.push.new.self.items
    c.in-Ok.edit c.in-Ok.ensures.ok c.in_ok-push-in-Ok.ensures.items c.loop-index.invariant

pub returns-clause-ok : goal.returns-clause-ok
returns-clause-ok c =
    all_read macho_edit_read c.args.edits.now c.loop-index.index (map call_made c.loop-index.read.items) c.loop-index-test.false c.loop-index.invariant
