use Rattle.byte_store.proofs.RunLaws.{grown, longer, undone}
use Rattle.byte_store.proofs.writing.grow.Goals as goal

pub returns-in-Ok-clause-ok : goal.returns-in-Ok-clause-ok
returns-in-Ok-clause-ok g c = grown c.args.old_length c.args.growth.now _ _ c.requires.old c.in-Ok.ensures.ok

pub returns-in-Ok-set_length-clause-err : goal.returns-in-Ok-set_length-clause-err
returns-in-Ok-set_length-clause-err g c =
    undone c.args.old_length c.args.growth.now _ _ _ c.requires.old c.in-Err.ensures.err c.in-Ok-set_length.ensures.bytes

pub returns-in-Err-set_length-clause-err : goal.returns-in-Err-set_length-clause-err
returns-in-Err-set_length-clause-err g c =
    longer c.args.old_length c.args.growth.now _ _ _ c.requires.old c.in-Err.ensures.err c.in-Err-set_length.ensures.bytes
