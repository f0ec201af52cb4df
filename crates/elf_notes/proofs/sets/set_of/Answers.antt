-- One more name is put into the set.
use Rattle.std.proofs.Common.{get_or}
use Rattle.std.specs.HashSet.{keys}
use Rattle.std.proofs.lemmas.List.{get_or_default}
use Rattle.elf_notes.proofs.NameSteps.{put_more}
use Rattle.elf_notes.proofs.sets.set_of.Goals as goal

pub loop-name-preserved : goal.loop-name-preserved
loop-name-preserved c = λ name.
    put_more c.args.names.now c.loop-name.name-index (get_or c.args.names.now c.loop-name.name-index _) c.loop-name-test.true (get_or_default c.args.names.now c.loop-name.name-index _ _ c.loop-name-test.true) (keys c.loop-name.set) (keys c.insert.new.self) name
    (c.loop-name.invariant name) (c.in_ok-insert.ensures.updates.0 (record { ref_ptr = (0, 0); now = name }))
