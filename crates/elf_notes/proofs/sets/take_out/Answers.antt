-- One more name is taken out of the set.
use Rattle.std.proofs.Common.{get_or}
use Rattle.std.specs.HashSet.{keys}
use Rattle.std.proofs.lemmas.List.{get_or_default}
use Rattle.elf_edits.specs.Changes.{has_name}
use Rattle.elf_notes.proofs.NameSteps.{all_there, take_out_more}
use Rattle.elf_notes.proofs.sets.take_out.Goals as goal

pub loop-name-init : goal.loop-name-init
loop-name-init c = λ name. all_there (has_name (keys c.args.set.now) name)

pub loop-name-preserved : goal.loop-name-preserved
loop-name-preserved c = λ name.
    take_out_more c.args.names.now c.loop-name.name-index (get_or c.args.names.now c.loop-name.name-index _) c.loop-name-test.true (get_or_default c.args.names.now c.loop-name.name-index _ _ c.loop-name-test.true) (has_name (keys c.args.set.now) name) (keys c.loop-name.set) (keys c.remove.new.self) name
    (c.loop-name.invariant name) (c.remove.ensures.updates.0 (record { ref_ptr = (0, 0); now = name }))
