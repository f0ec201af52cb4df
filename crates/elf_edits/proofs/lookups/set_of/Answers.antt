-- One more name is put into the set.
use Rattle.std.specs.HashSet.{keys}
use Rattle.elf_edits.proofs.LookupSteps.{set_more_name}
use Rattle.elf_edits.proofs.lookups.set_of.Goals as goal

pub loop-name-preserved : goal.loop-name-preserved
loop-name-preserved c = λ name.
    set_more_name c.args.names.now c.loop-name.name-index c.name-item.result c.loop-name-test.true c.name-item.is (keys c.loop-name.set) (keys c.insert.new.self) c.as_slice.result.now name
    c.as_slice.ensures.value (c.loop-name.invariant name) (c.in_ok-insert.ensures.updates.0 (record { ref_ptr = (0, 0); now = name }))
