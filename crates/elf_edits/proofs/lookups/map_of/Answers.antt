-- One more pair is put into the map.
use Rattle.elf_edits.proofs.LookupSteps.{map_more_pair}
use Rattle.elf_edits.proofs.lookups.map_of.Goals as goal

pub loop-old-preserved : goal.loop-old-preserved
loop-old-preserved c = λ name.
    map_more_pair c.args.pairs.now c.loop-old.old-index c.loop-old-item.result c.loop-old-test.true c.loop-old-item.is c.loop-old.made.entries c.insert.new.self.entries c.as_slice.result.now c.as_slice-in-loop-old.result name
    c.as_slice.ensures.value c.as_slice-in-loop-old.ensures.value (c.loop-old.invariant name) (c.in_ok-insert.ensures.updates.0 (record { ref_ptr = (0, 0); now = name }))
