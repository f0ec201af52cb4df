-- A library is put into the set, or the entry needs none.
use Rattle.std.proofs.Common.{◌∙◌, ap}
use Rattle.std.specs.HashSet.{keys}
use Rattle.elf_edits.specs.Changes.{has_name}
use Rattle.elf_edits.proofs.LookupSteps.{set_kept, set_more}
use Rattle.elf_edits.proofs.lookups.needed_set.Goals.{in-Some+in_ok-insert, in_default}
use Rattle.elf_edits.proofs.lookups.needed_set.Goals as goal

pub loop-entry-preserved : goal.loop-entry-preserved
loop-entry-preserved c = λ name.
    let es = c.args.entries.now in
    let i = c.loop-entry.entry-index in
    let x = c.entry-item.result in
    elim c.match-needed_name.branch [
      | in-Some+in_ok-insert w ↦
          ap (λ s. has_name (keys s) name) w.set-is
          ∙ set_more es i x c.loop-entry-test.true c.entry-item.is (keys c.loop-entry.set) (keys w.insert.new.self) w.in-Some.name name (c.loop-entry.invariant name) w.in-Some.ensures
          (w.in_ok-insert.ensures.updates.0 (record { ref_ptr = (0, 0); now = name }))
      | in_default w ↦
          ap (λ s. has_name (keys s) name) w.set-is
          ∙ set_kept es i x c.loop-entry-test.true c.entry-item.is (keys c.loop-entry.set) name (c.loop-entry.invariant name) w.in_default.ensures
    ]
