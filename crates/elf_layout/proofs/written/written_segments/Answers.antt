use Rattle.std.proofs.Common.{map, ap, ◌∙◌}
use Rattle.elf_layout_plan.specs.Added.{added_loads}
use Rattle.elf_layout_plan.specs.Written.{behind_last_load, written_segments}
use Rattle.elf_layout.proofs.written.written_segments.Goals as goal

pub returns-clause-written : goal.returns-clause-written
unfolding written_segments
returns-clause-written c = record {
  are = c.in_ok-all.ensures ∙ ap (λ l. behind_last_load l c.deref-2.result.now) (c.deref-3.ensures.value ∙ c.requires.standing.loads)
      ∙ ap (behind_last_load (map (λ load. load.header) (added_loads c.args.r.now c.args.moved.now))) (c.deref-2.ensures.value ∙ c.in_ok-made.ensures.written);
}
