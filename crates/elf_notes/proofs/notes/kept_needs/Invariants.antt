use Rattle.std.proofs.Common.{◌≡◌, ◌++◌, drop, filter, map}
use Rattle.std.specs.HashSet.{keys}
use Rattle.elf_edits.specs.Changes.{has_name}
use Rattle.elf_image.specs.ImageModel.{needs_model}
use Rattle.elf_layout_plan.specs.Staying.{unmarked_needs}
use Rattle.elf_notes.proofs.notes.kept_needs.Given as goal

-- the names so far, with those of the needs that are left
abbrev pub invariant-loop-need : goal.invariant-loop-need
invariant-loop-need l =
    map (λ n. n.now) l.kept.items ++ filter (has_name (keys l.old)) (map (λ n. n.file) (unmarked_needs l.staying.marks (map needs_model (drop l.need-index l.needs))))
    ≡ filter (has_name (keys l.old)) (map (λ n. n.file) (unmarked_needs l.staying.marks (map needs_model l.needs)))
