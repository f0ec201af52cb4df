use Rattle.std.proofs.Common.{map}
use Rattle.std.specs.Prelude.{slice_get}
use Rattle.elf_layout_plan.specs.Memory.{sized_sections}
use Rattle.elf_layout_plan.specs.PlanModel.{place_model}
use Rattle.elf_layout.specs.Unloaded.{kept_for, place_by}
use Rattle.elf_layout.proofs.TableSteps.{ArePlacedAll}
use Rattle.elf_layout.proofs.places.place_all.Given as goal

abbrev pub invariant-loop-position : goal.invariant-loop-position
invariant-loop-position l =
    ArePlacedAll (λ s. place_by l.end s (kept_for (slice_get l.slots s.kept.position)) (kept_for (slice_get l.offsets s.kept.position)))
    (sized_sections l.r) (map place_model l.places.items) l.position
