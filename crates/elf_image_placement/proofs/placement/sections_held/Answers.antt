use Rattle.std.proofs.Common.{◌∙◌, ap}
use Rattle.std.specs.List.{list_all}
use Rattle.elf_image_rules.specs.Places.{place_of}
use Rattle.elf_image_placement.specs.PlacementSteps.{is_held_if_stored}
use Rattle.elf_image_placement.proofs.PlacementHeld.{held_if_stored}
use Rattle.elf_image_placement.proofs.placement.sections_held.Goals as goal

pub returns : goal.returns
returns c =
    c.are_held.ensures ∙ ap (λ loads. list_all (λ s. is_held_if_stored loads (place_of s)) c.args.sections.now) c.deref.ensures.value
    ∙ held_if_stored c.args.segments.now c.in_ok-loads.loads.items c.args.sections.now c.in_ok-loads.ensures
