use Rattle.std.proofs.Common.{◌∙◌, ap}
use Rattle.std.specs.List.{list_all}
use Rattle.elf_image_rules.specs.Places.{place_of}
use Rattle.elf_image_placement.specs.PlacementSteps.{is_clear_if_uninitialized}
use Rattle.elf_image_placement.proofs.PlacementClear.{clear_if_uninitialized}
use Rattle.elf_image_placement.proofs.placement.uninitialized_clear.Goals as goal

pub returns : goal.returns
returns c =
    c.are_clear.ensures ∙ ap (λ ends. list_all (λ s. is_clear_if_uninitialized ends (place_of s)) c.args.sections.now) c.deref.ensures.value
    ∙ clear_if_uninitialized c.args.segments.now c.in_ok-ends.ends.items c.args.sections.now c.in_ok-ends.ensures
