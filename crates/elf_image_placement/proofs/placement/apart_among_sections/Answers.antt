use Rattle.std.proofs.Common.{◌∙◌, ap, sym}
use Rattle.elf_image_rules.specs.Ranges.{all_apart}
use Rattle.elf_image_placement.proofs.PlacementSteps.{stored_ranges_is}
use Rattle.elf_image_placement.proofs.placement.apart_among_sections.Goals as goal

pub returns : goal.returns
returns c =
    c.all_apart.ensures.value ∙ ap all_apart (c.deref_mut.ensures.value ∙ c.in_ok-ranges.ensures ∙ sym (stored_ranges_is c.args.sections.now))
