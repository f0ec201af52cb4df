use Rattle.std.proofs.Common.{◌∙◌, ap}
use Rattle.elf_image_rules.specs.Ranges.{all_apart}
use Rattle.elf_image_placement.proofs.placement.apart_in_memory.Goals as goal

pub returns : goal.returns
returns c =
    c.all_apart.ensures.value ∙ ap all_apart (c.deref_mut.ensures.value ∙ c.in_ok-parts.ensures)
