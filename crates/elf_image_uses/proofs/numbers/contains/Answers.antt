-- The search finds the number where it is there.
use Rattle.std.proofs.Common.{◌∙◌}
use Rattle.std.proofs.lemmas.List.Sorted.{searched}
use Rattle.elf_image_uses.proofs.ListSteps.{found_number}
use Rattle.elf_image_uses.proofs.numbers.contains.Goals as goal

pub returns : goal.returns
returns c =
    c.is_ok.ensures.value
    ∙ found_number c.args.numbers.now c.args.number c.binary_search.result
    (searched c.args.numbers.now c.args.number c.binary_search.result c.binary_search.ensures.position (λ i j le within. c.requires i j 0 le within))
