-- A number that is found is one of them, and no other.
use Rattle.std.proofs.Common.{◌∙◌}
use Rattle.std.proofs.lemmas.List.Sorted.{searched}
use Rattle.elf_image_symbols.proofs.ListLaws.{is_one_of-searched}
use Rattle.elf_image.proofs.section_edits.contains.Goals as goal

pub returns : goal.returns
returns c =
    c.is_ok.ensures.value
    ∙ is_one_of-searched c.args.numbers.now c.args.number c.binary_search.result
    (searched c.args.numbers.now c.args.number c.binary_search.result c.binary_search.ensures.position (λ i j le less. c.requires i j 0 le less))
