use Rattle.std.proofs.Common.{rules, sym, ◌∙◌}
use borrow.Author.Tests.{tests}
use Rattle.std.proofs.lemmas.Iterator.{YieldsList-from_slice}
use Rattle.std.proofs.lemmas.Iterator.Search.{position_from_yields_List}
use Rattle.elf_image.specs.ImageModel.{section_model}
use Rattle.elf_image.specs.Kept.{stands_as_interpreter}
use Rattle.elf_image.proofs.LookupSteps.{position-map}
use Rattle.elf_image.proofs.lookups.interpreter_section.Goals as goal

pub returns : goal.returns
returns c =
    position_from_yields_List (λ s. stands_as_interpreter c.args.segment (section_model s)) _ _ c.position.result c.position.ensures.ran (YieldsList-from_slice c.args.sections.now c.iter.ensures.rest) (λ x b q k. search (rules, tests))
    ∙ sym (position-map section_model (stands_as_interpreter c.args.segment) c.args.sections.now)
