use Rattle.std.proofs.Common.{rules}
use borrow.Author.Tests.{tests}
use Rattle.std.proofs.lemmas.Iterator.{YieldsList-from_slice}
use Rattle.std.proofs.lemmas.Iterator.Search.{position_from_yields_List}
use Rattle.elf_image_headers.specs.PartModels.{segment_model}
use Rattle.elf_image_headers.proofs.EditSteps.{is_stack}
use Rattle.elf_image_headers.proofs.segments.stack_position.Goals as goal

pub returns : goal.returns
returns c = position_from_yields_List (λ p. is_stack (segment_model p)) _ _ c.position.result c.position.ensures.ran (YieldsList-from_slice c.args.segments.now c.iter.ensures.rest) (λ x b q k. search (rules, tests))
