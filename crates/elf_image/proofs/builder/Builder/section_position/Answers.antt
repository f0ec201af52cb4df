use Rattle.std.proofs.Common.{rules, ap, ◌∙◌}
use borrow.Author.Tests.{tests}
use Rattle.std.specs.Prelude.{◌==◌, position}
use Rattle.std.proofs.lemmas.Iterator.{YieldsList-from_slice}
use Rattle.std.proofs.lemmas.Iterator.Search.{position_from_yields_List}
use Rattle.elf_format.specs.Image.{Image}
use Rattle.elf_image.proofs.builder.Builder.section_position.Goals as goal

pub returns : goal.returns
returns c =
    position_from_yields_List (λ n. n == c.args.number) _ _ c.position.result c.position.ensures.ran (YieldsList-from_slice c.deref.result.now c.iter.ensures.rest) (λ x b q k. search (rules, tests))
    ∙ ap (position (λ n. n == c.args.number)) c.deref.ensures.value
    ∙ ap (λ (i : Image). position (λ n. n == c.args.number) i.section_numbers) c.self.view_is
