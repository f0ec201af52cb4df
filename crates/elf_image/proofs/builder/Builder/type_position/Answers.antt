use Rattle.std.proofs.Common.{rules, ap, sym, ◌∙◌, List}
use borrow.Author.Tests.{tests}
use Rattle.std.specs.Prelude.{◌==◌, position}
use Rattle.std.proofs.lemmas.Iterator.{YieldsList-from_slice}
use Rattle.std.proofs.lemmas.Iterator.Search.{position_from_yields_List}
use Rattle.elf_format.specs.Image.{Image}
use Rattle.elf_image_headers.specs.declared.section.Section.{Section}
use Rattle.elf_image.specs.ImageModel.{section_model}
use Rattle.elf_image.proofs.LookupSteps.{position-map}
use Rattle.elf_image.proofs.builder.Builder.type_position.Goals as goal

pub returns : goal.returns
returns c =
    position_from_yields_List (λ s. (section_model s).sh_type == c.args.kind) _ _ c.position.result c.position.ensures.ran (YieldsList-from_slice c.deref.result.now c.iter.ensures.rest) (λ x b q k. search (rules, tests))
    ∙ ap (λ (l : List Section). position (λ s. (section_model s).sh_type == c.args.kind) l) c.deref.ensures.value
    ∙ sym (position-map section_model (λ s. s.sh_type == c.args.kind) c.self.inside.sections.items)
    ∙ ap (λ (i : Image). position (λ s. s.sh_type == c.args.kind) i.sections) c.self.view_is
