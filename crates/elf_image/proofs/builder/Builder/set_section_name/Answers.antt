-- The image with that name was read and edited.
use Rattle.std.proofs.Common.{List, subst, sym, true}
use Rattle.elf_format.specs.Image.{Image, ImageSection}
use Rattle.elf_image.specs.BuilderModel.{image_model}
use Rattle.elf_image.specs.Edited.{IsEdited}
use Rattle.elf_image.proofs.SectionNamed.{with_section_named}
use Rattle.elf_image.proofs.builder.Builder.set_section_name.Goals as goal

pub invariant_of-self : goal.invariant_of-self
invariant_of-self c =
    let image : Image = image_model c.self.inside in (
      subst (λ (ss : List ImageSection). IsEdited (record image { changed = true; sections = ss })) (sym c.name_section.ensures)
          (with_section_named image c.args.i c.args.name.bytes c.requires.nul c.self.invariant.0),
      c.self.invariant.1,
    )
