use Rattle.std.proofs.Common.{map, subst, sym}
use Rattle.std.specs.Prelude.{IsSome}
use Rattle.elf_format.specs.Image.{Image}
use Rattle.elf_image.specs.BuilderModel.{image_model}
use Rattle.elf_image.specs.Edited.{AreSameNeeds}
use Rattle.elf_image.specs.ImageModel.{needs_model}
use Rattle.elf_image.proofs.NeedsKept.{with_needs}
use Rattle.elf_image.proofs.builder.Builder.set_needs.Goals as goal

pub invariant_of-self : goal.invariant_of-self
invariant_of-self c = (
  with_needs (image_model c.self.inside) (map needs_model c.args.needs.items) c.self.invariant.0
      (subst (λ (i : Image). IsSome i.entries) (sym c.self.view_is) c.requires.listed)
      (subst (λ (i : Image). AreSameNeeds i.needs (map needs_model c.args.needs.items)) (sym c.self.view_is) c.requires.same),
  c.self.invariant.1,
)
