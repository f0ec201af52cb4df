use Rattle.std.proofs.Common.{subst, sym}
use Rattle.std.specs.Prelude.{IsSome}
use Rattle.elf_format.specs.Image.{Image}
use Rattle.elf_image.specs.BuilderModel.{image_model}
use Rattle.elf_image.proofs.Kept.{with_interpreter}
use Rattle.elf_image.proofs.builder.Builder.set_interp.Goals as goal

pub invariant_of-self : goal.invariant_of-self
invariant_of-self c = (with_interpreter (image_model c.self.inside) c.args.bytes.bytes c.self.invariant.0 (subst (λ (i : Image). IsSome i.interpreter) (sym c.self.view_is) c.requires.there) c.requires.nul, c.self.invariant.1)
