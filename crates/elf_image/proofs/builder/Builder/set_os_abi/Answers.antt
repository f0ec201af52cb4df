use Rattle.elf_image.specs.BuilderModel.{image_model}
use Rattle.elf_image.proofs.Kept.{with_os_abi}
use Rattle.elf_image.proofs.builder.Builder.set_os_abi.Goals as goal

pub invariant_of-self : goal.invariant_of-self
invariant_of-self c = (with_os_abi (image_model c.self.inside) c.args.byte c.self.invariant.0, c.self.invariant.1)
