-- The symbols that were read are those of the image that was read.
use Rattle.std.proofs.Common.{◌≡◌, ◌↔◌, ◌∙◌, Ok, ap, subst}
use Rattle.std.specs.Prelude.{IsTrue}
use Rattle.elf_format.specs.Image.{Image, image_of}
use Rattle.elf_image.specs.BuilderModel.{image_model}
use Rattle.elf_image.specs.SymbolsRead.{HasDynamicSymbolsOf}
use Rattle.elf_image.proofs.SymbolLists.{dynamic_told}
use Rattle.elf_image.proofs.builder.Builder.keeps_dynamic_symbols.Goals as goal

pub returns : goal.returns
returns c read is =
    let from : image_of c.self.inside.source.now ≡ Ok read = ap (λ (i : Image). image_of i.source) c.self.view_is ∙ is in
    let known : c.self.inside.lists.dynamic_symbols.read ≡ read.dynamic_symbols = (c.self.invariant.1.by_image read from).dynamic_symbols in
    subst (λ (i : Image). IsTrue c.is_as_read.result ↔ HasDynamicSymbolsOf read i) c.self.view_is
    (dynamic_told c.is_as_read.result (image_model c.self.inside) read c.self.inside.lists.dynamic_symbols from known c.is_as_read.ensures)
