-- The symbols that were read are those of the image that was read.
use Rattle.std.proofs.Common.{◌≡◌, ◌↔◌, ◌∙◌, Ok, ap, subst}
use Rattle.std.specs.Prelude.{IsTrue}
use Rattle.elf_format.specs.Image.{Image, image_of}
use Rattle.elf_image.specs.BuilderModel.{image_model}
use Rattle.elf_image.specs.SymbolsRead.{HasStaticSymbolsOf}
use Rattle.elf_image.proofs.SymbolLists.{static_told}
use Rattle.elf_image.proofs.builder.Builder.keeps_static_symbols.Goals as goal

pub returns : goal.returns
returns c read is =
    let from : image_of c.self.inside.source.now ≡ Ok read = ap (λ (i : Image). image_of i.source) c.self.view_is ∙ is in
    let known : c.self.inside.lists.symbols.read ≡ read.symbols = (c.self.invariant.1.by_image read from).symbols in
    subst (λ (i : Image). IsTrue c.is_as_read.result ↔ HasStaticSymbolsOf read i) c.self.view_is
    (static_told c.is_as_read.result (image_model c.self.inside) read c.self.inside.lists.symbols from known c.is_as_read.ensures)
