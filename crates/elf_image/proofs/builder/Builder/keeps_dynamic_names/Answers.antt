-- The names that were read are those of the image that was read.
use Rattle.std.proofs.Common.{◌≡◌, ◌↔◌, ◌∙◌, Ok, List, ap, not, subst}
use Rattle.std.specs.Prelude.{IsTrue}
use Rattle.elf_format.specs.Image.{Image, image_of}
use Rattle.elf_format.specs.Views.{NamedSymbol}
use Rattle.elf_image.specs.Names.{are_names_changed, texts_of_symbols}
use Rattle.elf_image.proofs.SymbolLists.{names_told}
use Rattle.elf_image.proofs.builder.Builder.keeps_dynamic_names.Goals as goal

pub returns : goal.returns
returns c read is =
    let from : image_of c.self.inside.source.now ≡ Ok read = ap (λ (i : Image). image_of i.source) c.self.view_is ∙ is in
    let known : c.self.inside.lists.dynamic_symbols.read ≡ read.dynamic_symbols = (c.self.invariant.1.by_image read from).dynamic_symbols in
    names_told c.keeps_names.result (texts_of_symbols read.dynamic_symbols) (texts_of_symbols c.self.inside.lists.dynamic_symbols.symbols)
    (subst (λ (ys : List NamedSymbol). IsTrue c.keeps_names.result ↔ (texts_of_symbols c.self.inside.lists.dynamic_symbols.symbols ≡ texts_of_symbols ys)) known c.keeps_names.ensures)
    ∙ ap (λ (i : Image). not (are_names_changed read i)) c.self.view_is
