-- The image with these symbols was read and edited, since they are edited ones of those that were read.
use Rattle.std.proofs.Common.{◌≡◌, ◌∙◌, List, subst, sym}
use Rattle.elf_format.specs.Image.{Image}
use Rattle.elf_format.specs.Views.{NamedSymbol}
use Rattle.elf_image.specs.BuilderModel.{image_model}
use Rattle.elf_image.specs.Edited.{IsEdited}
use Rattle.elf_image.specs.SymbolEdits.{IsStaticPutFor}
use Rattle.elf_image.specs.SymbolsRead.{AreSymbolsOfFile}
use Rattle.elf_image.proofs.SymbolsKept.{static_put_is_edited}
use Rattle.elf_image.proofs.builder.Builder.put_symbols.Goals as goal

pub invariant_of-self : goal.invariant_of-self
invariant_of-self c =
    let image : Image = image_model c.self.inside in
    let edited : IsEdited image = c.self.invariant.0 in
    let put : IsStaticPutFor image c.args.edited = subst (λ (i : Image). IsStaticPutFor i c.args.edited) (sym c.self.view_is) c.requires in
    let known : c.self.inside.lists.symbols.read ≡ edited.read.symbols = (c.self.invariant.1.by_image edited.read edited.is_read).symbols in (
      static_put_is_edited image c.args.edited edited put c.read-read.ensures.picked,
      subst (λ (ys : List NamedSymbol). AreSymbolsOfFile c.self.inside.source.now (record { symbols = ys; dynamic_symbols = c.self.inside.lists.dynamic_symbols.read }))
          (known ∙ sym (put.read edited.read edited.is_read)) c.self.invariant.1,
    )
