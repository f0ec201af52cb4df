-- The image with that name was read and edited; the symbols that were read stay as they were.
use Rattle.std.proofs.Common.{◌≡◌, subst, sym, true}
use Rattle.elf_format.specs.Image.{Image}
use Rattle.elf_image_symbols.specs.EditedList.{EditedList}
use Rattle.elf_image.specs.BuilderModel.{image_model}
use Rattle.elf_image.specs.Edited.{IsEdited}
use Rattle.elf_image.specs.Renumbering.{can_renumber}
use Rattle.elf_image.specs.SymbolsRead.{AreSymbolsOfFile}
use Rattle.elf_image.proofs.SymbolsKept.{with_dynamic_symbol_named}
use Rattle.elf_image.proofs.builder.Builder.set_dynamic_symbol_name.Goals as goal

pub invariant_of-self : goal.invariant_of-self
invariant_of-self c =
    let follow : can_renumber (image_model c.self.inside) ≡ true = subst (λ (i : Image). can_renumber i ≡ true) (sym c.self.view_is) c.requires.tables in
    subst (λ (e : EditedList). IsEdited (record (image_model c.self.inside) { changed = true; dynamic_symbols = e.symbols; dynamic_symbol_numbers = e.numbers })
    × AreSymbolsOfFile c.self.inside.source.now (record { symbols = c.self.inside.lists.symbols.read; dynamic_symbols = e.read }))
    (sym c.rename.ensures) (with_dynamic_symbol_named (image_model c.self.inside) c.args.i c.args.name.bytes c.requires.nul follow c.self.invariant.0, c.self.invariant.1)
