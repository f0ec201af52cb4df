-- The image with that name was read and edited; the symbols that were read stay as they were.
use Rattle.std.proofs.Common.{subst, sym, true}
use Rattle.elf_image_symbols.specs.EditedList.{EditedList}
use Rattle.elf_image.specs.BuilderModel.{image_model}
use Rattle.elf_image.specs.Edited.{IsEdited}
use Rattle.elf_image.specs.SymbolsRead.{AreSymbolsOfFile}
use Rattle.elf_image.proofs.SymbolsKept.{with_symbol_named}
use Rattle.elf_image.proofs.builder.Builder.set_symbol_name.Goals as goal

pub invariant_of-self : goal.invariant_of-self
invariant_of-self c =
    subst (λ (e : EditedList). IsEdited (record (image_model c.self.inside) { changed = true; symbols = e.symbols; symbol_numbers = e.numbers })
    × AreSymbolsOfFile c.self.inside.source.now (record { symbols = e.read; dynamic_symbols = c.self.inside.lists.dynamic_symbols.read }))
    (sym c.rename.ensures) (with_symbol_named (image_model c.self.inside) c.args.i c.args.name.bytes c.requires.nul c.self.invariant.0, c.self.invariant.1)
