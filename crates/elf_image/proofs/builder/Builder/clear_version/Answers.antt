-- The image with that version was read and edited; the symbols that were read stay as they were.
use Rattle.std.proofs.Common.{subst, sym, true}
use Rattle.elf_image_symbols.specs.EditedList.{EditedList}
use Rattle.elf_image.specs.BuilderModel.{image_model}
use Rattle.elf_image.specs.Edited.{IsEdited}
use Rattle.elf_image.specs.SymbolsRead.{AreSymbolsOfFile}
use Rattle.elf_image.proofs.SymbolsKept.{with_version_cleared}
use Rattle.elf_image.proofs.builder.Builder.clear_version.Goals as goal

pub invariant_of-self : goal.invariant_of-self
invariant_of-self c =
    subst (λ (e : EditedList). IsEdited (record (image_model c.self.inside) { changed = true; dynamic_symbols = e.symbols; dynamic_symbol_numbers = e.numbers })
    × AreSymbolsOfFile c.self.inside.source.now (record { symbols = c.self.inside.lists.symbols.read; dynamic_symbols = e.read }))
    (sym c.clear_version.ensures) (with_version_cleared (image_model c.self.inside) c.args.i c.self.invariant.0, c.self.invariant.1)
