-- The image without the symbol for a loader was read and edited; the symbols that were read stay as they were.
use Rattle.std.proofs.Common.{◌≡◌, subst, sym, true}
use Rattle.std.specs.Prelude.{slice_index}
use Rattle.elf_format.specs.declared.constants.TheConstants.{SHT_DYNSYM}
use Rattle.elf_format.specs.Image.{Image}
use Rattle.elf_image_symbols.specs.EditedList.{EditedList}
use Rattle.elf_image_symbols.specs.EditedList.{ArePicked as AreEditedSymbols}
use Rattle.elf_image.specs.BuilderModel.{image_model}
use Rattle.elf_image.specs.Edited.{IsEdited}
use Rattle.elf_image.specs.Renumbering.{can_renumber}
use Rattle.elf_image.specs.SymbolEdits.{IsUnnamed}
use Rattle.elf_image.specs.SymbolsRead.{AreSymbolsOfFile}
use Rattle.elf_image.proofs.SymbolsDeleted.{dynamic_deleted}
use Rattle.elf_image.proofs.SymbolsKept.{put_is_edited}
use Rattle.elf_image.proofs.builder.Builder.delete_dynamic_symbol.Goals as goal

pub invariant_of-self : goal.invariant_of-self
invariant_of-self c =
    let image : Image = image_model c.self.inside in
    let unnamed = subst (λ (i : Image). IsUnnamed SHT_DYNSYM (slice_index i.dynamic_symbol_numbers c.args.i) i) (sym c.self.view_is) c.requires.unnamed in
    let follow : can_renumber image ≡ true = subst (λ (i : Image). can_renumber i ≡ true) (sym c.self.view_is) c.requires.tables in
    let put = dynamic_deleted image c.self.inside.lists.dynamic_symbols.read c.args.i c.self.invariant.0 (λ read is. (c.self.invariant.1.by_image read is).dynamic_symbols) c.requires.behind unnamed follow in
    subst (λ (e : EditedList). IsEdited (record image { changed = true; dynamic_symbols = e.symbols; dynamic_symbol_numbers = e.numbers })
    × AreSymbolsOfFile c.self.inside.source.now (record { symbols = c.self.inside.lists.symbols.read; dynamic_symbols = e.read }))
    (sym c.delete.ensures) (put_is_edited image _ c.self.invariant.0 put (subst AreEditedSymbols c.delete.ensures c.read-read.ensures.picked), c.self.invariant.1)
