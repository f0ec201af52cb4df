-- What the code's edits and deletions stand for, and what its calls answer.
use Rattle.std.specs.Prelude.{◌≡◌, Bool, Option, Some, None}
use Rattle.elf_format.specs.Image.{Image}
use Rattle.elf_edits.specs.TextModel.{pairs_model, texts_model}
use Rattle.elf_symbol_edits.specs.declared.deletion.Deletion.{Deletion as DeletionHeld}
use Rattle.elf_symbol_edits.specs.declared.edit.SymbolEdit.{SymbolEdit as EditHeld}
use Rattle.elf_symbol_edits.specs.declared.edit.SymbolEdit.TheVariants as edits
use Rattle.elf_symbol_edits.specs.declared.error.SymbolEditError.{SymbolEditError}
use Rattle.elf_symbol_edits.specs.declared.error.SymbolEditError.TheVariants as errors
use Rattle.elf_symbol_edits.specs.declared.cause.Cause.{Cause}
use Rattle.elf_symbol_edits.specs.Cause.{cause}
use Rattle.elf_symbol_edits.specs.Deletion.{AreRising, Deletion, deletion_of}
use Rattle.elf_symbol_edits.specs.SymbolEdit.{DeleteAllSymbols, DeleteDynamicSymbols, DeleteSections, DeleteSymbols, RenameAllSymbols, RenameSections, RenameSymbols, SymbolEdit, edited, touches}

abbrev pub edit_model : EditHeld → SymbolEdit
edit_model (edits.RenameSymbols pairs) = RenameSymbols (pairs_model pairs.now)
edit_model (edits.DeleteSymbols names) = DeleteSymbols (texts_model names.now)
edit_model (edits.DeleteDynamicSymbols names) = DeleteDynamicSymbols (texts_model names.now)
edit_model (edits.RenameAllSymbols pairs) = RenameAllSymbols (pairs_model pairs.now)
edit_model (edits.DeleteAllSymbols names) = DeleteAllSymbols (texts_model names.now)
edit_model (edits.RenameSections pairs) = RenameSections (pairs_model pairs.now)
edit_model (edits.DeleteSections names) = DeleteSections (texts_model names.now)

abbrev pub deletion_model : DeletionHeld → Deletion
deletion_model d = record { symbols = d.symbols.items; dynamic_symbols = d.dynamic_symbols.items; sections = d.sections.items }

-- what an edit deletes
pub record IsDeletionOf (edit : SymbolEdit) (image : Image) (d : DeletionHeld) : Type 0 where
  pub is : deletion_model d ≡ deletion_of edit image
  pub rising : AreRising (deletion_model d)

-- what an edit deletes, where no cause stands against the edit
pub record IsChecked (edit : SymbolEdit) (image : Image) (d : DeletionHeld) : Type 0 where
  pub free : cause edit image ≡ None
  pub deletion : IsDeletionOf edit image d

-- ## Answers

-- an error tells this cause, or that there was no memory
abbrev pub TellsWhy : Option Cause → SymbolEditError → Type 0
TellsWhy found (errors.Refused reason) = found ≡ Some reason
TellsWhy found errors.Memory = Unit {0}

-- what an edit against which nothing stands makes, and that it is told whether it found something
pub record IsDone (edit : SymbolEdit) (old new : Image) (touched : Bool) : Type 0 where
  pub told : touched ≡ touches edit old
  pub made : new ≡ edited edit old

-- an edit was made: no cause stood against it, it is told whether it found something, and the image is the edited one
pub record IsMade (edit : SymbolEdit) (old new : Image) (touched : Bool) : Type 0 where
  pub free : cause edit old ≡ None
  pub told : touched ≡ touches edit old
  pub made : new ≡ edited edit old

-- an edit was not made: the image is as it was, and it is told why
pub record IsRefused (edit : SymbolEdit) (old new : Image) (e : SymbolEditError) : Type 0 where
  pub left : new ≡ old
  pub told : TellsWhy (cause edit old) e
