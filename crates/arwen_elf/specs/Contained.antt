-- Edits of a container: those of its image. The bytes as read stay.
use Rattle.std.specs.Prelude.{◌≡◌, List, Result}
use Rattle.elf_edits.specs.Edit.{Edit}
use Rattle.arwen_elf.specs.declared.elf.container.ElfContainer.{ElfContainer}
use Rattle.arwen_elf_writer.specs.ElfBatchError.{ElfBatchError}
use Rattle.arwen_elf_writer.specs.ElfError.{ElfError}
use Rattle.arwen_elf_writer.specs.SymbolsTaken.{TakesSymbolEdit}
use Rattle.arwen_elf_writer.specs.Taken.{TakesBatch, TakesEdit, TakesInPlace}
use Rattle.arwen_elf_writer.specs.SymbolEdit.{SymbolEdit}

abbrev pub EditTaken : {T : Type 0} → Edit → ElfContainer → ElfContainer → Result T ElfError → Type 0
EditTaken edit old new answer = TakesEdit edit old.inner new.inner answer × (new.bytes ≡ old.bytes)

abbrev pub InPlaceTaken : Edit → ElfContainer → ElfContainer → Result (Unit {0}) ElfError → Type 0
InPlaceTaken edit old new answer = TakesInPlace edit old.inner new.inner answer × (new.bytes ≡ old.bytes)

abbrev pub BatchTaken : List Edit → ElfContainer → ElfContainer → Result (Unit {0}) ElfBatchError → Type 0
BatchTaken edits old new answer = TakesBatch edits old.inner new.inner answer × (new.bytes ≡ old.bytes)

abbrev pub SymbolEditTaken : SymbolEdit → ElfContainer → ElfContainer → Result (Unit {0}) ElfError → Type 0
SymbolEditTaken edit old new answer = TakesSymbolEdit edit old.inner new.inner answer × (new.bytes ≡ old.bytes)
