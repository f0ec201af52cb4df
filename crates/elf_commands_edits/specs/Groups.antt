-- What lists of edits make of an image.
use Rattle.std.specs.Prelude.{ℕ, ◌≡◌, ◌+◌, ◌⊎◌, Bool, true, false, List, [], ◌∷◌, Ok, if◌then◌else◌, ⊤}
use Rattle.arwen_elf.specs.SymbolsTaken.{RefusesSymbolEdit}
use Rattle.arwen_elf.specs.Told.{Refuses, RefusesAt}
use Rattle.arwen_elf.specs.ElfBatchError.{ElfBatchError}
use Rattle.arwen_elf.specs.ElfError.{ElfError}
use Rattle.arwen_elf.specs.ElfError.TheVariants.{Memory}
use Rattle.elf_edits.specs.Batch.{run}
use Rattle.elf_edits.specs.Edit.{Edit}
use Rattle.elf_edits.specs.EditModel.{edit_model}
use Rattle.elf_edits.specs.Edited.{edited_view, step}
use Rattle.elf_edits.specs.Laws.{viewed}
use Rattle.elf_image.specs.Image.{Image, shown}
use Rattle.elf_image.specs.Views.{View}
use Rattle.elf_symbol_edits.specs.Cause.{step as symbol_step}
use Rattle.elf_symbol_edits.specs.Laws.{shown_after}
use Rattle.elf_symbol_edits.specs.SymbolEdit.{SymbolEdit}
pub use Rattle.elf_commands_lines.specs.Groups.{GroupEdit, group_model, has_symbols, plain, plain_of, symbols}

-- ## One edit

-- it makes an image of another one
abbrev pub MakesNext : GroupEdit → Image → Image → Type 0
MakesNext (plain edit) old new = step edit old ≡ Ok new
MakesNext (symbols edit) old new = symbol_step edit old ≡ Ok new

-- what is shown after an edit that an image takes
abbrev pub shown_next : GroupEdit → Image → View
shown_next (plain edit) old = edited_view old.header.e_machine edit (shown old)
shown_next (symbols edit) old = shown_after edit old

-- an error tells the cause of a refused edit, or there was no memory
abbrev pub RefusesNext : GroupEdit → Image → ElfError → Type 0
RefusesNext (plain edit) old e = Refuses e (step edit old)
RefusesNext (symbols edit) old e = RefusesSymbolEdit e (symbol_step edit old)

-- ## A list of edits

-- edits make an image of another one, each of what the one before it left, and each shows what it makes of what was shown then
abbrev pub MakeInTurn : List GroupEdit → Image → Image → Type 0
MakeInTurn [] old new = new ≡ old
MakeInTurn (edit ∷ edits) old new = (mid : Image) × MakesNext edit old mid × (shown mid ≡ shown_next edit old) × MakeInTurn edits mid new

-- the edit with this number, counted from 0, is refused, and those before it are not
abbrev pub RefuseInTurn : List GroupEdit → Image → ℕ → ElfError → Type 0
RefuseInTurn [] old index e = ⊥
RefuseInTurn (edit ∷ edits) old index e = ((index ≡ 0) × RefusesNext edit old e)
    ⊎ ((mid : Image) × (before : ℕ) × (index ≡ before + 1) × MakesNext edit old mid × RefuseInTurn edits mid before e)

-- an error tells which of the edits is refused, and why; or there was no memory
abbrev pub RefuseOrWant : List GroupEdit → Image → ℕ → ElfError → Type 0
RefuseOrWant edits old index Memory = ⊤
RefuseOrWant edits old index e = RefuseInTurn edits old index e

abbrev pub TellsInTurn : List GroupEdit → Image → ElfBatchError → Type 0
TellsInTurn edits old e = RefuseOrWant edits old e.index e.fault

-- how many edits are made of a list of which the one with this number is not: none of a batch
abbrev pub made_before : List GroupEdit → ℕ → ℕ
made_before edits index = if has_symbols edits then index else 0

-- A list is its edits, one after the other, each upon one image, and keeps the bytes that were read. Without edits of symbols or
-- sections it is a batch: it makes what that makes, the same edit is refused, and what is shown is what the batch makes of what was shown.
pub record ListsAreTheirEdits : Type 0 where
  pub source : (edits : List GroupEdit) (old new : Image) → MakeInTurn edits old new → new.source ≡ old.source
  pub same : (edits : List GroupEdit) (old new other : Image) → MakeInTurn edits old new → MakeInTurn edits old other → new ≡ other
  pub one : (edit : Edit) (old new : Image) → step edit old ≡ Ok new → MakeInTurn (plain edit ∷ []) old new
  pub runs : (edits : List GroupEdit) (old new : Image) → has_symbols edits ≡ false → MakeInTurn edits old new → run (plain_of edits) old ≡ Ok new
  pub made : (edits : List GroupEdit) (old new : Image) → has_symbols edits ≡ false → run (plain_of edits) old ≡ Ok new → MakeInTurn edits old new
  pub shows : (edits : List GroupEdit) (old new : Image) → has_symbols edits ≡ false → MakeInTurn edits old new → shown new ≡ viewed new.header.e_machine (plain_of edits) (shown old)
  pub refused : (edits : List GroupEdit) (old : Image) (index : ℕ) (e : ElfError) → has_symbols edits ≡ false → RefuseInTurn edits old index e → RefusesAt index e (run (plain_of edits) old)
