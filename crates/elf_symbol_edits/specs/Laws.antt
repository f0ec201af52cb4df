-- What holds of all edits.
use Rattle.std.specs.Prelude.{ℕ, ◌≡◌, List, [], ◌∷◌, Bool, filter, map, not, ◌||◌, if◌then◌else◌, option_map, None, Some, Ok, Err}
use Rattle.elf_format.specs.Image.{Image}
use Rattle.elf_format.specs.Views.{NamedSymbol, View}
use Rattle.elf_edits.specs.Laws.{swap_of}
use Rattle.elf_edits.specs.Symbols.{behind_first, names_behind_first, new_name}
use Rattle.elf_edits.specs.Symbols.{renamed as with_new_name}
use Rattle.elf_edits.specs.Texts.{is_among}
use Rattle.elf_image.specs.Deleted.{does_interpreter_go}
use Rattle.elf_image.specs.Edited.{IsEdited}
use Rattle.elf_image.specs.Image.{shown}
use Rattle.elf_symbol_edits.specs.declared.cause.Cause.{Cause}
use Rattle.elf_symbol_edits.specs.Cause.{cause, step}
use Rattle.elf_symbol_edits.specs.Named.{named_sections, renamed_section, symbol_name}
use Rattle.elf_symbol_edits.specs.SymbolEdit.{DeleteAllSymbols, DeleteDynamicSymbols, DeleteSections, DeleteSymbols, RenameAllSymbols, RenameSections, RenameSymbols, SymbolEdit, edited, touches}

-- ## One edit

-- An edit that isn't refused gives the edited image, which counts as changed where the edit found something; it is refused exactly where
-- a cause stands, with the first one.
pub record EditsAreDecided : Type 0 where
  pub made : (edit : SymbolEdit) (old new : Image) → step edit old ≡ Ok new → new ≡ edited edit old
  pub accepted : (edit : SymbolEdit) (old new : Image) → step edit old ≡ Ok new → cause edit old ≡ None
  pub refused : (edit : SymbolEdit) (old : Image) (reason : Cause) → step edit old ≡ Err reason → cause edit old ≡ Some reason
  pub marks : (edit : SymbolEdit) (old new : Image) → step edit old ≡ Ok new → new.changed ≡ (old.changed || touches edit old)

-- ## What stays

-- what no edit of symbols or sections changes
pub record KeepsRest (old new : Image) : Type 0 where
  pub source : new.source ≡ old.source
  pub form : new.form ≡ old.form
  pub header : new.header ≡ old.header
  pub definitions : new.definitions ≡ old.definitions
  pub needs : new.needs ≡ old.needs
  pub entries : new.entries ≡ old.entries
  pub page_size : new.page_size ≡ old.page_size

-- An edit of symbols or sections keeps the bytes that were read, the file header, versions, the dynamic list and the page size.
pub record SymbolEditsKeep : Type 0 where
  pub keeps : (edit : SymbolEdit) (old new : Image) → step edit old ≡ Ok new → KeepsRest old new

-- ## All at once

-- A map is applied to all symbols but the first, or to all sections but the null section, at once, each by its old name; one that swaps two
-- names gives, the second time, back what was there. Dynamic symbols keep their names, or get others in the same way.
pub record RenamesAreAtOnce : Type 0 where
  pub symbols : (pairs : List (List ℕ × List ℕ)) (image : Image) → names_behind_first (edited (RenameSymbols pairs) image).symbols ≡ map (new_name pairs) (names_behind_first image.symbols)
  pub symbols_swapped : (f g : List ℕ) (image : Image) → let swap = edited (RenameSymbols (swap_of f g)) in (swap (swap image)).symbols ≡ image.symbols
  pub dynamic_left : (pairs : List (List ℕ × List ℕ)) (image : Image) → (edited (RenameSymbols pairs) image).dynamic_symbols ≡ image.dynamic_symbols
  pub all_symbols : (pairs : List (List ℕ × List ℕ)) (image : Image) → names_behind_first (edited (RenameAllSymbols pairs) image).symbols ≡ map (new_name pairs) (names_behind_first image.symbols)
  pub all_dynamic : (pairs : List (List ℕ × List ℕ)) (image : Image)
      → names_behind_first (edited (RenameAllSymbols pairs) image).dynamic_symbols ≡ map (new_name pairs) (names_behind_first image.dynamic_symbols)
  pub all_swapped : (f g : List ℕ) (image : Image) → let swap = edited (RenameAllSymbols (swap_of f g)) in
      ((swap (swap image)).symbols ≡ image.symbols) × ((swap (swap image)).dynamic_symbols ≡ image.dynamic_symbols)
  pub sections : (pairs : List (List ℕ × List ℕ)) (image : Image) → (edited (RenameSections pairs) image).sections ≡ behind_first (renamed_section pairs) image.sections
  pub sections_swapped : (f g : List ℕ) (image : Image) → let swap = edited (RenameSections (swap_of f g)) in (swap (swap image)).sections ≡ image.sections

-- ## By name

-- the first, and of the others those that pass a test
abbrev pub kept_behind_first : {A : Type 0} → (A → Bool) → List A → List A
kept_behind_first keep [] = []
kept_behind_first keep (x ∷ xs) = x ∷ filter keep xs

-- the first, and of the others those that don't have one of some names
abbrev pub without_named : List (List ℕ) → List NamedSymbol → List NamedSymbol
without_named names symbols = kept_behind_first (λ y. not (is_among names (symbol_name y))) symbols

-- Of an image that was read and edited exactly those symbols go, but the first, that have one of the names; the others stay as they were,
-- in their order.
pub record SymbolsGoByName : Type 0 where
  pub symbols : (names : List (List ℕ)) (image : Image) → IsEdited image → (edited (DeleteSymbols names) image).symbols ≡ without_named names image.symbols
  pub dynamic_symbols : (names : List (List ℕ)) (image : Image) → IsEdited image → (edited (DeleteDynamicSymbols names) image).dynamic_symbols ≡ without_named names image.dynamic_symbols
  pub all : (names : List (List ℕ)) (image : Image) → IsEdited image
      → ((edited (DeleteAllSymbols names) image).symbols ≡ without_named names image.symbols) × ((edited (DeleteAllSymbols names) image).dynamic_symbols ≡ without_named names image.dynamic_symbols)

-- ## What is shown

-- what is shown after an edit of symbols or sections that an image takes: with its section the interpreter goes (gABI, Program Header,
-- PT_INTERP)
abbrev pub shown_after : SymbolEdit → Image → View
shown_after (RenameSymbols pairs) image = shown image
shown_after (DeleteSymbols names) image = shown image
shown_after (DeleteDynamicSymbols names) image = record (shown image) { symbols = option_map (without_named names) (shown image).symbols }
shown_after (RenameAllSymbols pairs) image = record (shown image) { symbols = option_map (behind_first (with_new_name pairs)) (shown image).symbols }
shown_after (DeleteAllSymbols names) image = record (shown image) { symbols = option_map (without_named names) (shown image).symbols }
shown_after (RenameSections pairs) image = shown image
shown_after (DeleteSections names) image = record (shown image) {
  interpreter = if does_interpreter_go (named_sections names image) image then None else (shown image).interpreter;
}

-- After each edit of symbols or sections that an image takes just this is shown: edits of static symbols, and other names of sections,
-- leave what is shown; dynamic symbols that go are shown no more, and those that get other names are shown with them; sections that go
-- take only the interpreter from it, where its section is one of them.
pub record SymbolEditsShow : Type 0 where
  pub shown_after_each : (edit : SymbolEdit) (image : Image) → IsEdited image → shown (edited edit image) ≡ shown_after edit image
