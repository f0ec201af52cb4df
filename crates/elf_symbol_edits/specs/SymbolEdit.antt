-- The edits of symbols and sections by their names, and what each makes of an image.
use Rattle.std.specs.Prelude.{ℕ, List, [], ◌∷◌, drop, Bool, true, ◌||◌, if◌then◌else◌}
use Rattle.std.specs.List.{flat_map, list_any}
use Rattle.elf_format.specs.Image.{Image}
use Rattle.elf_edits.specs.Symbols.{behind_first, has_new_name, renamed}
use Rattle.elf_edits.specs.Texts.{has_some}
use Rattle.elf_image.specs.Deleted.{numbers_left, parts_left, without_sections}
use Rattle.elf_symbol_edits.specs.Named.{is_section_renamed, named_dynamic_symbols, named_sections, named_symbols, renamed_section}

-- An edit, with the names that are handed in. Pairs are of an old and a new name.
pub data SymbolEdit : Type 0 where
  -- the symbols for a link editor (gABI, Symbol Table, SHT_SYMTAB), but the first
  RenameSymbols : List (List ℕ × List ℕ) → SymbolEdit
  DeleteSymbols : List (List ℕ) → SymbolEdit
  -- the symbols for a loader (gABI, Symbol Table, SHT_DYNSYM), but the first
  DeleteDynamicSymbols : List (List ℕ) → SymbolEdit
  -- the symbols for a link editor and for a loader, but the first of each
  RenameAllSymbols : List (List ℕ × List ℕ) → SymbolEdit
  DeleteAllSymbols : List (List ℕ) → SymbolEdit
  -- the sections (gABI, Sections), but the null section
  RenameSections : List (List ℕ × List ℕ) → SymbolEdit
  DeleteSections : List (List ℕ) → SymbolEdit

-- the names of an edit, in which no NUL may stand
abbrev pub texts_of : SymbolEdit → List (List ℕ)
texts_of (RenameSymbols pairs) = flat_map (λ pair. pair.0 ∷ pair.1 ∷ []) pairs
texts_of (DeleteSymbols names) = names
texts_of (DeleteDynamicSymbols names) = names
texts_of (RenameAllSymbols pairs) = flat_map (λ pair. pair.0 ∷ pair.1 ∷ []) pairs
texts_of (DeleteAllSymbols names) = names
texts_of (RenameSections pairs) = flat_map (λ pair. pair.0 ∷ pair.1 ∷ []) pairs
texts_of (DeleteSections names) = names

-- Whether an edit finds something of what it looks for; it then writes, be it a name that stands there already.
abbrev pub touches : SymbolEdit → Image → Bool
touches (RenameSymbols pairs) image = list_any (λ y. has_new_name pairs y.name) (drop 1 image.symbols)
touches (DeleteSymbols names) image = has_some (named_symbols names image)
touches (DeleteDynamicSymbols names) image = has_some (named_dynamic_symbols names image)
touches (RenameAllSymbols pairs) image = list_any (λ y. has_new_name pairs y.name) (drop 1 image.symbols) || list_any (λ y. has_new_name pairs y.name) (drop 1 image.dynamic_symbols)
touches (DeleteAllSymbols names) image = has_some (named_symbols names image) || has_some (named_dynamic_symbols names image)
touches (RenameSections pairs) image = is_section_renamed pairs image.sections
touches (DeleteSections names) image = has_some (named_sections names image)

-- ## The image after an edit that found something

-- the static symbols, the dynamic symbols with these numbers at read are gone
abbrev pub without_symbols : List ℕ → Image → Image
without_symbols gone image = record image {
  changed = true;
  symbols = parts_left gone image.symbol_numbers image.symbols;
  symbol_numbers = numbers_left gone image.symbol_numbers;
}

abbrev pub without_dynamic_symbols : List ℕ → Image → Image
without_dynamic_symbols gone image = record image {
  changed = true;
  dynamic_symbols = parts_left gone image.dynamic_symbol_numbers image.dynamic_symbols;
  dynamic_symbol_numbers = numbers_left gone image.dynamic_symbol_numbers;
}

-- names are given all at once, each by the old one; with sections go the static symbols and program headers that go along
abbrev pub written : SymbolEdit → Image → Image
written (RenameSymbols pairs) image = record image { changed = true; symbols = behind_first (renamed pairs) image.symbols }
written (DeleteSymbols names) image = without_symbols (named_symbols names image) image
written (DeleteDynamicSymbols names) image = without_dynamic_symbols (named_dynamic_symbols names image) image
written (RenameAllSymbols pairs) image = record image {
  changed = true;
  symbols = behind_first (renamed pairs) image.symbols;
  dynamic_symbols = behind_first (renamed pairs) image.dynamic_symbols;
}
written (DeleteAllSymbols names) image = without_dynamic_symbols (named_dynamic_symbols names image) (without_symbols (named_symbols names image) image)
written (RenameSections pairs) image = record image { changed = true; sections = behind_first (renamed_section pairs) image.sections }
written (DeleteSections names) image = without_sections (named_sections names image) image

-- The image after an edit. One that finds nothing leaves it as it was, the mark too.
abbrev pub edited : SymbolEdit → Image → Image
edited edit image = if touches edit image then written edit image else image
