-- The lists of symbols of an image, as they were read and as edits made them.
use Rattle.elf_image_symbols.specs.EditedList.{as_read}
use Rattle.elf_image_symbols.specs.declared.lists.EditedLists.{EditedLists}
use Rattle.elf_image_symbols.specs.declared.lists.SymbolLists.{SymbolLists}

-- the lists as they were read
abbrev pub lists_at_read : EditedLists → SymbolLists
lists_at_read lists = record { symbols = lists.symbols.read; dynamic_symbols = lists.dynamic_symbols.read }

-- lists of which no symbol was edited
abbrev pub edits_of_none : SymbolLists → EditedLists
edits_of_none lists = record { symbols = as_read lists.symbols; dynamic_symbols = as_read lists.dynamic_symbols }
