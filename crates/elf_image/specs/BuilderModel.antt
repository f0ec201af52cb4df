-- What a builder holds, seen as an image.
use Rattle.std.specs.Prelude.{map}
use Rattle.std.specs.Option.{option_map}
use Rattle.elf_image.specs.declared.builder.Builder.TheInside.{Inside}
use Rattle.elf_format.specs.Image.{Image}
use Rattle.elf_image_symbols.specs.EditedLists.{lists_at_read}
use Rattle.elf_image.specs.Edited.{IsEdited}
use Rattle.elf_image.specs.SymbolsRead.{AreSymbolsOfFile}
use Rattle.elf_image.specs.ImageModel.{definition_model, entry_model, needs_model, section_model, segment_model, text_model}

abbrev pub image_model : Inside → Image
image_model b = record {
  source = b.source.now;
  changed = b.changed;
  form = b.form;
  header = b.header;
  segments = map segment_model b.segments.items;
  sections = map section_model b.sections.items;
  symbols = b.lists.symbols.symbols;
  dynamic_symbols = b.lists.dynamic_symbols.symbols;
  definitions = map definition_model b.versions.definitions.items;
  needs = map needs_model b.versions.needs.items;
  entries = option_map (λ list. map entry_model list.items) b.dynamic;
  interpreter = text_model b.interpreter;
  section_numbers = b.section_numbers.items;
  symbol_numbers = b.lists.symbols.numbers;
  dynamic_symbol_numbers = b.lists.dynamic_symbols.numbers;
  page_size = b.page_size;
  moves_dynamic = b.moves_dynamic;
}

-- what a builder holds is an image that was read, and edited; its symbols are edited ones of those that were read
abbrev pub IsKept : Inside → Type 0
IsKept b = IsEdited (image_model b) × AreSymbolsOfFile b.source.now (lists_at_read b.lists)
