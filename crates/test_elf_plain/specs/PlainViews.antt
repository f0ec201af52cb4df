-- What the answers of plain readers show.
use Rattle.std.specs.Prelude.{Bool, Err, List, None, Ok, Option, Result, Some, false, if◌then◌else◌, is_some, length, map, option_map, true, ℕ, ◌&&◌, ◌+◌, ◌/◌, ◌<◌, ◌==◌, ◌^◌, ◌≡◌, ◌≤◌, ◌⊎◌}
use Rattle.std.specs.Global.{Vec}
use Rattle.test_elf_plain.specs.declared.source.Loaded.{Loaded}
use Rattle.test_elf_plain.specs.declared.source.Source.{Source}
use Rattle.test_elf_plain.specs.declared.source.Source.TheVariants as sources
use Rattle.test_elf_plain.specs.declared.source.TableSource.{TableSource}
use Rattle.test_elf_plain.specs.declared.source.TableSources.{TableSources}
use Rattle.test_elf_plain.specs.declared.view.EntryView.{EntryView}
use Rattle.test_elf_plain.specs.declared.view.EntryView.TheVariants as viewed
use Rattle.test_elf_plain.specs.declared.view.ShownDefinition.{ShownDefinition}
use Rattle.test_elf_plain.specs.declared.view.ShownName.{ShownName}
use Rattle.test_elf_plain.specs.declared.view.ShownNeeds.{ShownNeeds}
use Rattle.test_elf_plain.specs.declared.view.ShownSymbol.{ShownSymbol}
use Rattle.test_elf_plain.specs.declared.view.Outline.{Outline}
use Rattle.test_elf_plain.specs.declared.view.ShownView.{ShownView}
use Rattle.elf_format.specs.declared.constants.TheConstants.{DT_SYMENT, DT_SYMTAB, DT_VERDEF, DT_VERDEFNUM, DT_VERNEED, DT_VERNEEDNUM, DT_VERSYM, PT_INTERP, SHT_DYNSYM}
use Rattle.elf_format.specs.File.{bytes_in, segment_of_type}
use Rattle.elf_format.specs.declared.form.Form.{Form}
use Rattle.elf_format.specs.Options.{is_none_or, when_wanted}
use Rattle.elf_format.specs.declared.records.EntryNumbers.{EntryNumbers}
use Rattle.elf_format.specs.declared.records.SegmentHeader.{SegmentHeader}
use Rattle.elf_format.specs.Records.{symbol_size}
use Rattle.elf_format.specs.Views.{NamedSymbol, Table, Tables, View, byte_at, defined_versions, dynamic_symbols, first_by_tag, memory_at_tag, needed_versions, section_table, tables_by_tags, view_of}
use Rattle.patch_bytes.specs.Memory.{◌>>=◌, Memory, from, memory_of}
use Rattle.elf_format.specs.Answers.{borrowed}
use Rattle.elf_format.specs.declared.records.SectionHeader.{SectionHeader}
use Rattle.elf_format.specs.declared.view_fault.ViewFault.{ViewFault}
use Rattle.elf_format.specs.declared.view_fault.ViewFault.TheVariants as faults
use Rattle.elf_format.specs.Versions.{VersionDefinition, VersionName, VersionNeeds}
use Rattle.elf_format.specs.Dynamic.{Auto, Entry, Integer, Text, entries_at, has_tag, value_of_tag}

-- a text that was copied
abbrev pub text_model : Vec ℕ → List ℕ
text_model text = text.items

-- an entry, seen without where its text's copy lies
abbrev pub entry_viewed : EntryView → Entry
entry_viewed (viewed.Auto tag) = Auto tag
entry_viewed (viewed.Integer tag value) = Integer tag value
entry_viewed (viewed.Text tag text) = Text tag text.items

-- what a loader sees from an address on
abbrev pub loaded_model : Loaded → Memory
loaded_model l = first_by_tag l.size (memory_at_tag (byte_at l.segments.now l.file.now) l.start)

-- what is seen in a source
abbrev pub source_model : Source → Memory
source_model (sources.Slice bytes) = memory_of bytes.now
source_model (sources.Segments loaded) = loaded_model loaded

-- tables by what is seen in their sources
abbrev pub table_source_model : TableSource → Table
table_source_model t = record { bytes = source_model t.bytes; texts = source_model t.texts; count = t.count }

abbrev pub tables_model : TableSources → Tables
tables_model t = record {
  entry_texts = source_model t.entry_texts;
  symbols = table_source_model t.symbols;
  versions = source_model t.versions;
  definitions = table_source_model t.definitions;
  needs = table_source_model t.needs;
}

-- version records, seen without where their texts' copies lie
abbrev pub definition_model : ShownDefinition → VersionDefinition
definition_model d = record { index = d.index; flags = d.flags; names = map text_model d.names.items }

abbrev pub name_model : ShownName → VersionName
name_model v = record { index = v.index; name = v.name.items; flags = v.flags }

abbrev pub needs_model : ShownNeeds → VersionNeeds
needs_model n = record { file = n.file.items; versions = map name_model n.versions.items }

-- a symbol, seen without where its name's copy lies
abbrev pub symbol_model : ShownSymbol → NamedSymbol
symbol_model y = record { name = y.name.items; st_info = y.st_info; st_other = y.st_other; st_shndx = y.st_shndx; st_value = y.st_value; st_size = y.st_size; version = y.version }

-- lists of texts, in the order in which they stand in a `Vec`
abbrev pub texts_model : Vec (Vec ℕ) → List (List ℕ)
texts_model v = map text_model v.items

abbrev pub entries_model : Vec EntryView → List Entry
entries_model v = map entry_viewed v.items

abbrev pub definitions_model : Vec ShownDefinition → List VersionDefinition
definitions_model v = map definition_model v.items

abbrev pub names_model : Vec ShownName → List VersionName
names_model v = map name_model v.items

abbrev pub libraries_model : Vec ShownNeeds → List VersionNeeds
libraries_model v = map needs_model v.items

abbrev pub symbols_model : Vec ShownSymbol → List NamedSymbol
symbols_model v = map symbol_model v.items

-- what is shown besides the list
abbrev pub outline_model : Outline → View
outline_model o = record {
  os_abi = o.os_abi;
  stack_flags = o.stack_flags;
  interpreter = option_map borrowed o.interpreter;
  entries = None;
  symbols = None;
  definitions = None;
  needs = None;
}

-- a whole view, seen without where its bytes lie
abbrev pub view_model : ShownView → View
view_model v = record {
  os_abi = v.os_abi;
  stack_flags = v.stack_flags;
  interpreter = option_map borrowed v.interpreter;
  entries = option_map (λ l. map entry_viewed l.items) v.entries;
  symbols = option_map (λ l. map symbol_model l.items) v.symbols;
  definitions = option_map (λ l. map definition_model l.items) v.definitions;
  needs = option_map (λ l. map needs_model l.items) v.needs;
}

-- the bytes of the interpreter's segment, where there is one
abbrev pub loaded_interpreter_of : List ℕ → List SegmentHeader → Option (Option (List ℕ))
loaded_interpreter_of file segments = when_wanted (is_some (segment_of_type PT_INTERP segments)) (segment_of_type PT_INTERP segments >>= λ p. bytes_in file p.p_offset p.p_filesz)

-- DT_SYMENT holds the size of a symbol, where it is there
abbrev pub holds_symbol_size : Form → List EntryNumbers → Bool
holds_symbol_size form raw = is_none_or (λ size. size == symbol_size form) (value_of_tag DT_SYMENT raw)

-- the loader's view, by what the program headers show and by the dynamic segment, where there is one
abbrev pub loaded_by_dynamic : Form → List ℕ → View → List SegmentHeader → ℕ → Option SegmentHeader → Option View
loaded_by_dynamic form file outline segments symbol_count None = Some outline
loaded_by_dynamic form file outline segments symbol_count (Some list) =
    entries_at (length file) form (from (byte_at segments file) list.p_vaddr) 0 >>= λ raw. if holds_symbol_size form raw
    then view_of form (length file) outline raw (tables_by_tags (byte_at segments file) symbol_count raw)
    else None

-- what a list of entries asks for: the symbols, the defined and the needed versions
abbrev pub symbols_when_wanted : Form → ℕ → List EntryNumbers → Tables → Option (Option (List NamedSymbol))
symbols_when_wanted form room raw tables =
    when_wanted (has_tag DT_SYMTAB raw) (dynamic_symbols form room (has_tag DT_VERSYM raw) tables.symbols tables.versions)

abbrev pub definitions_when_wanted : Form → ℕ → List EntryNumbers → Table → Option (Option (List VersionDefinition))
definitions_when_wanted form room raw table =
    when_wanted (has_tag DT_VERDEF raw && has_tag DT_VERDEFNUM raw) (defined_versions form room table)

abbrev pub needs_when_wanted : Form → ℕ → List EntryNumbers → Table → Option (Option (List VersionNeeds))
needs_when_wanted form room raw table =
    when_wanted (has_tag DT_VERNEED raw && has_tag DT_VERNEEDNUM raw) (needed_versions form room table)

-- the dynamic symbols by their section
abbrev pub symbol_table_of : Form → List ℕ → List SectionHeader → Table
symbol_table_of form file sections = section_table file sections (λ s. s.sh_size / symbol_size form) SHT_DYNSYM

-- the place of the next record, or for the last any; no place is too far, since a distance has 32 bits
abbrev pub GoesOn : ℕ → ℕ → Bool → Result ℕ ViewFault → Type 0
GoesOn place next is_last (Ok p) = ((is_last ≡ true) ⊎ ((next ≡ 0 → ⊥) × (p ≡ place + next))) × (p ≤ place + next) × (next < 2 ^ 32)
GoesOn place next is_last (Err e) = (e ≡ faults.Absent) × (is_last ≡ false) × (next ≡ 0)
