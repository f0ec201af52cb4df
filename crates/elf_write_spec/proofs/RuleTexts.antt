-- The texts of a written file end.
use Rattle.std.proofs.Common.{◌≡◌, true, List, length, refl, ap, Option, Some, None}
use Rattle.std.specs.Prelude.{IsTrue, is_some}
use Rattle.std.proofs.lemmas.Bool.{and_from}
use Rattle.patch_bytes.proofs.MemoryLaws.{bind_some}
use Rattle.elf_format.specs.declared.constants.TheConstants.{SHT_DYNAMIC, SHT_DYNSYM, SHT_GNU_VERDEF, SHT_GNU_VERNEED, SHT_SYMTAB}
use Rattle.elf_format.specs.declared.records.SectionHeader.{SectionHeader}
use Rattle.elf_format.specs.Dynamic.{Entry, shown_entry}
use Rattle.elf_format.specs.File.{Parts, linked_section, section_of_type}
use Rattle.elf_format.specs.Image.{Image, definitions_read, dynamic_symbols_read, entries_read, needs_read, static_symbols, symbols_of}
use Rattle.elf_format.specs.Options.{each, is_none_or}
use Rattle.elf_format.specs.Rules.{definition_steps, definition_texts_end, do_texts_end, dynamic_texts_of, entry_texts_end, file_of, linked_texts, need_steps, need_texts_end, raw_entries, section_names_end, symbols_are_named, texts_of}
use Rattle.elf_format.specs.Versions.{VersionDefinition, VersionNeeds, shown_definition, shown_need, values_of}
use Rattle.elf_format.specs.Views.{NamedSymbol, names_of}
use Rattle.elf_image.specs.Kept.{image_at_read}
use Rattle.elf_write_spec.specs.Final.{final}
use Rattle.elf_write_spec.specs.ReadBack.{HasWrittenParts, written_parts}
use Rattle.elf_write_spec.specs.Output.{IsPlannedOutput, Output}
use Rattle.elf_write_spec.proofs.DynamicReadBack.{dynamic_read_back}
use Rattle.elf_write_spec.proofs.EntriesReadBack.{entries_read_back}
use Rattle.elf_write_spec.proofs.NamesReadBack.{names_read_back}
use Rattle.elf_write_spec.proofs.RecordsReadBack.{definitions_read_back, needs_read_back}
use Rattle.elf_write_spec.proofs.SymbolsReadBack.{symbols_read_back}

-- ## What is read has its texts

module _ (p : Parts) where
  static_end : (o : Option SectionHeader) (ys : List NamedSymbol) → static_symbols p o ≡ Some ys
      → is_none_or (λ s. is_some (names_of (length (file_of p)) (texts_of p (linked_section p.sections s)) (symbols_of p s))) o ≡ true
  unfolding static_symbols
  static_end None ys h = refl
  static_end (Some s) ys h =
      let (_, there, _) = bind_some (names_of (length (file_of p)) (texts_of p (linked_section p.sections s)) (symbols_of p s)) _ ys h in
      ap is_some there

  dynamic_end : (o : Option SectionHeader) (ys : List NamedSymbol) → dynamic_symbols_read p o ≡ Some ys
      → is_none_or (λ s. is_some (names_of (length (file_of p)) (dynamic_texts_of p (linked_section p.sections s)) (symbols_of p s))) o
      ≡ true
  unfolding dynamic_symbols_read
  dynamic_end None ys h = refl
  dynamic_end (Some s) ys h =
      let (_, there, _) = bind_some (names_of (length (file_of p)) (dynamic_texts_of p (linked_section p.sections s))
      (symbols_of p s)) _ ys h in
      ap is_some there

  entries_end : (o : Option SectionHeader) (es : Option (List Entry)) → entries_read p o ≡ Some es
      → is_none_or (λ s. is_some (each (shown_entry (length (file_of p)) (linked_texts p s)) (raw_entries p))) o ≡ true
  unfolding entries_read
  entries_end None es h = refl
  entries_end (Some s) es h =
      let (_, there, _) = bind_some (each (shown_entry (length (file_of p)) (linked_texts p s)) (raw_entries p)) _ es h in
      ap is_some there

  definitions_end : (o : Option SectionHeader) (ds : List VersionDefinition) → definitions_read p o ≡ Some ds
      → is_none_or (λ s. is_some (each (shown_definition (length (file_of p)) (linked_texts p s)) (values_of (definition_steps p s)))) o
      ≡ true
  unfolding definitions_read
  definitions_end None ds h = refl
  definitions_end (Some s) ds h = ap is_some h

  needs_end : (o : Option SectionHeader) (ns : List VersionNeeds) → needs_read p o ≡ Some ns
      → is_none_or (λ s. is_some (each (shown_need (length (file_of p)) (linked_texts p s)) (values_of (need_steps p s)))) o ≡ true
  unfolding needs_read
  needs_end None ns h = refl
  needs_end (Some s) ns h = ap is_some h

pub texts_end : (w : Output) → IsPlannedOutput w → HasWrittenParts w → IsTrue (do_texts_end (written_parts w))
texts_end w is has =
    let p : Parts = written_parts w in
    let last : Image = final (image_at_read w.image) w.image in
    and_from _ (need_texts_end p)
    (and_from _ (definition_texts_end p)
    (and_from _ (entry_texts_end p)
    (and_from _ (symbols_are_named p (dynamic_texts_of p) SHT_DYNSYM)
    (and_from (section_names_end p) (symbols_are_named p (texts_of p) SHT_SYMTAB)
    (ap is_some (names_read_back w is has))
    (static_end p (section_of_type SHT_SYMTAB w.headers) last.symbols (symbols_read_back w is has)))
    (dynamic_end p (section_of_type SHT_DYNSYM w.headers) last.dynamic_symbols (dynamic_read_back w is has)))
    (entries_end p (section_of_type SHT_DYNAMIC w.headers) last.entries (entries_read_back w is has)))
    (definitions_end p (section_of_type SHT_GNU_VERDEF w.headers) w.image.definitions (definitions_read_back w is has)))
    (needs_end p (section_of_type SHT_GNU_VERNEED w.headers) last.needs (needs_read_back w is has))
