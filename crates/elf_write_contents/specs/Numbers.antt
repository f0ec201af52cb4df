-- Whether each number of what is written fits its field (gABI, Data Representation).
use Rattle.std.specs.Prelude.{ℕ, List, [], ◌∷◌, Bool, true, ◌&&◌}
use Rattle.std.specs.List.{list_all}
use Rattle.elf_format.specs.declared.form.Form.{Form}
use Rattle.elf_format.specs.declared.records.EntryNumbers.{EntryNumbers}
use Rattle.elf_format.specs.declared.records.FileHeader.{FileHeader}
use Rattle.elf_format.specs.declared.records.SectionHeader.{SectionHeader}
use Rattle.elf_format.specs.declared.records.SegmentHeader.{SegmentHeader}
use Rattle.elf_format.specs.Dynamic.{Auto, Entry, Integer, Text}
use Rattle.elf_format.specs.Image.{Image}
use Rattle.elf_format.specs.Options.{list_at}
use Rattle.elf_format.specs.Places.{Place}
use Rattle.elf_tables.specs.Fields.{do_fields_fit}
use Rattle.elf_tables.specs.Spelled.{entry_fields, file_header_fields, section_fields, segment_fields}
use Rattle.elf_image.specs.Kept.{KeptSection, image_at_read, kept_sections}
use Rattle.elf_layout_plan.specs.Memory.{Resized}
use Rattle.elf_layout_plan.specs.Plan.{Plan, resized}
use Rattle.elf_write_spec.specs.Contents.{table_value}
use Rattle.elf_write_spec.specs.Final.{final}
use Rattle.elf_write_spec.specs.Headers.{written_header, written_section}
use Rattle.elf_write_symbol_tables.specs.WrittenStrings.{do_names_reach}
use Rattle.elf_write_symbol_tables.specs.Fits.{do_section_relocations_fit}
use Rattle.elf_write_symbol_tables.specs.Renumbering.{do_symbols_fit}

-- the section headers, whatever the places of their names, which fit
abbrev pub do_sections_fit : Resized → List KeptSection → List Place → Bool
do_sections_fit r [] places = true
do_sections_fit r (s ∷ ss) [] = true
do_sections_fit r (s ∷ ss) (p ∷ ps) = do_fields_fit (section_fields r.image.form (written_section r s.section p 0)) && do_sections_fit r ss ps

abbrev pub entry_with : ℕ → ℕ → EntryNumbers
entry_with tag value = record { d_tag = tag; d_value = value }

-- an entry of the dynamic list, wherever its text stands, which fits
abbrev pub does_entry_fit : Resized → Plan → Entry → Bool
does_entry_fit r plan (Auto tag) = do_fields_fit (entry_fields r.image.form (entry_with tag (table_value r plan tag)))
does_entry_fit r plan (Integer tag number) = do_fields_fit (entry_fields r.image.form (entry_with tag number))
does_entry_fit r plan (Text tag text) = do_fields_fit (entry_fields r.image.form (entry_with tag 0))

-- each number of the file header, the program headers, the section headers and the dynamic list fits its field
unfoldable pub do_header_numbers_fit : Image → Plan → Bool
do_header_numbers_fit image plan =
    let r = resized image in
    do_fields_fit (file_header_fields image.form (written_header image plan))
    && list_all (λ p. do_fields_fit (segment_fields image.form p)) plan.segments
    && do_sections_fit r (kept_sections image) plan.places
    && list_all (does_entry_fit r plan) (list_at (λ es. es) (final r.read image).entries)

-- Each number of the headers and of the dynamic list fits its field; so do the offsets of texts, where texts move in dynamic strings that
-- are copied, and the new numbers of dynamic symbols in hash tables and in relocations.
unfoldable pub do_numbers_fit : Image → Plan → Bool
do_numbers_fit image plan =
    let read = image_at_read image in
    do_header_numbers_fit image plan
    && do_names_reach read image
    && do_symbols_fit read image
    && list_all (do_section_relocations_fit read image) (kept_sections image)

-- each number of records that are there fits its field
unfoldable pub do_records_fit : Form → FileHeader → List SegmentHeader → List SectionHeader → List EntryNumbers → Bool
do_records_fit form header segments sections entries =
    do_fields_fit (file_header_fields form header)
    && list_all (λ p. do_fields_fit (segment_fields form p)) segments
    && list_all (λ s. do_fields_fit (section_fields form s)) sections
    && list_all (λ e. do_fields_fit (entry_fields form e)) entries
