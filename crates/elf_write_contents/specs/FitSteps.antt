-- Which numbers of records fit, whatever the places of section names.
use Rattle.std.specs.Prelude.{ℕ, List, Bool, ◌&&◌}
use Rattle.std.specs.List.{list_all}
use Rattle.elf_format.specs.declared.form.Form.{Form}
use Rattle.elf_format.specs.declared.records.EntryNumbers.{EntryNumbers}
use Rattle.elf_format.specs.declared.records.FileHeader.{FileHeader}
use Rattle.elf_format.specs.declared.records.SectionHeader.{SectionHeader}
use Rattle.elf_format.specs.declared.records.SegmentHeader.{SegmentHeader}
use Rattle.elf_tables.specs.Fields.{do_fields_fit, does_field_fit}
use Rattle.elf_tables.specs.Spelled.{class_word, entry_fields, file_header_fields, section_fields, segment_fields}

-- each number fits a word of the class
abbrev pub do_words_fit : Form → List ℕ → Bool
do_words_fit form numbers = list_all (λ n. does_field_fit (class_word form n)) numbers

-- the section header without its name
abbrev pub unnamed : SectionHeader → SectionHeader
unnamed s = record s { sh_name = 0 }

-- each number fits its field, the names of sections aside
unfoldable pub do_unnamed_fit : Form → FileHeader → List SegmentHeader → List SectionHeader → List EntryNumbers → Bool
do_unnamed_fit form header segments sections entries =
    do_fields_fit (file_header_fields form header)
    && list_all (λ p. do_fields_fit (segment_fields form p)) segments
    && list_all (λ s. do_fields_fit (section_fields form (unnamed s))) sections
    && list_all (λ e. do_fields_fit (entry_fields form e)) entries
