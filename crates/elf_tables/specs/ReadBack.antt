-- What is spelled is read back, whatever stands behind it.
use Rattle.std.specs.Prelude.{ℕ, ◌≡◌, List, ◌++◌, length, IsTrue, Some}
use Rattle.std.specs.List.{flat_map, list_all}
use Rattle.elf_format.specs.declared.form.Form.{Form}
use Rattle.elf_format.specs.File.{opened_of}
use Rattle.elf_format.specs.Form.{records}
use Rattle.elf_format.specs.declared.records.FileHeader.{FileHeader}
use Rattle.elf_format.specs.Records.{entry_numbers, entry_size, file_header, file_header_size}
use Rattle.elf_format.specs.Records.{section_header, section_header_size, segment_header, segment_header_size, symbol_numbers, symbol_size}
use Rattle.elf_tables.specs.Fields.{do_fields_fit}
use Rattle.elf_tables.specs.Spelled.{entry_fields, file_header_fields, section_fields, segment_fields, symbol_fields}
use Rattle.elf_tables.specs.Spelled.{spelled_entry, spelled_file_header, spelled_section_header, spelled_segment_header, spelled_symbol}

-- A record has the length that the class gives it, and where each number fits its field it is read back from its bytes.
pub record AreReadBack {A : Type 0} (size : ℕ) (numbers : A → List (ℕ × ℕ)) (spelled : A → List ℕ) (decoded : List ℕ → A) : Type 0 where
  pub long : (x : A) → length (spelled x) ≡ size
  pub back : (x : A) (rest : List ℕ) → IsTrue (do_fields_fit (numbers x)) → decoded (spelled x ++ rest) ≡ x

abbrev pub FileHeadersAreReadBack : Type 0
FileHeadersAreReadBack = (form : Form) → AreReadBack (file_header_size form) (file_header_fields form) (spelled_file_header form) (file_header form)

abbrev pub SegmentHeadersAreReadBack : Type 0
SegmentHeadersAreReadBack = (form : Form) → AreReadBack (segment_header_size form) (segment_fields form) (spelled_segment_header form) (segment_header form)

abbrev pub SectionHeadersAreReadBack : Type 0
SectionHeadersAreReadBack = (form : Form) → AreReadBack (section_header_size form) (section_fields form) (spelled_section_header form) (section_header form)

abbrev pub SymbolsAreReadBack : Type 0
SymbolsAreReadBack = (form : Form) → AreReadBack (symbol_size form) (symbol_fields form) (spelled_symbol form) (symbol_numbers form)

abbrev pub EntriesAreReadBack : Type 0
EntriesAreReadBack = (form : Form) → AreReadBack (entry_size form) (entry_fields form) (spelled_entry form) (entry_numbers form)

-- ## A file that begins with a header

-- A file that begins with a header's bytes is opened with its form and with that header (gABI, ELF Header).
abbrev pub FilesAreOpened : Type 0
FilesAreOpened = (form : Form) (h : FileHeader) (rest : List ℕ) → IsTrue (do_fields_fit (file_header_fields form h))
    → let file = spelled_file_header form h ++ rest in opened_of file ≡ Some (record { file = file; form = form; header = h })

-- ## Tables

-- records end to end are read back, whatever stands behind them
abbrev pub IsTableReadBack : {A : Type 0} → ℕ → (A → List (ℕ × ℕ)) → (A → List ℕ) → (List ℕ → A) → Type 0
IsTableReadBack {A} size numbers spelled decoded = (xs : List A) (rest : List ℕ) → IsTrue (list_all (λ x. do_fields_fit (numbers x)) xs)
    → records decoded size (length xs) (flat_map spelled xs ++ rest) ≡ xs

-- The tables of a file are read back from their bytes: program headers, section headers, symbols, the dynamic list.
pub record AreTablesReadBack (form : Form) : Type 0 where
  pub segments : IsTableReadBack (segment_header_size form) (segment_fields form) (spelled_segment_header form) (segment_header form)
  pub sections : IsTableReadBack (section_header_size form) (section_fields form) (spelled_section_header form) (section_header form)
  pub symbols : IsTableReadBack (symbol_size form) (symbol_fields form) (spelled_symbol form) (symbol_numbers form)
  pub entries : IsTableReadBack (entry_size form) (entry_fields form) (spelled_entry form) (entry_numbers form)

abbrev pub TablesAreReadBack : Type 0
TablesAreReadBack = (form : Form) → AreTablesReadBack form
