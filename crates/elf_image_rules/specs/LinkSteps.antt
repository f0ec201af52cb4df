-- What the steps of reading header tables answer.
use Rattle.std.specs.Prelude.{ℕ, Bool, true, drop, ◌==◌, ◌||◌, nat_lt, ◌≡◌, ◌+◌, ◌*◌, ◌≤◌, ◌⊎◌, List, [], ◌∷◌, Result, ◌&&◌, ◌/◌, ◌%◌, count_by, filter, nat_le, not}
use Rattle.std.specs.List.{list_all, list_any}
use Rattle.std.specs.declared.alloc.Global.{Global}
use Rattle.std.specs.declared.vec.Vec.{Vec}
use Rattle.elf_format.specs.declared.fault.ElfFault.{ElfFault}
use Rattle.elf_format.specs.declared.fault.ElfFault.TheVariants.{Memory, Truncated, Unsupported}
use Rattle.elf_format.specs.declared.view_fault.ViewFault.{ViewFault}
use Rattle.elf_format.specs.declared.view_fault.ViewFault.TheVariants as faults
use Rattle.elf_image_rules.specs.declared.kind.Run.{Run}
use Rattle.elf_image_rules.specs.declared.linked.Checked.{Checked}
use Rattle.elf_image_rules.specs.declared.linked.Known.{Known}
use Rattle.elf_image_rules.specs.declared.linked.Relocated.{Relocated}
use Rattle.elf_format.specs.declared.constants.TheConstants.{SHN_XINDEX}
use Rattle.elf_format.specs.declared.form.Form.{Form}
use Rattle.elf_format.specs.Options.{is_none_or, is_one_of}
use Rattle.elf_format.specs.Form.{records}
use Rattle.elf_format.specs.File.{section_bytes, Opened, Parts, opened_of}
use Rattle.elf_format.specs.declared.records.SectionHeader.{SectionHeader}
use Rattle.elf_format.specs.declared.records.SegmentHeader.{SegmentHeader}
use Rattle.elf_format.specs.declared.records.SymbolNumbers.{SymbolNumbers}
use Rattle.elf_format.specs.Records.{Relocation, relocation, relocation_size, relocations_in, symbol_size, symbols_in}
use Rattle.elf_format.specs.Rules.{◌>>=◌, checked, identification_rules, is_file_kind, rule, there_or, are_linked, are_whole, is_one_of_each, links_to, relocated_symbols, relocations_of, single_section_types, single_segment_types, symbols_have_sections}

-- the fault where a header or a table isn't there
abbrev pub table_fault : ViewFault → ElfFault
table_fault faults.Absent = Truncated
table_fault faults.Memory = Memory

-- a file of a kind that is read, or the first fault
unfoldable pub opened_read : List ℕ → Result Opened ElfFault
opened_read file = do
  _ ← checked identification_rules file
  o ← there_or Truncated (opened_of file)
  checked (rule is_file_kind Unsupported ∷ []) o

-- the two header tables with what they were read by
abbrev pub tables_model : Opened → Vec SegmentHeader Global × Vec SectionHeader Global → Parts
tables_model o t = record { opened = o; segments = t.0.items; sections = t.1.items }

-- the first n records of a run, of a size, are among those of another
abbrev pub IsAmong : ℕ → Run → Run → ℕ → Type 0
IsAmong size run other n = (n ≡ 0) ⊎ ((before : ℕ) × (run.start ≡ other.start + before * size) × (before + n ≤ other.count))

-- a relocation names symbol 0, or one below a number
abbrev pub names_below_limit : ℕ → Relocation → Bool
names_below_limit limit r = r.r_symbol == 0 || nat_lt r.r_symbol limit

-- the first n relocations in bytes name symbol 0 or one below a number, and all of them do
abbrev pub first_name_below : Form → ℕ → ℕ → ℕ → List ℕ → Bool
first_name_below form kind limit n bytes =
    list_all (names_below_limit limit) (records (relocation form kind) (relocation_size form kind) n bytes)

abbrev pub bytes_name_below : Form → ℕ → ℕ → List ℕ → Bool
bytes_name_below form kind limit bytes = list_all (names_below_limit limit) (relocations_in form kind bytes)

-- some relocation of a section names a symbol other than symbol 0
abbrev pub some_names_symbol : Parts → SectionHeader → Bool
some_names_symbol parts section = list_any (λ r. not (r.r_symbol == 0)) (relocations_of parts section)

-- a section of these relocations is whole, and they name symbols of its table, where it has one
abbrev pub fits_table : Form → List SectionHeader → List Relocation → SectionHeader → Bool
fits_table form sections relocations section = section.sh_size % relocation_size form section.sh_type == 0
    && is_none_or (λ l. list_all (names_below_limit (l.sh_size / symbol_size form)) relocations) (relocated_symbols sections section)

-- no two segments, and no two sections, are of a type that may come once
abbrev pub segment_types_once : List SegmentHeader → Bool
segment_types_once segments = list_all (λ type. nat_le (count_by (λ p. p.p_type == type) segments) 1) single_segment_types

abbrev pub section_types_once : List SectionHeader → Bool
section_types_once sections = list_all (λ type. nat_le (count_by (λ s. s.sh_type == type) sections) 1) single_section_types

-- the sections of some types link to one of a type
abbrev pub all_users_linked : List ℕ → ℕ → List SectionHeader → Bool
all_users_linked users type sections =
    list_all (λ s. links_to type sections s) (filter (λ s. is_one_of users s.sh_type) sections)

-- what headers alone say of links, and what headers and symbols do
abbrev pub headers_linked : Form → List SegmentHeader → List SectionHeader → Bool
headers_linked form segments sections = is_one_of_each segments sections && are_linked sections && are_whole form sections

abbrev pub symbols_right : Parts → Bool
symbols_right parts = headers_linked parts.opened.form parts.segments parts.sections && symbols_have_sections parts

-- no symbol in bytes says to look elsewhere for its section's number
abbrev pub all_numbers_plain : Form → List ℕ → Bool
all_numbers_plain form bytes = list_all (λ y. not (y.st_shndx == SHN_XINDEX)) (symbols_in form bytes)

-- the number of a symbol's section is below the first of two, or not below the second
abbrev pub is_index_outside : ℕ → ℕ → SymbolNumbers → Bool
is_index_outside low high y = nat_lt y.st_shndx low || nat_le high y.st_shndx

-- all relocations of a section name symbol 0, or one below a number
abbrev pub all_names_below : Form → List ℕ → ℕ → SectionHeader → Bool
all_names_below form file limit s = bytes_name_below form s.sh_type limit (section_bytes file s)

-- what was checked is so
abbrev pub IsChecked : Form → List ℕ → Checked → Type 0
IsChecked form file c = c.fits ≡ all_names_below form file c.of.limit c.of.section

-- what is known is so
abbrev pub IsKnown : Form → List ℕ → Known → Type 0
IsKnown form file k = first_name_below form k.kind k.limit k.run.count (drop k.run.start file) ≡ true

-- the first n relocations of a section are among those that are known
abbrev pub IsAmongKnown : ℕ → Relocated → Run → Known → ℕ → Type 0
IsAmongKnown size table run known n = (n ≡ 0) ⊎ ((known.kind ≡ table.section.sh_type) × (known.limit ≡ table.limit) × IsAmong size run known.run n)
