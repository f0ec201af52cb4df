-- What contradicts a read rule that a file breaks: the first section, program header or tag for which its test fails; of a section with
-- links, texts or versions also what of it does (`Flaws`).
use Rattle.std.specs.Prelude.{ℕ, ◌+◌, ◌*◌, List, [], ◌∷◌, length, map, Bool, true, false, ◌&&◌, not, Option, Some, None, Result, Ok, Err, is_some, nat_le, nat_lt, ◌==◌, if◌then◌else◌, find, position, count_by, slice_index, slice_get}
use Rattle.std.specs.List.{list_any}
use Rattle.patch_bytes.specs.Memory.{◌>>=◌, Memory}
use Rattle.elf_format.specs.declared.constants.TheConstants.{DT_GNU_HASH, DT_HASH, DT_STRSZ, DT_STRTAB, DT_SYMENT, DT_SYMTAB, DT_VERDEF, DT_VERDEFNUM, DT_VERNEED, DT_VERNEEDNUM, DT_VERSYM, ET_DYN, ET_EXEC, PT_DYNAMIC, PT_INTERP, SHT_DYNAMIC, SHT_DYNSYM, SHT_GNU_HASH, SHT_GNU_VERDEF, SHT_GNU_VERNEED, SHT_GNU_VERSYM, SHT_HASH}
use Rattle.elf_format.specs.declared.fault.ElfFault.{ElfFault}
use Rattle.elf_format.specs.Dynamic.{has_tag, shown_entry, table_tags, value_of_tag}
use Rattle.elf_format.specs.File.{Opened, Parts, has_file_bytes, is_allocated, is_loaded, linked_section, opened_of, section_of_type, segment_of_type}
use Rattle.elf_format.specs.Options.{first_there, is_one_of, is_some_and}
use Rattle.elf_format.specs.Placement.{crosses_file_end, ends_by, file_part, holds, is_stored, is_uninitialized, memory_part}
use Rattle.elf_format.specs.Places.{file_range, place_of}
use Rattle.elf_format.specs.declared.range.Range.{Range}
use Rattle.elf_format.specs.Ranges.{apart, range}
use Rattle.elf_format.specs.declared.records.EntryNumbers.{EntryNumbers}
use Rattle.elf_format.specs.declared.records.SectionHeader.{SectionHeader}
use Rattle.elf_format.specs.declared.records.SegmentHeader.{SegmentHeader}
use Rattle.elf_format.specs.Records.{section_header_size, segment_header_size, symbol_size}
use Rattle.elf_format.specs.Rules.{file_of, linked_texts, raw_entries, segment_table_range}
use Rattle.elf_format.specs.Stages.{parts_read}
use Rattle.elf_image_flaws.specs.declared.detail.Detail.{Detail}
use Rattle.elf_image_flaws.specs.declared.detail.Detail.TheVariants as details
use Rattle.elf_image_flaws.specs.declared.detail.Piece.{Piece}
use Rattle.elf_image_flaws.specs.declared.detail.Piece.TheVariants as pieces
use Rattle.elf_image_reasons.specs.declared.rule.Rule.{Rule}
use Rattle.elf_image_reasons.specs.declared.rule.Rule.TheVariants as rules
use Rattle.elf_image_flaws.specs.declared.flaws.Flaw.{Flaw}
use Rattle.elf_image_flaws.specs.Flaws.{broken_links, broken_texts, broken_versions}

-- ## Before the parts are there

-- of the file header: the type, or that there are no section headers
abbrev pub kind_detail : Opened → Option Detail
kind_detail o =
    if not (is_one_of (ET_EXEC ∷ ET_DYN ∷ []) o.header.e_type) then Some (details.FileType o.header.e_type)
    else if o.header.e_shoff == 0 then Some details.NoSections
    else if o.header.e_shnum == 0 then Some details.NoSections
    else None

-- a range of the file, where it ends past the end
abbrev pub past_end : Piece → ℕ → ℕ → ℕ → Option Detail
past_end piece start size length = if nat_lt length (start + size) then Some (details.PastEnd piece start size length) else None

-- the first header table that ends past the end
abbrev pub table_detail : Opened → Option Detail
table_detail o =
    first_there
    (past_end pieces.SegmentTable o.header.e_phoff (o.header.e_phnum * segment_header_size o.form) (length o.file))
    (past_end pieces.SectionTable o.header.e_shoff (o.header.e_shnum * section_header_size o.form) (length o.file))

-- the details of a file with a file header: of its kind, and of its header tables
abbrev pub kind_of_file : List ℕ → Option Detail
kind_of_file file = opened_of file >>= kind_detail

abbrev pub tables_of_file : List ℕ → Option Detail
tables_of_file file = opened_of file >>= table_detail

-- ## Placement

-- a stored section that no loaded segment holds, or that begins at the file's start
abbrev pub is_not_shown : List SegmentHeader → SectionHeader → Bool
is_not_shown segments s = is_stored (place_of s) && not (list_any (λ p. is_loaded p && holds p (place_of s)) segments && not (s.sh_offset == 0))

-- an uninitialized section that crosses the end of a loaded segment's file part
abbrev pub is_crossing : List SegmentHeader → SectionHeader → Bool
is_crossing segments s = is_uninitialized (place_of s) && list_any (λ p. is_loaded p && crosses_file_end p (place_of s)) segments

-- whether a section contradicts a rule by itself, in a file of a length with these segments
abbrev pub is_wrong_section : Rule → ℕ → List SegmentHeader → SectionHeader → Bool
is_wrong_section rules.RangesInFile length segments s = has_file_bytes s && not (ends_by length (file_range (place_of s)))
is_wrong_section rules.SectionsLoaded length segments s = is_not_shown segments s
is_wrong_section rules.UninitializedData length segments s = is_crossing segments s
is_wrong_section _ length segments s = false

-- what is told of such a section with its number
abbrev pub section_told : Rule → ℕ → ℕ → SectionHeader → Option Detail
section_told rules.RangesInFile length i s = Some (details.PastEnd (pieces.Section i) s.sh_offset s.sh_size length)
section_told rules.SectionsLoaded length i s = Some (details.NotShown i s.sh_offset s.sh_addr)
section_told rules.UninitializedData length i s = Some (details.Crosses i s.sh_addr s.sh_size)
section_told _ length i s = None

-- the first section that contradicts a rule by itself
unfoldable pub wrong_section : Rule → ℕ → List SegmentHeader → List SectionHeader → Option Detail
wrong_section rule length segments sections =
    position (is_wrong_section rule length segments) sections >>= λ i. slice_get sections i >>= λ s. section_told rule length i s

-- a program header that contradicts a rule by itself: one that is loaded, with bytes past the end, or with more bytes in the file than in
-- memory
abbrev pub is_wrong_segment : Rule → ℕ → SegmentHeader → Bool
is_wrong_segment rules.RangesInFile length p = is_loaded p && not (ends_by length (file_part p))
is_wrong_segment rules.FileParts length p = is_loaded p && not (nat_le p.p_filesz p.p_memsz)
is_wrong_segment _ length p = false

abbrev pub segment_told : Rule → ℕ → ℕ → SegmentHeader → Option Detail
segment_told rules.RangesInFile length i p = Some (details.PastEnd (pieces.Segment i) p.p_offset p.p_filesz length)
segment_told rules.FileParts length i p = Some (details.MoreInFile i p.p_filesz p.p_memsz)
segment_told _ length i p = None

unfoldable pub wrong_segment : Rule → ℕ → List SegmentHeader → Option Detail
wrong_segment rule length segments =
    position (is_wrong_segment rule length) segments >>= λ i. slice_get segments i >>= λ p. segment_told rule length i p

-- the bytes of the file that a section takes, or none where it isn't stored
abbrev pub stored_range : SectionHeader → Range
stored_range s = if is_stored (place_of s) then file_range (place_of s) else range 0 0

-- the addresses that a segment takes, or its bytes of the file, or none where it isn't loaded
abbrev pub loaded_range : Bool → SegmentHeader → Range
loaded_range in_memory p = if is_loaded p then (if in_memory then memory_part p else file_part p) else range 0 0

-- the numbers of the first two ranges that share a place, the first range having a number
unfoldable pub meeting_from : ℕ → List Range → Option (ℕ × ℕ)
meeting_from n [] = None
meeting_from n (r ∷ rs) = elim (position (λ s. not (apart r s)) rs) [ Some j ↦ Some (n, n + 1 + j) | None ↦ meeting_from (n + 1) rs ]

-- the first two stored sections that share a byte of the file
unfoldable pub shared_sections : List SectionHeader → Option Detail
shared_sections sections =
    meeting_from 0 (map stored_range sections) >>= λ two. Some (details.Shared (pieces.Section two.0) (pieces.Section two.1) false)

-- the first two loaded segments that share an address, or a byte of the file
unfoldable pub shared_parts : Bool → List SegmentHeader → Option Detail
shared_parts in_memory segments =
    meeting_from 0 (map (loaded_range in_memory) segments) >>= λ two. Some (details.Shared (pieces.Segment two.0) (pieces.Segment two.1) in_memory)

unfoldable pub shared_segments : List SegmentHeader → Option Detail
shared_segments segments = first_there (shared_parts true segments) (shared_parts false segments)

-- ## The dynamic section and the interpreter

-- the dynamic section, and PT_DYNAMIC, where the other isn't there
abbrev pub lone_section : List SectionHeader → Option Detail
lone_section sections = position (λ s. s.sh_type == SHT_DYNAMIC) sections >>= λ i. Some (details.Alone (pieces.Section i))

abbrev pub lone_segment : List SegmentHeader → Option Detail
lone_segment segments = position (λ p. p.p_type == PT_DYNAMIC) segments >>= λ i. Some (details.Alone (pieces.Segment i))

-- PT_DYNAMIC and the dynamic section, where they stand at different places
abbrev pub apart_by : SegmentHeader → SectionHeader → Option Detail
apart_by p s =
    if p.p_offset == s.sh_offset && p.p_vaddr == s.sh_addr then None
    else Some (details.Apart p.p_offset p.p_vaddr s.sh_offset s.sh_addr)

abbrev pub dynamic_detail_by : List SegmentHeader → List SectionHeader → Option SegmentHeader → Option SectionHeader → Option Detail
dynamic_detail_by segments sections None section = lone_section sections
dynamic_detail_by segments sections (Some p) None = lone_segment segments
dynamic_detail_by segments sections (Some p) (Some s) = apart_by p s

unfoldable pub dynamic_detail : List SegmentHeader → List SectionHeader → Option Detail
dynamic_detail segments sections = dynamic_detail_by segments sections (segment_of_type PT_DYNAMIC segments) (section_of_type SHT_DYNAMIC sections)

unfoldable pub interpreter_detail : List SegmentHeader → Option Detail
interpreter_detail segments = segment_of_type PT_INTERP segments >>= λ p. Some (details.NoSection p.p_offset p.p_vaddr p.p_filesz)

-- ## The tables of the dynamic list

-- the first table tag that comes more than once
abbrev pub repeated_tag : List EntryNumbers → Option Detail
repeated_tag raw = find (λ tag. not (nat_le (count_by (λ e. e.d_tag == tag) raw) 1)) table_tags >>= λ tag. Some (details.RepeatedTag tag)

-- the string table's tag, where it is missing
abbrev pub missing_tag : List EntryNumbers → Option Detail
missing_tag raw = if has_tag DT_STRTAB raw then None else Some (details.MissingTag DT_STRTAB)

-- a tag with its value, unless that is right
abbrev pub told_unless : Bool → ℕ → ℕ → Option Detail
told_unless right tag value = if right then None else Some (details.Tag tag value)

-- a tag that is there, where its value fails a test against its section, or there is no section
abbrev pub wrong_tag : List EntryNumbers → ℕ → Option SectionHeader → (ℕ → SectionHeader → Bool) → Option Detail
wrong_tag raw tag section test = value_of_tag tag raw >>= λ value. told_unless (is_some_and (λ s. test value s) section) tag value

-- a tag that is there, where its value isn't the address of its allocated section
abbrev pub wrong_address : List EntryNumbers → ℕ → Option SectionHeader → Option Detail
wrong_address raw tag section = wrong_tag raw tag section (λ value s. is_allocated s && s.sh_addr == value)

-- no more than the size of the strings, the size of a symbol, the count of records
abbrev pub wrong_size : List EntryNumbers → Option SectionHeader → Option Detail
wrong_size raw strings = wrong_tag raw DT_STRSZ strings (λ value s. nat_le value s.sh_size)

abbrev pub wrong_unit : ℕ → List EntryNumbers → Option SectionHeader → Option Detail
wrong_unit size raw symbols = wrong_tag raw DT_SYMENT symbols (λ value s. value == size)

abbrev pub wrong_count : List EntryNumbers → ℕ → Option SectionHeader → Option Detail
wrong_count raw tag records = wrong_tag raw tag records (λ value s. s.sh_info == value)

-- the first tag of the strings, of the dynamic symbols, of records of versions, of the hash tables, of all versions
abbrev pub wrong_strings : List EntryNumbers → Option SectionHeader → Option Detail
wrong_strings raw strings = first_there (wrong_address raw DT_STRTAB strings) (wrong_size raw strings)

abbrev pub wrong_symbols : ℕ → List EntryNumbers → Option SectionHeader → Option Detail
wrong_symbols size raw symbols = first_there (wrong_address raw DT_SYMTAB symbols) (wrong_unit size raw symbols)

abbrev pub wrong_records : List EntryNumbers → ℕ → ℕ → Option SectionHeader → Option Detail
wrong_records raw tag count_tag records = first_there (wrong_address raw tag records) (wrong_count raw count_tag records)

abbrev pub wrong_hashes : List EntryNumbers → List SectionHeader → Option Detail
wrong_hashes raw sections =
    first_there (wrong_address raw DT_HASH (section_of_type SHT_HASH sections)) (wrong_address raw DT_GNU_HASH (section_of_type SHT_GNU_HASH sections))

abbrev pub wrong_versions : List EntryNumbers → List SectionHeader → Option Detail
wrong_versions raw sections =
    first_there (wrong_address raw DT_VERSYM (section_of_type SHT_GNU_VERSYM sections))
    (first_there (wrong_records raw DT_VERDEF DT_VERDEFNUM (section_of_type SHT_GNU_VERDEF sections))
    (wrong_records raw DT_VERNEED DT_VERNEEDNUM (section_of_type SHT_GNU_VERNEED sections)))

abbrev pub wrong_tables : ℕ → List EntryNumbers → List SectionHeader → Option Detail
wrong_tables size raw sections =
    first_there (wrong_symbols size raw (section_of_type SHT_DYNSYM sections))
    (first_there (wrong_hashes raw sections) (wrong_versions raw sections))

-- the first tag that contradicts a table, of a dynamic list with its strings, where a symbol has a size
abbrev pub list_detail : ℕ → List EntryNumbers → List SectionHeader → Option SectionHeader → Option Detail
list_detail size raw sections strings =
    first_there (first_there (repeated_tag raw) (missing_tag raw))
    (first_there (wrong_strings raw strings) (wrong_tables size raw sections))

unfoldable pub tables_detail : Parts → Option Detail
tables_detail p =
    section_of_type SHT_DYNAMIC p.sections
    >>= λ list. list_detail (symbol_size p.opened.form) (raw_entries p) p.sections (linked_section p.sections list)

-- ## Texts of the dynamic list

-- the first of some entries whose text isn't there
abbrev pub without_text : ℕ → Memory → List EntryNumbers → Option Detail
without_text room texts raw = find (λ e. not (is_some (shown_entry room texts e))) raw >>= λ e. Some (details.Text e.d_tag e.d_value)

unfoldable pub text_detail : Parts → Option Detail
text_detail p = section_of_type SHT_DYNAMIC p.sections >>= λ list. without_text (length (file_of p)) (linked_texts p list) (raw_entries p)

-- ## All of them

abbrev pub unloaded_detail : Parts → Option Detail
unloaded_detail p = let table : Range = segment_table_range p in Some (details.Unloaded table.start table.size)

-- of the parts of a file that breaks a rule: a section or a program header by itself, or anything else
abbrev pub lone_detail : Rule → Parts → Option Detail
lone_detail rule p = first_there (wrong_section rule (length (file_of p)) p.segments p.sections) (wrong_segment rule (length (file_of p)) p.segments)

-- a section with what of it contradicts a rule
abbrev pub flawed : Option (ℕ × Flaw) → Option Detail
flawed told = told >>= λ x. Some (details.Flawed x.0 x.1)

abbrev pub joint_detail : Rule → Parts → Option Detail
joint_detail rules.SegmentsApart p = shared_segments p.segments
joint_detail rules.SectionsLoaded p = shared_sections p.sections
joint_detail rules.TableLinks p = flawed (broken_links p)
joint_detail rules.DynamicSection p = dynamic_detail p.segments p.sections
joint_detail rules.Interpreter p = interpreter_detail p.segments
joint_detail rules.DynamicTables p = tables_detail p
joint_detail rules.Texts p = first_there (text_detail p) (flawed (broken_texts p))
joint_detail rules.Versions p = flawed (broken_versions p)
joint_detail rules.LoadedHeaderTable p = unloaded_detail p
joint_detail _ p = None

abbrev pub part_detail : Rule → Parts → Option Detail
part_detail rule p = first_there (lone_detail rule p) (joint_detail rule p)

-- the parts of a file whose headers are read
abbrev pub parts_if_read : Result Parts ElfFault → Option Parts
parts_if_read (Ok p) = Some p
parts_if_read (Err fault) = None

-- of the first bytes and the file header
abbrev pub early_detail : Rule → List ℕ → Option Detail
early_detail rules.Identification file = Some (details.Length (length file))
early_detail rules.Class file = Some (details.Class (slice_index file 4) (slice_index file 5) (slice_index file 6))
early_detail rules.FileHeader file = Some (details.Length (length file))
early_detail rules.FileKind file = kind_of_file file
early_detail rules.HeaderTables file = tables_of_file file
early_detail _ file = None

-- of the parts of a file whose headers are read
abbrev pub late_detail : Rule → List ℕ → Option Detail
late_detail rule file = parts_if_read (parts_read file) >>= part_detail rule

-- what contradicts a rule that a file breaks, as far as it is looked for
abbrev pub detail_of : Rule → List ℕ → Option Detail
detail_of rule file = first_there (early_detail rule file) (late_detail rule file)
