-- What a user should know of edits of an image.
use Rattle.std.specs.Prelude.{ℕ, ◌≡◌, ◌*◌, ◌/◌, ◌==◌, ◌&&◌, ◌||◌, ◌⊎◌, ◌++◌, List, [], ◌∷◌, Bool, Option, Some, true, false, not, drop, map, filter, find, is_none, length, take, bit_and, nat_eq, nat_le, nat_lt, unwrap_or}
use Rattle.std.specs.List.{flat_map, list_any, starts_with}
use Rattle.std.specs.Str.{bytes_eq}
use Rattle.std.specs.Option.{option_map}
use Rattle.elf_edits.specs.Batch.{left_by, run}
use Rattle.elf_edits.specs.Edit.{AddDebugTag, AddNeeded, AddRpath, ClearSymbolVersion, RemoveNeeded, Edit, RenameDynamicSymbols, ReplaceLibrary, ReplaceNeeded, SetRpath, SetSoname}
use Rattle.elf_edits.specs.Entries.{needed_names}
use Rattle.elf_edits.specs.Symbols.{names_behind_first}
use Rattle.elf_edits.specs.Texts.{has_some, is_among}
use Rattle.elf_format.specs.Dynamic.{Entry, Integer, Text}
use Rattle.elf_format.specs.Image.{Image, ImageSection, lists_tag}
use Rattle.elf_format.specs.Options.{is_one_of, is_some_and}
use Rattle.elf_format.specs.Placement.{file_part, memory_part}
use Rattle.elf_format.specs.Places.{is_set}
use Rattle.elf_format.specs.Ranges.{end_of, lies_in, range}
use Rattle.elf_format.specs.declared.range.Range.{Range}
use Rattle.elf_format.specs.Records.{section_header_size, segment_header_size}
use Rattle.elf_format.specs.Views.{NamedSymbol}
use Rattle.elf_format.specs.declared.constants.TheConstants.{DT_DEBUG, DT_FLAGS_1, DT_SONAME, ET_DYN, ET_EXEC, PT_DYNAMIC, SHT_GNU_HASH, SHT_REL, SHT_RELA}
use Rattle.elf_format.specs.File.{is_loaded, segment_of_type}
use Rattle.elf_format.specs.Form.{fixed_field}
use Rattle.elf_format.specs.declared.form.Form.{Form}
use Rattle.elf_format.specs.declared.records.SegmentHeader.{SegmentHeader}
use Rattle.elf_hashes.specs.Found.{is_found, is_sought}
use Rattle.elf_image.specs.Kept.{image_at_read}
use Rattle.elf_image.specs.Names.{are_names_changed}
use Rattle.elf_image.specs.Renumbering.{is_opaque}
use Rattle.elf_layout_plan.specs.Needs.{written_needs}
use Rattle.elf_layout_plan.specs.Plan.{IsOverlapping, IsPlan, IsTooLarge, Plan, resized}
use Rattle.elf_layout_plan.specs.Refusals.{do_sizes_of_image_fit}
use Rattle.elf_layout_plan.specs.declared.constants.TheConstants.{PF_W}
use Rattle.elf_notes.specs.declared.findings.Findings.{Findings}
use Rattle.elf_notes.specs.declared.notes.ElfNotes.{ElfNotes}

abbrev pub Name : Type 0
Name = List ℕ

-- the entries of the dynamic list, none without one
abbrev pub entries_of : Image → List Entry
entries_of image = unwrap_or image.entries []

-- the libraries that entries need
abbrev pub needed_of : Image → List Name
needed_of image = needed_names (entries_of image)

-- the libraries of which versions are needed (GNU symbol versioning, .gnu.version_r)
abbrev pub recorded_of : Image → List Name
recorded_of image = map (λ n. n.file) image.needs

-- the libraries of which versions are needed in the file that is written (GNU symbol versioning, .gnu.version_r): a record goes
-- with the last of its versions, and a version with the last symbol that had it
abbrev pub versioned_of : Image → List Name
versioned_of image = map (λ n. n.file) (written_needs (image_at_read image) image)

-- ## Names in edits

-- the names that an edit looks for among the libraries that entries need
abbrev pub entries_asked_by : Edit → List Name
entries_asked_by (RemoveNeeded names) = names
entries_asked_by (ReplaceNeeded pairs) = map (λ pair. pair.0) pairs
entries_asked_by _ = []

-- the names that it looks for both among these and among the libraries of needed versions
abbrev pub libraries_asked_by : Edit → List Name
libraries_asked_by (ReplaceLibrary pairs) = map (λ pair. pair.0) pairs
libraries_asked_by _ = []

-- the names that it may put among the libraries that entries need
abbrev pub put_by : Edit → List Name
put_by (AddNeeded names) = names
put_by (ReplaceNeeded pairs) = map (λ pair. pair.1) pairs
put_by (ReplaceLibrary pairs) = map (λ pair. pair.1) pairs
put_by _ = []

abbrev pub entries_asked : List Edit → List Name
entries_asked edits = flat_map entries_asked_by edits

abbrev pub libraries_asked : List Edit → List Name
libraries_asked edits = flat_map libraries_asked_by edits

abbrev pub asked : List Edit → List Name
asked edits = entries_asked edits ++ libraries_asked edits

abbrev pub put : List Edit → List Name
put edits = flat_map put_by edits

-- the names that an edit looks for among dynamic symbols
abbrev pub symbols_asked_by : Edit → List Name
symbols_asked_by (RenameDynamicSymbols pairs) = map (λ pair. pair.0) pairs
symbols_asked_by (ClearSymbolVersion name) = name ∷ []
symbols_asked_by _ = []

-- the names that an edit may give dynamic symbols
abbrev pub symbols_put_by : Edit → List Name
symbols_put_by (RenameDynamicSymbols pairs) = map (λ pair. pair.1) pairs
symbols_put_by _ = []

abbrev pub symbols_asked : List Edit → List Name
symbols_asked edits = flat_map symbols_asked_by edits

abbrev pub symbols_put : List Edit → List Name
symbols_put edits = flat_map symbols_put_by edits

-- an edit of needed libraries without names
abbrev pub has_no_names : Edit → Bool
has_no_names (RemoveNeeded names) = not (has_some names)
has_no_names (ReplaceNeeded pairs) = not (has_some pairs)
has_no_names (ReplaceLibrary pairs) = not (has_some pairs)
has_no_names (AddNeeded names) = not (has_some names)
has_no_names _ = false

-- an edit of dynamic symbols' names without pairs
abbrev pub has_no_pairs : Edit → Bool
has_no_pairs (RenameDynamicSymbols pairs) = not (has_some pairs)
has_no_pairs _ = false

-- an edit that sets a run path
abbrev pub sets_run_path : Edit → Bool
sets_run_path (SetRpath text) = true
sets_run_path (AddRpath texts) = true
sets_run_path _ = false

-- an edit that adds DT_DEBUG
abbrev pub adds_debug : Edit → Bool
adds_debug AddDebugTag = true
adds_debug _ = false

-- ## What edits find

-- the libraries that entries needed, or that an edit put there, and that an edit removes or renames
abbrev pub dropped : List Edit → Image → List Name
dropped edits image = filter (is_among (needed_of image ++ put edits)) (asked edits)

-- a name that isn't known, and that no edit puts there
abbrev pub is_unmatched : List Name → List Name → Name → Bool
is_unmatched known put name = not (is_among known name) && not (is_among put name)

-- Of what is looked for among entries the names that none of them has; of what is looked for among needed versions too, those that
-- no record of them has either.
abbrev pub unmatched : List Edit → Image → List Name
unmatched edits image =
    filter (is_unmatched (needed_of image) (put edits)) (entries_asked edits)
    ++ filter (is_unmatched (needed_of image ++ recorded_of image) (put edits)) (libraries_asked edits)

-- a name that no dynamic symbol behind the first has, and that no edit gives one
abbrev pub is_symbol_unmatched : List Edit → Image → Name → Bool
is_symbol_unmatched edits image name =
    not (is_among (names_behind_first image.dynamic_symbols) name) && not (is_among (symbols_put edits) name)

abbrev pub unmatched_symbols : List Edit → Image → List Name
unmatched_symbols edits image = filter (is_symbol_unmatched edits image) (symbols_asked edits)

-- ## Programs that load themselves

-- DF_1_PIE is set in DT_FLAGS_1 (a GNU extension)
abbrev pub says_pie : Entry → Bool
says_pie (Integer tag value) = tag == DT_FLAGS_1 && not (bit_and value 0x08000000 == 0)
says_pie _ = false

-- DT_SONAME begins as the names of loaders do: "ld-", "ld." and "ld64."
abbrev pub is_loader_name : Name → Bool
is_loader_name name =
    starts_with nat_eq name (0x6c ∷ 0x64 ∷ 0x2d ∷ []) || starts_with nat_eq name (0x6c ∷ 0x64 ∷ 0x2e ∷ [])
    || starts_with nat_eq name (0x6c ∷ 0x64 ∷ 0x36 ∷ 0x34 ∷ 0x2e ∷ [])

abbrev pub says_loader : Entry → Bool
says_loader (Text tag text) = tag == DT_SONAME && is_loader_name text
says_loader _ = false

-- a static PIE, or a loader: it has a dynamic list, is no fixed program, and names no interpreter
abbrev pub loads_itself : Image → Bool
loads_itself image =
    image.header.e_type == ET_DYN && is_none image.interpreter
    && list_any (λ e. says_pie e || says_loader e) (entries_of image)

-- an edit gives a file another name of its own than the text of this entry
abbrev pub has_other_text : Entry → Name → Bool
has_other_text (Text tag text) name = not (bytes_eq text name)
has_other_text _ name = false

abbrev pub gives_other_name : Entry → Edit → Bool
gives_other_name entry (SetSoname name) = has_other_text entry name
gives_other_name entry _ = false

-- one of some edits gives a loader another name than the one that it has, by which libraries need it
abbrev pub rename_loader : List Edit → List Entry → Bool
rename_loader edits entries = is_some_and (λ e. list_any (gives_other_name e) edits) (find says_loader entries)

-- ## Programs that look for their program headers

-- the program header table (gABI, ELF Header, e_phoff, e_phentsize and e_phnum)
abbrev pub header_table : Image → Range
header_table image = range image.header.e_phoff (length image.segments * segment_header_size image.form)

-- a loaded segment has a range of the file
abbrev pub has_range : Range → SegmentHeader → Bool
has_range part p = is_loaded p && lies_in part (file_part p)

-- A loaded segment's bytes begin in the page of 4 KiB that has an offset of the file: whole pages are loaded.
abbrev pub shares_page : ℕ → SegmentHeader → Bool
shares_page offset p = is_loaded p && not (p.p_filesz == 0) && p.p_offset / 4096 == offset / 4096

-- A fixed program without an interpreter may go by its program headers, which it finds in memory. No loaded segment has all of
-- them, so that they are written behind the last one; but they are loaded, by the page in which such a segment begins.
abbrev pub has_loose_headers : Image → Bool
has_loose_headers image =
    image.header.e_type == ET_EXEC && is_none image.interpreter
    && not (list_any (has_range (header_table image)) image.segments) && list_any (shares_page image.header.e_phoff) image.segments

-- ## Files that go on behind all that is written of them

-- the section header table (gABI, ELF Header, e_shoff, e_shentsize and e_shnum)
abbrev pub section_table : Image → Range
section_table image = range image.header.e_shoff (length image.sections * section_header_size image.form)

-- a range goes up to the end of a file
abbrev pub reaches : ℕ → Range → Bool
reaches file_end part = nat_le file_end (end_of part)

-- the file's part of a loaded segment goes up to the end of a file
abbrev pub does_load_reach : ℕ → SegmentHeader → Bool
does_load_reach file_end p = is_loaded p && reaches file_end (file_part p)

-- the bytes of a section go up to the end of a file
abbrev pub does_section_reach : ℕ → ImageSection → Bool
does_section_reach file_end s = nat_lt 0 (length s.content) && reaches file_end (range s.sh_offset (length s.content))

-- Bytes stand behind both header tables, all loaded segments and all sections, as the file system of an AppImage does. A file that is
-- written hasn't got them.
abbrev pub has_bytes_behind : Image → Bool
has_bytes_behind image =
    not (reaches (length image.source) (header_table image)) && not (reaches (length image.source) (section_table image))
    && not (list_any (does_load_reach (length image.source)) image.segments)
    && not (list_any (does_section_reach (length image.source)) image.sections)

-- ## What edits leave

-- versions are needed still of a library that was dropped, and that no entry needs any more
abbrev pub old_needs : List Name → Image → List Name
old_needs names edited = filter (λ name. is_among names name && not (is_among (needed_of edited) name)) (versioned_of edited)

-- a symbol that a look-up may find stands before the first one of the GNU hash table (GNU hash section, symoffset)
abbrev pub leaves_out : Form → List NamedSymbol → ImageSection → Bool
leaves_out form ys s = s.sh_type == SHT_GNU_HASH && list_any is_found (drop 1 (take (fixed_field form (4, 4) s.content) ys))

-- relocations that are kept as they are, since they can't be read
abbrev pub is_unread : ImageSection → Bool
is_unread s = is_one_of (SHT_REL ∷ SHT_RELA ∷ []) s.sh_type && is_opaque s.kind

-- A symbol that is defined elsewhere has an address here: a program's own one of a library's function, which a loader takes for that function wherever
-- its address is taken, if a look-up finds it (processor supplements of the gABI, Function Addresses).
abbrev pub stands_in : NamedSymbol → Bool
stands_in y = is_sought y && not (y.st_value == 0)

-- a dynamic symbol has another name than it was read with: the hash tables are made anew, and symbols may get other numbers
abbrev pub is_hashed_anew : Image → Bool
is_hashed_anew edited = are_names_changed (image_at_read edited) edited

-- ## Files that look for their dynamic section where it stood

-- where the dynamic section stands in memory (gABI, Dynamic Section)
abbrev pub dynamic_address : List SegmentHeader → Option ℕ
dynamic_address segments = option_map (λ p. p.p_vaddr) (segment_of_type PT_DYNAMIC segments)

abbrev pub are_apart : Option ℕ → Option ℕ → Bool
are_apart (Some a) (Some b) = not (a == b)
are_apart _ _ = false

-- a plan gives it another address
abbrev pub is_dynamic_moved : Image → Plan → Bool
is_dynamic_moved edited plan = are_apart (dynamic_address plan.segments) (dynamic_address edited.segments)

-- A file that loads itself finds its own dynamic section by `_DYNAMIC`, at the address that the link editor gave it; the loader of
-- any other file is told by the program headers. The section moves only with leave.
abbrev pub may_seek_old_place : Image → Bool
may_seek_old_place edited = loads_itself edited && edited.moves_dynamic

-- ## What a plan decides

-- there is no plan, so that nothing is written
abbrev pub IsUnplanned : Image → Type 0
IsUnplanned edited =
    (do_sizes_of_image_fit edited ≡ false) ⊎ (IsTooLarge (resized edited) ⊎ IsOverlapping (resized edited))

-- the edited image has a plan that passes a test, or fails it
abbrev pub IsPlannedSo : (Plan → Bool) → Image → Bool → Type 0
IsPlannedSo test edited passes = (plan : Plan) × IsPlan (resized edited) plan × (test plan ≡ passes)

-- A note is told just where it may be so, and the plan passes the test. An image has no more than one plan.
abbrev pub TellsPlanned : Bool → (Plan → Bool) → Image → Bool → Type 0
TellsPlanned may_be test edited true = (may_be ≡ true) × IsPlannedSo test edited true
TellsPlanned may_be test edited false = (may_be ≡ false) ⊎ (IsPlannedSo test edited false ⊎ IsUnplanned edited)

-- of a file that loads itself, and whose dynamic section moves
abbrev pub TellsOldPlace : Image → Bool → Type 0
TellsOldPlace edited told = TellsPlanned (may_seek_old_place edited) (is_dynamic_moved edited) edited told

-- ## Files whose dynamic section can't be written to

-- a loaded segment that mayn't be written has an address (gABI, Program Header, PF_W)
abbrev pub is_read_only_at : ℕ → SegmentHeader → Bool
is_read_only_at address p = is_loaded p && not (is_set PF_W p.p_flags) && lies_in (range address 1) (memory_part p)

-- the dynamic section lies in such a segment
abbrev pub is_dynamic_read_only : List SegmentHeader → Bool
is_dynamic_read_only segments = is_some_and (λ address. list_any (is_read_only_at address) segments) (dynamic_address segments)

-- DT_DEBUG was asked for and is there, in a section that can't be written to where it is. With leave that may move, into memory
-- that can.
abbrev pub may_refuse_debug : Bool → Image → Bool
may_refuse_debug asked edited =
    asked && lists_tag DT_DEBUG (entries_of edited) && is_dynamic_read_only edited.segments

-- of a file to which an edit adds DT_DEBUG, into which loaders write an address, and whose dynamic section can't be written to
abbrev pub TellsReadOnly : Bool → Image → Bool → Type 0
TellsReadOnly asked edited told =
    TellsPlanned (may_refuse_debug asked edited) (λ plan. is_dynamic_read_only plan.segments) edited told

-- ## All of them

-- What edits look for in an image, and find.
pub record AreFindings (edits : List Edit) (image : Image) (found : Findings) : Type 0 where
  pub dropped : map (λ n. n.now) found.dropped.items ≡ dropped edits image
  pub unmatched : map (λ n. n.now) found.unmatched.items ≡ unmatched edits image
  pub unmatched_symbols : map (λ n. n.now) found.unmatched_symbols.items ≡ unmatched_symbols edits image
  pub no_names : found.has_no_names ≡ list_any has_no_names edits
  pub no_pairs : found.has_no_pairs ≡ list_any has_no_pairs edits
  pub own_loader : found.is_own_loader ≡ (loads_itself image && list_any sets_run_path edits)
  pub other_name : found.renames_loader ≡ (loads_itself image && rename_loader edits (entries_of image))
  pub no_list : found.lacks_list ≡ is_none image.entries
  pub debug : found.adds_debug ≡ list_any adds_debug edits
  pub loose_headers : found.has_loose_headers ≡ has_loose_headers image
  pub bytes_behind : found.has_bytes_behind ≡ has_bytes_behind image

-- What an edited image shows beside what edits look for and find.
pub record AreLeft (edited : Image) (notes : ElfNotes) : Type 0 where
  pub old_needs : map (λ n. n.now) notes.old_needs.items ≡ old_needs (map (λ n. n.now) notes.found.dropped.items) edited
  pub new_finds : notes.finds_more ≡ (is_hashed_anew edited && list_any (leaves_out edited.form edited.dynamic_symbols) edited.sections)
  pub lost_addresses : notes.loses_addresses ≡ (is_hashed_anew edited && list_any stands_in (drop 1 edited.dynamic_symbols))
  pub old_numbers : notes.keeps_numbers ≡ (is_hashed_anew edited && list_any is_unread edited.sections)
  pub old_place : TellsOldPlace edited notes.seeks_old_place
  pub read_only : TellsReadOnly notes.found.adds_debug edited notes.refuses_debug
  pub lost_headers : notes.loses_headers ≡ (notes.found.has_loose_headers && edited.changed)
  pub lost_bytes : notes.loses_bytes ≡ (notes.found.has_bytes_behind && edited.changed)

-- Notes of edits of an image: of what they find in it, and of the image after them.
pub record AreNotes (edits : List Edit) (image : Image) (notes : ElfNotes) : Type 0 where
  pub found : AreFindings edits image notes.found
  pub left : AreLeft (left_by (run edits image) image) notes
