-- A file to which an edited image is written, in words of what is read of it.
use Rattle.std.specs.Prelude.{ℕ, ◌*◌, ◌≡◌, List, [], ◌∷◌, ◌++◌, length, map, filter, Bool, true, false, ◌&&◌, ◌||◌, not, Some, Ok, IsTrue}
use Rattle.std.specs.List.{list_all, slice_get}
use Rattle.patch_bytes.specs.Memory.{memory_of}
use Rattle.patch_bytes.specs.Number.{field}
use Rattle.elf_format.specs.declared.constants.TheConstants.{DT_SYMTAB, SHT_DYNAMIC, SHT_DYNSYM, SHT_GNU_VERDEF, SHT_GNU_VERNEED, SHT_GNU_VERSYM, SHT_STRTAB, SHT_SYMTAB}
use Rattle.elf_format.specs.declared.range.Range.{Range}
use Rattle.elf_format.specs.declared.records.EntryNumbers.{EntryNumbers}
use Rattle.elf_format.specs.declared.section_data.SectionData.{SectionData}
use Rattle.elf_format.specs.declared.section_data.SectionData.TheVariants as kinds
use Rattle.elf_format.specs.Dynamic.{entries_at}
use Rattle.elf_format.specs.Image.{Image, ImageSection, image_of, lists_tag}
use Rattle.elf_format.specs.Options.{list_at}
use Rattle.elf_format.specs.Places.{Place, file_range, occupies_file}
use Rattle.elf_format.specs.Ranges.{all_apart, range}
use Rattle.elf_format.specs.Records.{file_header_size, section_header_size, segment_header_size}
use Rattle.elf_format.specs.Views.{dynamic_symbol_count, loader_view, section_view}
use Rattle.elf_hashes.specs.Versions.{AreVersionsOf}
use Rattle.elf_image.specs.Names.{are_names_changed}
use Rattle.elf_image.specs.Relocated.{is_against}
use Rattle.elf_image.specs.Staying.{table_number}
use Rattle.elf_layout_plan.specs.Anchors.{is_loaded_section}
use Rattle.elf_layout_plan.specs.Apart.{addresses_of, did_show_note, does_take_memory, is_loaded_note, is_shown_by}
use Rattle.elf_layout_plan.specs.Memory.{is_movable}
use Rattle.elf_layout_plan.specs.Plan.{IsPlan, Plan, resized}
use Rattle.elf_layout_plan.specs.Texts.{is_table_copied}
use Rattle.elf_image.specs.Kept.{KeptSection, kept_of_type, kept_sections, place_at_read}
use Rattle.elf_write_spec.specs.ReadBack.{HasWrittenParts, IsReadBack}
use Rattle.elf_write_spec.specs.Base.{is_interpreter}
use Rattle.elf_write_spec.specs.Contents.{AreDefinitionsSpelled, AreNeedsSpelled, IsStringTableOf}
use Rattle.elf_write_spec.specs.Final.{are_symbols_kept, are_versions_kept, final, final_view, is_static_renumbered, new_number}
use Rattle.elf_write_spec.specs.Headers.{written_info}
use Rattle.elf_write_spec.specs.KeptSegments.{AreSegmentsKept}
use Rattle.elf_write_spec.specs.KeptSymbols.{AreRelocationsKept, AreSymbolsKept}
use Rattle.elf_write_spec.specs.Look.{AreNamesFound}
use Rattle.elf_write_spec.specs.Stays.{AreHashesSeen, AreOthersSeen, IsDataSeen, IsSeenAt, written_places}
use Rattle.elf_write_spec.specs.Output.{IsOutput, Output, written_bytes}

-- ## What is read, header by header and section by section

-- the header as it was, but for where the two tables stand and for the number of the section of names
abbrev pub IsHeaderKept : Image → Image → Type 0
IsHeaderKept image again = again.header ≡ record image.header {
  e_phoff = again.header.e_phoff;
  e_shoff = again.header.e_shoff;
  e_shstrndx = new_number image image.header.e_shstrndx;
}

-- for each section of the image, with what is read at its position
abbrev pub EachSection : Image → Image → (KeptSection → ImageSection → Type 0) → Type 0
EachSection image again Holds = (i : ℕ) (s : KeptSection) (now : ImageSection)
    → slice_get (kept_sections image) i ≡ Some s → slice_get again.sections i ≡ Some now → Holds s now

-- a section as it was, but for where it stands, its links, which are in new numbers, and its bytes
abbrev pub IsSectionKept : Image → Image → KeptSection → ImageSection → Type 0
IsSectionKept read image s now = now ≡ record s.section {
  sh_addr = now.sh_addr;
  sh_offset = now.sh_offset;
  sh_size = now.sh_size;
  sh_link = new_number image s.section.sh_link;
  sh_info = written_info read image s.section;
  content = now.content;
}

-- as many sections as the image has, in their order
pub record AreSectionsKept (read image again : Image) : Type 0 where
  pub count : length again.sections ≡ length (kept_sections image)
  pub each : EachSection image again (IsSectionKept read image)

-- the lists of the image in its final form
pub record AreListsFinal (read image again : Image) : Type 0 where
  pub symbols : again.symbols ≡ (final read image).symbols
  pub dynamic_symbols : again.dynamic_symbols ≡ (final read image).dynamic_symbols
  pub definitions : again.definitions ≡ (final read image).definitions
  pub needs : again.needs ≡ (final read image).needs
  pub entries : again.entries ≡ (final read image).entries
  pub interpreter : again.interpreter ≡ (final read image).interpreter

-- ## Where everything stands

-- the file header and the program header table
abbrev pub file_header_of : Image → Range
file_header_of again = range 0 (file_header_size again.form)

abbrev pub segment_table_of : Image → Range
segment_table_of again = range again.header.e_phoff (length again.segments * segment_header_size again.form)

abbrev pub section_table_of : Image → Range
section_table_of again = range again.header.e_shoff (length again.sections * section_header_size again.form)

-- the places of the sections
abbrev pub places_in : Image → List Place
places_in again = map place_at_read again.sections

-- Headers and sections share no address, and no byte of the file.
pub record IsEverythingApart (again : Image) : Type 0 where
  pub memory : IsTrue (all_apart (addresses_of (file_header_of again) again.segments ++ addresses_of (segment_table_of again) again.segments
      ++ map (λ s. range s.sh_addr s.sh_size) (filter does_take_memory (places_in again))))
  pub in_file : IsTrue (all_apart ((file_header_of again ∷ segment_table_of again ∷ [])
      ++ (section_table_of again ∷ []) ++ map file_range (filter occupies_file (places_in again))))

-- ## What stays in memory

-- the section can't move: something may point into it
abbrev pub is_fixed : Image → Image → KeptSection → Bool
is_fixed read image s = not (is_interpreter read s) && not (is_movable image s)

-- the section is loaded, and has bytes of the file
abbrev pub is_loaded_with_bytes : ImageSection → Bool
is_loaded_with_bytes s = is_loaded_section s && occupies_file (place_at_read s)

-- What decides on the bytes of sections of some kinds: whether the section is a string table that is copied; whether the names of the
-- dynamic symbols are those that were read, whether their versions in the final order are, and whether the section's relocations are
-- against them; whether the static symbols are those that were read and the section links to a string table that is copied, whether none
-- of them went, and whether the section's relocations are against them.
pub record Unchanged : Type 0 where
  pub table : Bool
  pub names : Bool
  pub versions : Bool
  pub against_dynamic : Bool
  pub symbols : Bool
  pub numbers : Bool
  pub against_static : Bool

abbrev pub unchanged_for : Image → Image → KeptSection → Unchanged
unchanged_for read image s = record {
  table = is_table_copied read image s.number;
  names = not (are_names_changed read image);
  versions = are_versions_kept read image;
  against_dynamic = is_against (table_number SHT_DYNSYM image) s.section;
  symbols = are_symbols_kept read image && is_table_copied read image s.section.sh_link;
  numbers = not (is_static_renumbered read image);
  against_static = is_against (table_number SHT_SYMTAB image) s.section;
}

-- sections of that kind are written as they were read
abbrev pub is_kind_copied : Unchanged → SectionData → Bool
is_kind_copied u kinds.Opaque = true
is_kind_copied u kinds.Uninitialized = true
is_kind_copied u kinds.Dynamic = false
is_kind_copied u kinds.Relocation = (u.names || not u.against_dynamic) && (u.numbers || not u.against_static)
is_kind_copied u kinds.Note = true
is_kind_copied u kinds.Strings = u.table
is_kind_copied u kinds.Symbols = u.symbols
is_kind_copied u kinds.DynamicSymbols = false
is_kind_copied u kinds.Hash = u.names
is_kind_copied u kinds.GnuHash = u.names
is_kind_copied u kinds.GnuVersym = u.versions
is_kind_copied u kinds.GnuVerdef = false
is_kind_copied u kinds.GnuVerneed = false

-- The bytes of the section are written as they were read: it isn't the interpreter's, nor one of the dynamic list, the dynamic symbols or
-- the records of versions, nor a string table with a text that was added or changed; where names of dynamic symbols changed, it is no hash
-- table and has no relocations against them; where their versions did, it doesn't hold versions; where static symbols went, it has no
-- relocations against them; and where something of these or of the table of their names changed, it doesn't hold them.
abbrev pub is_copied : Image → Image → KeptSection → Bool
is_copied read image s = not (is_interpreter read s) && is_kind_copied (unchanged_for read image s) s.section.kind

-- the loaded note is shown, by a program header of the same type, for each one that is still there and showed it
abbrev pub IsNoteShown : Image → Image → Image → KeptSection → ImageSection → Type 0
IsNoteShown read image again s now = IsTrue (is_loaded_note s)
    → IsTrue (list_all (λ p. is_shown_by again.segments p.p_type (place_at_read now)) (filter (did_show_note read s) image.segments))

-- The records of defined and of needed versions are spelled, with their texts in the string table to which their section links.
pub record AreVersionsSpelled (again : Image) (s : KeptSection) (now : ImageSection) : Type 0 where
  pub definitions : s.section.sh_type ≡ SHT_GNU_VERDEF → (texts : ImageSection) → slice_get again.sections now.sh_link ≡ Some texts
      → AreDefinitionsSpelled again.form.order again.definitions texts.content now.content
  pub needs : s.section.sh_type ≡ SHT_GNU_VERNEED → (texts : ImageSection) → slice_get again.sections now.sh_link ≡ Some texts
      → AreNeedsSpelled again.form.order again.needs texts.content now.content

-- the numbers of the entries in the written dynamic section
pub record IsNumberedList (image again : Image) (raw : List EntryNumbers) : Type 0 where
  pub list : KeptSection
  pub now : ImageSection
  pub is_list : kept_of_type SHT_DYNAMIC image ≡ Some list
  pub is_now : slice_get again.sections list.position ≡ Some now
  pub are : entries_at (length again.source) again.form (memory_of now.content) 0 ≡ Some raw

-- ## By the plan

-- These bytes are a file to which an image is written by a plan: what is written of headers and sections stands where the plan has it,
-- and reading the file finds it there.
pub record IsWrittenByPlan (image : Image) (plan : Plan) (file : List ℕ) : Type 0 where
  pub output : Output
  pub of_image : output.image ≡ image
  pub by_plan : output.plan ≡ plan
  pub is_output : IsOutput output
  pub are_bytes : file ≡ written_bytes output
  pub parts : HasWrittenParts output
  pub read_back : IsReadBack output
  pub places : places_in read_back.again ≡ plan.places

-- ## All of it

-- A file to which an edited image is written.
pub record IsWrittenOf (image : Image) (file : List ℕ) : Type 0 where
  -- the image as it was read of its source's bytes, before any edit
  pub read : Image
  pub was_read : image_of image.source ≡ Ok read
  -- the file is accepted, and this is what reading it gives
  pub again : Image
  pub is_read : image_of file ≡ Ok again
  pub source : again.source ≡ file
  -- by its section headers, and to a loader that knows its program headers alone, it shows the edited lists
  pub by_sections : section_view file ≡ Some (final_view read image)
  pub by_loader : loader_view file (dynamic_symbol_count file) ≡ Some (final_view read image)
  -- the header, the sections and the lists are those of the image
  pub form : again.form ≡ image.form
  pub header : IsHeaderKept image again
  pub sections : AreSectionsKept read image again
  pub lists : AreListsFinal read image again
  -- the program headers are those of the image, in order, and loaded ones that were added
  pub segments : AreSegmentsKept read image again
  -- in the memory that the file's own program headers load, each section of data has its bytes at its address
  pub kept_data : IsDataSeen read image again.segments file
  -- each section that can't move stands at its address, loaded or not: relocations, the dynamic list, whatever isn't known
  pub fixed : EachSection image again (λ s now. IsTrue (is_fixed read image s) → now.sh_addr ≡ s.section.sh_addr)
  -- each loaded section has its bytes at its address
  pub loaded : EachSection image again (λ s now.
      IsTrue (is_loaded_with_bytes s.section) → IsSeenAt again.segments file now.sh_addr now.content)
  -- the bytes of a section are those that it had, where it isn't written anew
  pub copied : EachSection image again (λ s now. IsTrue (is_copied read image s) → now.content ≡ s.section.content)
  -- each section, loaded or not, has its bytes in the file where its header says
  pub in_file : EachSection image again (λ s now.
      IsTrue (occupies_file (place_at_read s.section)) → field now.sh_size now.sh_offset file ≡ now.content)
  -- what can't move and isn't written anew has its bytes at its address: relocations as much as data
  pub stay : EachSection image again (λ s now.
      IsTrue (is_fixed read image s && is_copied read image s && is_loaded_with_bytes s.section)
      → IsSeenAt again.segments file s.section.sh_addr s.section.content)
  -- every other byte that a loaded segment had which is still there keeps its value and its address, where nothing is written anew
  pub others : AreOthersSeen image again.segments
      (written_places read image (file_header_of again ∷ segment_table_of again ∷ []) (places_in again)) file
  -- program headers that are still there show the notes that they showed
  pub notes : EachSection image again (IsNoteShown read image again)
  -- hash tables stand, as they were read, where the dynamic list says, if the names of the dynamic symbols are those that were read
  pub hashes : are_names_changed read image ≡ false
      → (raw : List EntryNumbers) → IsNumberedList image again raw → AreHashesSeen image again.segments raw file
  -- else look-ups in the tables that the list names find exactly the symbols that are defined and not local, by the names that they have now
  pub found : are_names_changed read image ≡ true
      → (raw : List EntryNumbers) → IsNumberedList image again raw → lists_tag DT_SYMTAB (list_at (λ es. es) image.entries) ≡ true
      → AreNamesFound again raw file
  -- each symbol stands at its new number, and relocations and versions follow
  pub symbols : AreSymbolsKept read image again
  pub relocations : EachSection image again (λ s now. AreRelocationsKept read image again s.section now)
  pub symbol_versions : EachSection image again (λ s now.
      s.section.sh_type ≡ SHT_GNU_VERSYM → AreVersionsOf again.form again.dynamic_symbols now.content)
  -- the bytes of the version sections, with revisions, hashes and links, which no reader of the lists looks at
  pub versions : EachSection image again (AreVersionsSpelled again)
  -- a string table that is made anew begins with a NUL, and holds each text that is in use with no byte more than these need
  pub strings : EachSection image again (λ s now.
      s.section.sh_type ≡ SHT_STRTAB → IsStringTableOf read image s now.content)
  pub apart : IsEverythingApart again
  -- the plan by which the file is written
  pub by_plan : (plan : Plan) × IsPlan (resized image) plan × IsWrittenByPlan image plan file
