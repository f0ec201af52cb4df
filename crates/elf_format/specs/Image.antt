-- The image of an accepted file: all that is kept of it to be shown, edited and written.
use Rattle.std.specs.Prelude.{ℕ, zero, suc, ◌≡◌, ◌&&◌, ◌==◌, if◌then◌else◌, List, [], ◌∷◌, ◌++◌, length, map, replicate, Bool, true, false, Option, Some, None, Result, Ok, Err}
use Rattle.std.specs.List.{list_any, slice_get}
use Rattle.patch_bytes.specs.Memory.{◌>>=◌, text_at}
use Rattle.elf_format.specs.declared.constants.TheConstants.{DT_SYMTAB, DT_VERDEF, DT_VERDEFNUM, DT_VERNEED, DT_VERNEEDNUM, DT_VERSYM, PT_GNU_STACK, PT_INTERP, SHT_DYNAMIC, SHT_DYNSYM, SHT_GNU_VERDEF, SHT_GNU_VERNEED, SHT_GNU_VERSYM, SHT_SYMTAB}
use Rattle.elf_format.specs.declared.fault.ElfFault.{ElfFault}
use Rattle.elf_format.specs.declared.fault.ElfFault.TheVariants.{BadText}
use Rattle.elf_format.specs.declared.header.Header.{Header}
use Rattle.elf_format.specs.declared.section_data.SectionData.{SectionData}
use Rattle.elf_format.specs.declared.version_id.VersionId.{VersionId}
use Rattle.elf_format.specs.Dynamic.{Auto, Entry, Integer, Text, shown_entry}
use Rattle.elf_format.specs.File.{Parts, linked_section, section_bytes, section_of_type, segment_of_type}
use Rattle.elf_format.specs.Form.{Form, records}
use Rattle.elf_format.specs.Options.{each}
use Rattle.elf_format.specs.Records.{FileHeader, SectionHeader, SegmentHeader, SymbolNumbers, symbols_in}
use Rattle.elf_format.specs.Rules.{accepted_parts, data_of, definition_steps, dynamic_texts_of, fault_of, file_of, linked_texts, need_steps, raw_entries, texts_of, there_or}
use Rattle.elf_format.specs.Versions.{VersionDefinition, VersionNeeds, shown_definition, shown_need, values_of, version_id}
use Rattle.elf_format.specs.Views.{NamedSymbol, View, dynamic_symbol_count, interpreter_section, loader_view, named_symbols, names_of, section_view}

-- A section with its name, what kind of section it is, its header's other numbers and its bytes.
pub record ImageSection : Type 0 where
  pub name : List ℕ
  pub kind : SectionData
  pub sh_type : ℕ
  pub sh_flags : ℕ
  pub sh_addr : ℕ
  pub sh_offset : ℕ
  pub sh_size : ℕ
  pub sh_link : ℕ
  pub sh_info : ℕ
  pub sh_addralign : ℕ
  pub sh_entsize : ℕ
  pub content : List ℕ

-- The image. The numbers at read say which section or symbol of the file stands now at a position.
pub record Image : Type 0 where
  pub source : List ℕ
  pub changed : Bool
  pub form : Form
  pub header : Header
  pub segments : List SegmentHeader
  pub sections : List ImageSection
  pub symbols : List NamedSymbol
  pub dynamic_symbols : List NamedSymbol
  pub definitions : List VersionDefinition
  pub needs : List VersionNeeds
  pub entries : Option (List Entry)
  pub interpreter : Option (List ℕ)
  pub section_numbers : List ℕ
  pub symbol_numbers : List ℕ
  pub dynamic_symbol_numbers : List ℕ
  pub page_size : Option ℕ
  -- leave was given that the dynamic section moves
  pub moves_dynamic : Bool

-- ## What it is read from

-- what the file header says, without the sizes and counts of the tables
abbrev pub image_header : FileHeader → Header
image_header h = record {
  os_abi = h.os_abi;
  abi_version = h.abi_version;
  e_type = h.e_type;
  e_machine = h.e_machine;
  e_entry = h.e_entry;
  e_flags = h.e_flags;
  e_phoff = h.e_phoff;
  e_shoff = h.e_shoff;
  e_shstrndx = h.e_shstrndx;
}

-- a section's name, in the section of names (gABI, ELF Header, e_shstrndx)
abbrev pub section_name : Parts → SectionHeader → Option (List ℕ)
section_name p s = text_at (length (file_of p)) (texts_of p (slice_get p.sections p.opened.header.e_shstrndx)) s.sh_name

unfoldable pub section_read : Parts → SectionHeader → Option ImageSection
section_read p s = do
  name ← section_name p s
  Some (record {
    name = name;
    kind = data_of p s;
    sh_type = s.sh_type;
    sh_flags = s.sh_flags;
    sh_addr = s.sh_addr;
    sh_offset = s.sh_offset;
    sh_size = s.sh_size;
    sh_link = s.sh_link;
    sh_info = s.sh_info;
    sh_addralign = s.sh_addralign;
    sh_entsize = s.sh_entsize;
    content = section_bytes (file_of p) s;
  })

-- the symbols of a section, with names of these texts
abbrev pub symbols_of : Parts → SectionHeader → List SymbolNumbers
symbols_of p s = symbols_in p.opened.form (section_bytes (file_of p) s)

-- the static symbols (gABI, Symbol Table); they have no versions
unfoldable pub static_symbols : Parts → Option SectionHeader → Option (List NamedSymbol)
static_symbols p None = Some []
static_symbols p (Some s) = do
  names ← names_of (length (file_of p)) (texts_of p (linked_section p.sections s)) (symbols_of p s)
  Some (named_symbols (symbols_of p s) names (replicate (length (symbols_of p s)) None))

-- a version for each of so many symbols, where there is a section of them (GNU symbol versioning, .gnu.version)
unfoldable pub versions_read : Parts → Option SectionHeader → ℕ → List (Option VersionId)
versions_read p None count = replicate count None
versions_read p (Some s) count = records (λ b. Some (version_id p.opened.form b)) 2 count (section_bytes (file_of p) s)

-- the dynamic symbols, with versions where there is a section of them
unfoldable pub dynamic_symbols_read : Parts → Option SectionHeader → Option (List NamedSymbol)
dynamic_symbols_read p None = Some []
dynamic_symbols_read p (Some s) = do
  names ← names_of (length (file_of p)) (dynamic_texts_of p (linked_section p.sections s)) (symbols_of p s)
  Some (named_symbols (symbols_of p s) names (versions_read p (section_of_type SHT_GNU_VERSYM p.sections) (length (symbols_of p s))))

-- the versions that the file defines
unfoldable pub definitions_read : Parts → Option SectionHeader → Option (List VersionDefinition)
definitions_read p None = Some []
definitions_read p (Some s) = each (shown_definition (length (file_of p)) (linked_texts p s)) (values_of (definition_steps p s))

-- the versions that the file needs
unfoldable pub needs_read : Parts → Option SectionHeader → Option (List VersionNeeds)
needs_read p None = Some []
needs_read p (Some s) = each (shown_need (length (file_of p)) (linked_texts p s)) (values_of (need_steps p s))

-- the dynamic list, where there is one
unfoldable pub entries_read : Parts → Option SectionHeader → Option (Option (List Entry))
entries_read p None = Some None
entries_read p (Some s) = do
  entries ← each (shown_entry (length (file_of p)) (linked_texts p s)) (raw_entries p)
  Some (Some entries)

-- the interpreter's bytes, those of its section
abbrev pub interpreter_read : Parts → Option (List ℕ)
interpreter_read p = segment_of_type PT_INTERP p.segments >>= λ q. interpreter_section q p.sections >>= λ s. Some (section_bytes (file_of p) s)

-- the numbers from 0 on, as many as that
unfoldable pub counted : ℕ → List ℕ
counted zero = []
counted (suc n) = counted n ++ n ∷ []

-- the image of a file's parts, where each text is there
unfoldable pub image_in : Parts → Option Image
image_in p = do
  sections ← each (section_read p) p.sections
  symbols ← static_symbols p (section_of_type SHT_SYMTAB p.sections)
  dynamic_symbols ← dynamic_symbols_read p (section_of_type SHT_DYNSYM p.sections)
  entries ← entries_read p (section_of_type SHT_DYNAMIC p.sections)
  definitions ← definitions_read p (section_of_type SHT_GNU_VERDEF p.sections)
  needs ← needs_read p (section_of_type SHT_GNU_VERNEED p.sections)
  Some (record {
    source = file_of p;
    changed = false;
    form = p.opened.form;
    header = image_header p.opened.header;
    segments = p.segments;
    sections = sections;
    symbols = symbols;
    dynamic_symbols = dynamic_symbols;
    definitions = definitions;
    needs = needs;
    entries = entries;
    interpreter = interpreter_read p;
    section_numbers = counted (length sections);
    symbol_numbers = counted (length symbols);
    dynamic_symbol_numbers = counted (length dynamic_symbols);
    page_size = None;
    moves_dynamic = false;
  })

-- What reading a file answers: its image, or the fault of the first read rule that it breaks.
unfoldable pub image_of : List ℕ → Result Image ElfFault
image_of file = elim (accepted_parts file) [ Ok p ↦ there_or BadText (image_in p) | Err fault ↦ Err fault ]

-- ## What it shows

abbrev pub entry_tag : Entry → ℕ
entry_tag (Auto tag) = tag
entry_tag (Integer tag value) = tag
entry_tag (Text tag text) = tag

-- an entry with that tag is in the list
abbrev pub lists_tag : ℕ → List Entry → Bool
lists_tag tag entries = list_any (λ e. entry_tag e == tag) entries

abbrev pub shown_if : {A : Type 0} → Bool → A → Option A
shown_if true x = Some x
shown_if false x = None

-- symbols as a loader sees them: without versions where the list names no table of versions
abbrev pub seen_symbol : Bool → NamedSymbol → NamedSymbol
seen_symbol with_versions y = record y { version = if with_versions then y.version else None }

-- what an image shows besides the dynamic list and its tables
abbrev pub shown_outline : Image → View
shown_outline image = record {
  os_abi = image.header.os_abi;
  stack_flags = segment_of_type PT_GNU_STACK image.segments >>= (λ p. Some p.p_flags);
  interpreter = image.interpreter;
  entries = None;
  symbols = None;
  definitions = None;
  needs = None;
}

-- what an image shows, with these entries, and the tables that they name
abbrev pub shown_with_entries : Image → Option (List Entry) → View
shown_with_entries image es = record (shown_outline image) {
  entries = es;
  symbols = es >>= (λ entries. shown_if (lists_tag DT_SYMTAB entries) (map (seen_symbol (lists_tag DT_VERSYM entries)) image.dynamic_symbols));
  definitions = es >>= (λ entries. shown_if (lists_tag DT_VERDEF entries && lists_tag DT_VERDEFNUM entries) image.definitions);
  needs = es >>= (λ entries. shown_if (lists_tag DT_VERNEED entries && lists_tag DT_VERNEEDNUM entries) image.needs);
}

-- What an image shows.
abbrev pub shown : Image → View
shown image = shown_with_entries image image.entries

-- Every accepted file has an image, which shows what its section headers show and what a loader sees; every other
-- file is answered with the fault of the first read rule that it breaks.
pub record ImagesShow : Type 0 where
  pub there : (file : List ℕ) → fault_of file ≡ None → (image : Image) × (image_of file ≡ Ok image)
  pub accepted : (file : List ℕ) (image : Image) → image_of file ≡ Ok image → fault_of file ≡ None
  pub by_sections : (file : List ℕ) (image : Image) → image_of file ≡ Ok image → section_view file ≡ Some (shown image)
  pub by_loader : (file : List ℕ) (image : Image) → image_of file ≡ Ok image → loader_view file (dynamic_symbol_count file) ≡ Some (shown image)
  pub refused : (file : List ℕ) (fault : ElfFault) → image_of file ≡ Err fault → fault_of file ≡ Some fault
