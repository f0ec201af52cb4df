-- What an image holds that was read: the file's own parts, each with its name.
use Rattle.std.specs.Prelude.{ℕ, ◌≡◌, List, [], length, replicate, false, Option, Some, None, Ok}
use Rattle.std.specs.List.{slice_get}
use Rattle.patch_bytes.specs.Memory.{Memory, text_at}
use Rattle.elf_format.specs.declared.constants.TheConstants.{SHT_DYNAMIC, SHT_DYNSYM, SHT_GNU_VERDEF, SHT_GNU_VERNEED, SHT_GNU_VERSYM, SHT_SYMTAB}
use Rattle.elf_format.specs.declared.version_id.VersionId.{VersionId}
use Rattle.elf_format.specs.File.{Parts, linked_section, section_bytes, section_of_type}
use Rattle.elf_format.specs.Image.{Image, ImageSection, counted, definitions_read, entries_read, image_header, image_of, interpreter_read, needs_read, section_name, symbols_of, versions_read}
use Rattle.elf_format.specs.declared.records.SectionHeader.{SectionHeader}
use Rattle.elf_format.specs.declared.records.SymbolNumbers.{SymbolNumbers}
use Rattle.elf_format.specs.Rules.{ArePartsOf, MeetsRules, accepted_parts, data_of, dynamic_texts_of, file_of, texts_of}
use Rattle.elf_format.specs.Views.{NamedSymbol}
use Rattle.elf_image_symbols.specs.TableSymbols.{kept_as}

-- a section header's numbers, what its bytes are and the bytes themselves, under a name
abbrev pub section_with : Parts → SectionHeader → List ℕ → ImageSection
section_with p s name = record {
  name = name;
  kind = data_of p s;
  sh_type = s.sh_type;
  sh_flags = s.sh_flags;
  sh_addr = s.sh_addr;
  sh_offset = s.sh_offset;
  sh_size = s.sh_size;
  sh_link = s.sh_link;
  sh_info = s.sh_info;
  sh_addralign = s.sh_addralign;
  sh_entsize = s.sh_entsize;
  content = section_bytes (file_of p) s;
}

-- the section of a header: its name stands in the section of names
pub record IsSectionOf (p : Parts) (s : SectionHeader) (x : ImageSection) : Type 0 where
  pub name : section_name p s ≡ Some x.name
  pub fields : x ≡ section_with p s x.name

-- one section for each header, in their order
pub record AreSectionsOf (p : Parts) (sections : List ImageSection) : Type 0 where
  pub count : length sections ≡ length p.sections
  pub each : (i : ℕ) (x : ImageSection) → slice_get sections i ≡ Some x → (s : SectionHeader) × (slice_get p.sections i ≡ Some s) × IsSectionOf p s x

-- the symbol of a record: its name stands among these texts
pub record IsSymbolOf (room : ℕ) (texts : Memory) (y : SymbolNumbers) (version : Option VersionId) (x : NamedSymbol) : Type 0 where
  pub name : text_at room texts y.st_name ≡ Some x.name
  pub fields : x ≡ kept_as y version x.name

-- one symbol for each record, in their order, each with the version at its place
pub record AreSymbolsOf (room : ℕ) (texts : Memory) (records : List SymbolNumbers) (versions : List (Option VersionId)) (symbols : List NamedSymbol) : Type 0 where
  pub count : length symbols ≡ length records
  pub each : (i : ℕ) (x : NamedSymbol) → slice_get symbols i ≡ Some x
      → (y : SymbolNumbers) × (version : Option VersionId) × (slice_get records i ≡ Some y) × (slice_get versions i ≡ Some version) × IsSymbolOf room texts y version x

-- the symbols for a link editor: none without their section, else its records, without versions (gABI, Symbol Table)
abbrev pub AreStaticSymbols : Parts → Option SectionHeader → List NamedSymbol → Type 0
AreStaticSymbols p None symbols = symbols ≡ []
AreStaticSymbols p (Some s) symbols =
    AreSymbolsOf (length (file_of p)) (texts_of p (linked_section p.sections s)) (symbols_of p s) (replicate (length (symbols_of p s)) None) symbols

-- the symbols for a loader: none without their section, else its records, with versions where there is a section of
-- them (GNU symbol versioning)
abbrev pub AreDynamicSymbols : Parts → Option SectionHeader → Option SectionHeader → List NamedSymbol → Type 0
AreDynamicSymbols p versions None symbols = symbols ≡ []
AreDynamicSymbols p versions (Some s) symbols =
    AreSymbolsOf (length (file_of p)) (dynamic_texts_of p (linked_section p.sections s)) (symbols_of p s) (versions_read p versions (length (symbols_of p s))) symbols

-- The image holds all parts of the file.
pub record HoldsParts (p : Parts) (image : Image) : Type 0 where
  pub source : image.source ≡ file_of p
  pub changed : image.changed ≡ false
  pub form : image.form ≡ p.opened.form
  pub header : image.header ≡ image_header p.opened.header
  pub segments : image.segments ≡ p.segments
  pub sections : AreSectionsOf p image.sections
  pub symbols : AreStaticSymbols p (section_of_type SHT_SYMTAB p.sections) image.symbols
  pub dynamic_symbols : AreDynamicSymbols p (section_of_type SHT_GNU_VERSYM p.sections) (section_of_type SHT_DYNSYM p.sections) image.dynamic_symbols
  pub entries : entries_read p (section_of_type SHT_DYNAMIC p.sections) ≡ Some image.entries
  pub definitions : definitions_read p (section_of_type SHT_GNU_VERDEF p.sections) ≡ Some image.definitions
  pub needs : needs_read p (section_of_type SHT_GNU_VERNEED p.sections) ≡ Some image.needs
  pub interpreter : image.interpreter ≡ interpreter_read p
  pub section_numbers : image.section_numbers ≡ counted (length image.sections)
  pub symbol_numbers : image.symbol_numbers ≡ counted (length image.symbols)
  pub dynamic_symbol_numbers : image.dynamic_symbol_numbers ≡ counted (length image.dynamic_symbols)
  pub page_size : image.page_size ≡ None

-- The image of an accepted file holds its parts, of which each read rule is true.
abbrev pub ReadImagesHoldParts : Type 0
ReadImagesHoldParts =
    (file : List ℕ) (image : Image) → image_of file ≡ Ok image → (p : Parts) × (accepted_parts file ≡ Ok p) × ArePartsOf file p × MeetsRules p × HoldsParts p image
