-- The image of a file in groups of its parts, and what the last stages of reading answer.
use Rattle.std.specs.Prelude.{ℕ, ◌≡◌, ◌≢◌, ◌⊎◌, List, MatchResult, map, length, false, Option, Some, None, Result, Ok, Err, option_map}
use Rattle.std.specs.Global.{Vec}
use Rattle.patch_bytes.specs.Memory.{◌>>=◌}
use Rattle.elf_format.specs.declared.constants.TheConstants.{SHT_DYNAMIC, SHT_DYNSYM, SHT_GNU_VERDEF, SHT_GNU_VERNEED, SHT_SYMTAB}
use Rattle.elf_format.specs.declared.fault.ElfFault.{ElfFault}
use Rattle.elf_format.specs.declared.fault.ElfFault.TheVariants.{BadText, Memory}
use Rattle.elf_format.specs.declared.section_data.SectionData.{SectionData}
use Rattle.elf_format.specs.Dynamic.{Entry}
use Rattle.elf_format.specs.File.{Parts, section_of_type}
use Rattle.elf_format.specs.Image.{Image, ImageSection, counted, definitions_read, dynamic_symbols_read, entries_read, image_header, image_of, interpreter_read, needs_read, section_read, static_symbols}
use Rattle.elf_format.specs.Options.{each}
use Rattle.elf_format.specs.Rules.{checked, data_of, file_of, there_or}
use Rattle.elf_format.specs.Stages.{last_rules, link_rules, parts_read}
use Rattle.elf_format.specs.Versions.{VersionDefinition, VersionNeeds}
use Rattle.elf_format.specs.Views.{NamedSymbol}
use Rattle.elf_image_versions.specs.Read.{Refuses}
use Rattle.elf_image.specs.declared.read.Gathered.{Gathered}
use Rattle.elf_image.specs.declared.read.Listed.{Listed}
use Rattle.elf_image.specs.declared.read.Named.{Named}
use Rattle.elf_image.specs.ImageModel.{definition_model, entry_model, needs_model, section_model, segment_model, text_model}

-- the sections and symbols of an image
pub record NamedParts : Type 0 where
  pub sections : List ImageSection
  pub symbols : List NamedSymbol
  pub dynamic_symbols : List NamedSymbol

unfoldable pub named_in : Parts → Option NamedParts
named_in p = do
  sections ← each (section_read p) p.sections
  symbols ← static_symbols p (section_of_type SHT_SYMTAB p.sections)
  dynamic_symbols ← dynamic_symbols_read p (section_of_type SHT_DYNSYM p.sections)
  Some (record { sections = sections; symbols = symbols; dynamic_symbols = dynamic_symbols })

abbrev pub named_model : Named → NamedParts
named_model n = record { sections = map section_model n.sections.items; symbols = n.lists.symbols; dynamic_symbols = n.lists.dynamic_symbols }

-- the dynamic list and the versions of an image
pub record ListedParts : Type 0 where
  pub entries : Option (List Entry)
  pub definitions : List VersionDefinition
  pub needs : List VersionNeeds

unfoldable pub listed_in : Parts → Option ListedParts
listed_in p = do
  entries ← entries_read p (section_of_type SHT_DYNAMIC p.sections)
  definitions ← definitions_read p (section_of_type SHT_GNU_VERDEF p.sections)
  needs ← needs_read p (section_of_type SHT_GNU_VERNEED p.sections)
  Some (record { entries = entries; definitions = definitions; needs = needs })

abbrev pub listed_model : Listed → ListedParts
listed_model l = record { entries = option_map (λ list. map entry_model list.items) l.dynamic; definitions = map definition_model l.versions.definitions.items; needs = map needs_model l.versions.needs.items }

-- the image that has these parts
abbrev pub image_with : Parts → NamedParts → ListedParts → Image
image_with p n l = record {
  source = file_of p;
  changed = false;
  form = p.opened.form;
  header = image_header p.opened.header;
  segments = p.segments;
  sections = n.sections;
  symbols = n.symbols;
  dynamic_symbols = n.dynamic_symbols;
  definitions = l.definitions;
  needs = l.needs;
  entries = l.entries;
  interpreter = interpreter_read p;
  section_numbers = counted (length n.sections);
  symbol_numbers = counted (length n.symbols);
  dynamic_symbol_numbers = counted (length n.dynamic_symbols);
  page_size = None;
  moves_dynamic = false;
}

-- the image that has these parts of a file, as they are kept
abbrev pub image_built : Parts → Named → Listed → Image
image_built p n l = image_with p (named_model n) (listed_model l)

-- the image, group by group
unfoldable pub image_by_groups : Parts → Option Image
image_by_groups p = do
  named ← named_in p
  listed ← listed_in p
  Some (image_with p named listed)

-- the rules on links hold and each section's kind is told, or the first fault
abbrev pub LinksRead : Parts → Result (Vec SectionData) ElfFault → Type 0
LinksRead p (Ok kinds) = (checked link_rules p ≡ Ok p) × (kinds.items ≡ map (data_of p) p.sections)
LinksRead p (Err e) = Refuses e (checked link_rules p)

-- the image that has these parts, as far as they are kept apart
abbrev pub image_gathered : Parts → Gathered → Image
image_gathered p g = record {
  source = file_of p;
  changed = false;
  form = p.opened.form;
  header = image_header p.opened.header;
  segments = map segment_model g.segments.items;
  sections = map section_model g.named.sections.items;
  symbols = g.named.lists.symbols;
  dynamic_symbols = g.named.lists.dynamic_symbols;
  definitions = map definition_model g.listed.versions.definitions.items;
  needs = map needs_model g.listed.versions.needs.items;
  entries = option_map (λ list. map entry_model list.items) g.listed.dynamic;
  interpreter = text_model g.interpreter;
  section_numbers = g.section_numbers.items;
  symbol_numbers = counted (length g.named.lists.symbols);
  dynamic_symbol_numbers = counted (length g.named.lists.dynamic_symbols);
  page_size = None;
  moves_dynamic = false;
}

-- the image, seen by view, and that the last rules hold; or that a text isn't there, or the first fault of those rules
abbrev pub TextsRead : {X : Type 0} → (X → Image) → Parts → Result X ElfFault → Type 0
TextsRead view p (Ok x) = (there_or BadText (image_by_groups p) ≡ Ok (view x)) × (checked last_rules p ≡ Ok p)
TextsRead view p (Err e) = Refuses e (there_or BadText (image_by_groups p)) ⊎ ((image : Image) × (there_or BadText (image_by_groups p) ≡ Ok image) × Refuses e (checked last_rules p))

-- the image of a file that has these parts, seen by view, or the first fault of the rules on them
abbrev pub ImageRead : {X : Type 0} → (X → Image) → Parts → Result X ElfFault → Type 0
ImageRead view p result = (file : List ℕ) → parts_read file ≡ Ok p
    → MatchResult result (λ x. image_of file ≡ Ok (view x)) (λ e. e ≢ Memory → image_of file ≡ Err e)
