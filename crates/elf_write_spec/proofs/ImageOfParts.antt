-- The image of a file, from what is read of each of its parts.
use Rattle.std.proofs.Common.{◌≡◌, ℕ, false, List, length, refl, sym, ap, ◌∙◌, Option, Some, None, Ok}
use Rattle.std.proofs.lemmas.Option.{same_Some}
use Rattle.elf_format.specs.declared.constants.TheConstants.{SHT_DYNAMIC, SHT_DYNSYM, SHT_GNU_VERDEF, SHT_GNU_VERNEED, SHT_SYMTAB}
use Rattle.elf_format.specs.declared.records.SectionHeader.{SectionHeader}
use Rattle.elf_format.specs.declared.records.SegmentHeader.{SegmentHeader}
use Rattle.elf_format.specs.Dynamic.{Entry}
use Rattle.elf_format.specs.File.{Opened, Parts, section_of_type, sections_of, segments_of}
use Rattle.elf_format.specs.Image.{Image, ImageSection, counted, definitions_read, dynamic_symbols_read, entries_read, image_header, image_in, image_of, interpreter_read, needs_read, section_read, static_symbols}
use Rattle.elf_format.specs.Options.{each}
use Rattle.elf_format.specs.Rules.{ArePartsOf, IsAcceptedWith, accepted_parts, file_of}
use Rattle.elf_format.specs.Versions.{VersionDefinition, VersionNeeds}
use Rattle.elf_format.specs.Views.{NamedSymbol}
use Rattle.elf_format.proofs.ForCallers.Accepted.{accepted, accepted_with}
use Rattle.elf_format.proofs.ForCallers.ImageShows.{image_from, images_show}

-- an image of these parts
abbrev pub image_by : Parts → List ImageSection → List NamedSymbol → List NamedSymbol → Option (List Entry) → List VersionDefinition
    → List VersionNeeds → Option (List ℕ) → Image
image_by p sections symbols dynamic_symbols entries definitions needs interpreter = record {
  source = file_of p;
  changed = false;
  form = p.opened.form;
  header = image_header p.opened.header;
  segments = p.segments;
  sections = sections;
  symbols = symbols;
  dynamic_symbols = dynamic_symbols;
  definitions = definitions;
  needs = needs;
  entries = entries;
  interpreter = interpreter;
  section_numbers = counted (length sections);
  symbol_numbers = counted (length symbols);
  dynamic_symbol_numbers = counted (length dynamic_symbols);
  page_size = None;
  moves_dynamic = false;
}

-- what is read of each part
pub record AreRead (p : Parts) (ss : List ImageSection) (ys ds : List NamedSymbol) (es : Option (List Entry)) (vs : List VersionDefinition)
    (ns : List VersionNeeds) (i : Option (List ℕ)) : Type 0 where
  pub sections : each (section_read p) p.sections ≡ Some ss
  pub symbols : static_symbols p (section_of_type SHT_SYMTAB p.sections) ≡ Some ys
  pub dynamic_symbols : dynamic_symbols_read p (section_of_type SHT_DYNSYM p.sections) ≡ Some ds
  pub entries : entries_read p (section_of_type SHT_DYNAMIC p.sections) ≡ Some es
  pub definitions : definitions_read p (section_of_type SHT_GNU_VERDEF p.sections) ≡ Some vs
  pub needs : needs_read p (section_of_type SHT_GNU_VERNEED p.sections) ≡ Some ns
  pub interpreter : interpreter_read p ≡ i

module _ (p : Parts) (ss : List ImageSection) (ys ds : List NamedSymbol) (es : Option (List Entry)) (vs : List VersionDefinition)
    (ns : List VersionNeeds) (i : Option (List ℕ)) (read : AreRead p ss ys ds es vs ns i) where
  pub image_made : image_in p ≡ Some (image_by p ss ys ds es vs ns i)
  unfolding image_in
  image_made =
      rw (read.sections, read.symbols, read.dynamic_symbols, read.entries, read.definitions, read.needs)
      (ap (λ n. Some (image_by p ss ys ds es vs ns n)) read.interpreter)

-- the parts of a file are no others
opened_by : (file : List ℕ) (p q : Parts) → ArePartsOf file p → ArePartsOf file q → p.opened ≡ q.opened
opened_by file p q ps qs = same_Some p.opened q.opened (sym ps.opened ∙ qs.opened)

parts_by : (file : List ℕ) (p q : Parts) → ArePartsOf file p → ArePartsOf file q → p ≡ q
parts_by file p q ps qs =
    let opened = opened_by file p q ps qs in
    let segments = same_Some p.segments q.segments (sym ps.segments ∙ ap segments_of opened ∙ qs.segments) in
    let sections = same_Some p.sections q.sections (sym ps.sections ∙ ap sections_of opened ∙ qs.sections) in
    make p.opened q.opened p.segments q.segments p.sections q.sections opened segments sections
  where
    parts : Opened → List SegmentHeader → List SectionHeader → Parts
    parts o s t = record { opened = o; segments = s; sections = t }

    make : (o o' : Opened) (s s' : List SegmentHeader) (t t' : List SectionHeader) → o ≡ o' → s ≡ s' → t ≡ t'
        → parts o s t ≡ parts o' s' t'
    make o o' s s' t t' a b c = cc

-- reading an accepted file answers the image of its parts
pub image_read : (file : List ℕ) (p : Parts) (image : Image) → IsAcceptedWith file p → image_in p ≡ Some image → image_of file ≡ Ok image
image_read file p image is made =
    let (other, there) = images_show.there file (accepted_with file p is) in
    let (q, accepts, made_of_q) = image_from file other there (accepted_parts file) refl in
    let (parts, _) = accepted file q accepts in
    let same : q ≡ p = parts_by file q p parts is.parts in
    let images : other ≡ image = same_Some other image (sym made_of_q ∙ ap image_in same ∙ made) in
    there ∙ ap Ok images
