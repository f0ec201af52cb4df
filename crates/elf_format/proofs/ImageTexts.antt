-- The image of a file's parts is there exactly where all its texts are, and what it is made of then.
use Rattle.std.proofs.Common.{◌≡◌, List, [], ◌∷◌, length, refl, sym, ap, ◌∙◌, subst, Option, Some, None, false}
use Rattle.std.specs.Prelude.{◌&&◌, is_some}
use Rattle.std.proofs.lemmas.Option.{same_Some}
use Rattle.patch_bytes.specs.Memory.{◌>>=◌}
use Rattle.patch_bytes.proofs.MemoryLaws.{bind_some}
use Rattle.elf_format.specs.declared.constants.TheConstants.{SHT_DYNAMIC, SHT_DYNSYM, SHT_GNU_VERDEF, SHT_GNU_VERNEED, SHT_SYMTAB}
use Rattle.elf_format.specs.Dynamic.{Entry, shown_entry}
use Rattle.elf_format.specs.File.{Parts, linked_section, section_of_type}
use Rattle.elf_format.specs.Image.{Image, ImageSection, counted, definitions_read, dynamic_symbols_read, entries_read, image_header, image_in, interpreter_read, needs_read, section_name, section_read, shown_outline, static_symbols, symbols_of}
use Rattle.elf_format.specs.Options.{each, is_none_or}
use Rattle.elf_format.specs.Records.{SectionHeader}
use Rattle.elf_format.specs.Rules.{do_texts_end, dynamic_texts_of, entry_texts_end, definition_texts_end, definition_steps, file_of, linked_texts, need_steps, raw_entries, section_names_end, symbols_are_named, texts_of}
use Rattle.elf_format.specs.Versions.{VersionDefinition, VersionNeeds, shown_definition, shown_need, values_of}
use Rattle.elf_format.specs.Views.{NamedSymbol, names_of, outline_of}

-- ## Steps that are there

-- a last step that always is there
there_made : {A B : Type 0} → (o : Option A) (make : A → B) → is_some (o >>= λ x. Some (make x)) ≡ is_some o
there_made None make = refl
there_made (Some x) make = refl

-- six steps are there where each of them is
six_there : {A B C D E F G : Type 0} → (a : Option A) (b : Option B) (c : Option C) (d : Option D) (e : Option E) (f : Option F) (make : A → B → C → D → E → F → G)
    → is_some (a >>= λ x. b >>= λ y. c >>= λ z. d >>= λ u. e >>= λ v. f >>= λ w. Some (make x y z u v w)) ≡ (is_some a && is_some b && is_some c && is_some d && is_some e && is_some f)
six_there None b c d e f make = refl
six_there (Some x) None c d e f make = refl
six_there (Some x) (Some y) None d e f make = refl
six_there (Some x) (Some y) (Some z) None e f make = refl
six_there (Some x) (Some y) (Some z) (Some u) None f make = refl
six_there (Some x) (Some y) (Some z) (Some u) (Some v) None make = refl
six_there (Some x) (Some y) (Some z) (Some u) (Some v) (Some w) make = refl

-- an element and the rest are there
cons_there : {B : Type 0} → (o : Option B) (rest : Option (List B)) → is_some (o >>= λ y. rest >>= λ ys. Some (y ∷ ys)) ≡ (is_some o && is_some rest)
cons_there None rest = refl
cons_there (Some y) None = refl
cons_there (Some y) (Some ys) = refl

-- lists of values that are there for the same elements
each_there : {A B C : Type 0} → (f : A → Option B) (g : A → Option C) → ((x : A) → is_some (f x) ≡ is_some (g x)) → (xs : List A) → is_some (each f xs) ≡ is_some (each g xs)
unfolding each
each_there f g same [] = refl
each_there f g same (x ∷ xs) =
    cons_there (f x) (each f xs) ∙ ap (λ b. b && is_some (each f xs)) (same x) ∙ ap (λ b. is_some (g x) && b) (each_there f g same xs)
    ∙ sym (cons_there (g x) (each g xs))

-- ## The parts of an image

section_there : (p : Parts) (s : SectionHeader) → is_some (section_read p s) ≡ is_some (section_name p s)
unfolding section_read
section_there p s = there_made (section_name p s) _

sections_named : (p : Parts) → is_some (each (section_read p) p.sections) ≡ section_names_end p
sections_named p = each_there (section_read p) (section_name p) (section_there p) p.sections

symbols_named : (p : Parts) (o : Option SectionHeader)
    → is_some (static_symbols p o) ≡ is_none_or (λ s. is_some (names_of (length (file_of p)) (texts_of p (linked_section p.sections s)) (symbols_of p s))) o
unfolding static_symbols
symbols_named p None = refl
symbols_named p (Some s) = there_made (names_of (length (file_of p)) (texts_of p (linked_section p.sections s)) (symbols_of p s)) _

dynamic_named : (p : Parts) (o : Option SectionHeader)
    → is_some (dynamic_symbols_read p o) ≡ is_none_or (λ s. is_some (names_of (length (file_of p)) (dynamic_texts_of p (linked_section p.sections s)) (symbols_of p s))) o
unfolding dynamic_symbols_read
dynamic_named p None = refl
dynamic_named p (Some s) = there_made (names_of (length (file_of p)) (dynamic_texts_of p (linked_section p.sections s)) (symbols_of p s)) _

entries_texted : (p : Parts) (o : Option SectionHeader) → is_some (entries_read p o) ≡ is_none_or (λ s. is_some (each (shown_entry (length (file_of p)) (linked_texts p s)) (raw_entries p))) o
unfolding entries_read
entries_texted p None = refl
entries_texted p (Some s) = there_made (each (shown_entry (length (file_of p)) (linked_texts p s)) (raw_entries p)) Some

definitions_texted : (p : Parts) (o : Option SectionHeader)
    → is_some (definitions_read p o) ≡ is_none_or (λ s. is_some (each (shown_definition (length (file_of p)) (linked_texts p s)) (values_of (definition_steps p s)))) o
unfolding definitions_read
definitions_texted p None = refl
definitions_texted p (Some s) = refl

needs_texted : (p : Parts) (o : Option SectionHeader) → is_some (needs_read p o) ≡ is_none_or (λ s. is_some (each (shown_need (length (file_of p)) (linked_texts p s)) (values_of (need_steps p s)))) o
unfolding needs_read
needs_texted p None = refl
needs_texted p (Some s) = refl

-- an image by its parts
image_by : Parts → List ImageSection → List NamedSymbol → List NamedSymbol → Option (List Entry) → List VersionDefinition → List VersionNeeds → Image
image_by p sections symbols dynamic_symbols entries definitions needs = record {
  source = file_of p;
  changed = false;
  form = p.opened.form;
  header = image_header p.opened.header;
  segments = p.segments;
  sections = sections;
  symbols = symbols;
  dynamic_symbols = dynamic_symbols;
  definitions = definitions;
  needs = needs;
  entries = entries;
  interpreter = interpreter_read p;
  section_numbers = counted (length sections);
  symbol_numbers = counted (length symbols);
  dynamic_symbol_numbers = counted (length dynamic_symbols);
  page_size = None;
  moves_dynamic = false;
}

module _ (p : Parts) where
  sections : Option (List ImageSection)
  sections = each (section_read p) p.sections

  symbols : Option (List NamedSymbol)
  symbols = static_symbols p (section_of_type SHT_SYMTAB p.sections)

  dynamic_symbols : Option (List NamedSymbol)
  dynamic_symbols = dynamic_symbols_read p (section_of_type SHT_DYNSYM p.sections)

  entries : Option (Option (List Entry))
  entries = entries_read p (section_of_type SHT_DYNAMIC p.sections)

  definitions : Option (List VersionDefinition)
  definitions = definitions_read p (section_of_type SHT_GNU_VERDEF p.sections)

  needs : Option (List VersionNeeds)
  needs = needs_read p (section_of_type SHT_GNU_VERNEED p.sections)

  by_parts : image_in p ≡ (sections >>= λ ss. symbols >>= λ ys. dynamic_symbols >>= λ ds. entries >>= λ es. definitions >>= λ vs. needs >>= λ ns. Some (image_by p ss ys ds es vs ns))
  unfolding image_in sections symbols dynamic_symbols entries definitions needs image_by
  by_parts = refl

  -- the image is there exactly where the rule on texts holds
  pub texts_there : is_some (image_in p) ≡ do_texts_end p
  unfolding sections symbols dynamic_symbols entries definitions needs
  texts_there =
      ap is_some by_parts
      ∙ six_there sections symbols dynamic_symbols entries definitions needs (image_by p)
      ∙ ap (λ b. b && is_some symbols && is_some dynamic_symbols && is_some entries && is_some definitions && is_some needs) (sections_named p)
      ∙ ap (λ b. section_names_end p && b && is_some dynamic_symbols && is_some entries && is_some definitions && is_some needs) (symbols_named p (section_of_type SHT_SYMTAB p.sections))
      ∙ ap (λ b. section_names_end p && symbols_are_named p (texts_of p) SHT_SYMTAB && b && is_some entries && is_some definitions && is_some needs) (dynamic_named p (section_of_type SHT_DYNSYM p.sections))
      ∙ ap (λ b. section_names_end p && symbols_are_named p (texts_of p) SHT_SYMTAB && symbols_are_named p (dynamic_texts_of p) SHT_DYNSYM && b && is_some definitions && is_some needs)
      (entries_texted p (section_of_type SHT_DYNAMIC p.sections))
      ∙ ap (λ b. section_names_end p && symbols_are_named p (texts_of p) SHT_SYMTAB && symbols_are_named p (dynamic_texts_of p) SHT_DYNSYM && entry_texts_end p && b && is_some needs)
      (definitions_texted p (section_of_type SHT_GNU_VERDEF p.sections))
      ∙ ap (λ b. section_names_end p && symbols_are_named p (texts_of p) SHT_SYMTAB && symbols_are_named p (dynamic_texts_of p) SHT_DYNSYM && entry_texts_end p && definition_texts_end p && b)
      (needs_texted p (section_of_type SHT_GNU_VERNEED p.sections))

-- What an image of parts has, what of it is shown, and its numbers at read.
pub record IsImageOf (p : Parts) (image : Image) : Type 0 where
  pub source : image.source ≡ file_of p
  pub changed : image.changed ≡ false
  pub form : image.form ≡ p.opened.form
  pub header : image.header ≡ image_header p.opened.header
  pub segments : image.segments ≡ p.segments
  pub sections : each (section_read p) p.sections ≡ Some image.sections
  pub symbols : static_symbols p (section_of_type SHT_SYMTAB p.sections) ≡ Some image.symbols
  pub interpreter : image.interpreter ≡ interpreter_read p
  pub page_size : image.page_size ≡ None
  pub outline : shown_outline image ≡ outline_of p.opened p.segments (interpreter_read p)
  pub dynamic_symbols : dynamic_symbols_read p (section_of_type SHT_DYNSYM p.sections) ≡ Some image.dynamic_symbols
  pub entries : entries_read p (section_of_type SHT_DYNAMIC p.sections) ≡ Some image.entries
  pub definitions : definitions_read p (section_of_type SHT_GNU_VERDEF p.sections) ≡ Some image.definitions
  pub needs : needs_read p (section_of_type SHT_GNU_VERNEED p.sections) ≡ Some image.needs
  pub section_numbers : image.section_numbers ≡ counted (length image.sections)
  pub symbol_numbers : image.symbol_numbers ≡ counted (length image.symbols)
  pub dynamic_symbol_numbers : image.dynamic_symbol_numbers ≡ counted (length image.dynamic_symbols)

pub image_made : (p : Parts) (image : Image) → image_in p ≡ Some image → IsImageOf p image
unfolding sections symbols dynamic_symbols entries definitions needs image_by
image_made p image h =
    let make : List ImageSection → List NamedSymbol → List NamedSymbol → Option (List Entry) → List VersionDefinition → List VersionNeeds → Image = image_by p in
    let (ss, ss_there, h1) = bind_some (sections p) (λ ss. symbols p >>= λ ys. dynamic_symbols p >>= λ ds. entries p >>= λ es. definitions p >>= λ vs. needs p >>= λ ns. Some (make ss ys ds es vs ns)) image (sym (by_parts p) ∙ h) in
    let (ys, ys_there, h2) = bind_some (symbols p) (λ ys. dynamic_symbols p >>= λ ds. entries p >>= λ es. definitions p >>= λ vs. needs p >>= λ ns. Some (make ss ys ds es vs ns)) image h1 in
    let (ds, ds_there, h3) = bind_some (dynamic_symbols p) (λ ds. entries p >>= λ es. definitions p >>= λ vs. needs p >>= λ ns. Some (make ss ys ds es vs ns)) image h2 in
    let (es, es_there, h4) = bind_some (entries p) (λ es. definitions p >>= λ vs. needs p >>= λ ns. Some (make ss ys ds es vs ns)) image h3 in
    let (vs, vs_there, h5) = bind_some (definitions p) (λ vs. needs p >>= λ ns. Some (make ss ys ds es vs ns)) image h4 in
    let (ns, ns_there, h6) = bind_some (needs p) (λ ns. Some (make ss ys ds es vs ns)) image h5 in
    let same : make ss ys ds es vs ns ≡ image = same_Some (make ss ys ds es vs ns) image h6 in
    record {
      source = ap (λ i. i.source) (sym same);
      changed = ap (λ i. i.changed) (sym same);
      form = ap (λ i. i.form) (sym same);
      header = ap (λ i. i.header) (sym same);
      segments = ap (λ i. i.segments) (sym same);
      sections = ss_there ∙ ap (λ i. Some i.sections) same;
      symbols = ys_there ∙ ap (λ i. Some i.symbols) same;
      interpreter = ap (λ i. i.interpreter) (sym same);
      page_size = ap (λ i. i.page_size) (sym same);
      outline = ap shown_outline (sym same);
      dynamic_symbols = ds_there ∙ ap (λ i. Some i.dynamic_symbols) same;
      entries = es_there ∙ ap (λ i. Some i.entries) same;
      definitions = vs_there ∙ ap (λ i. Some i.definitions) same;
      needs = ns_there ∙ ap (λ i. Some i.needs) same;
      section_numbers = subst (λ i. i.section_numbers ≡ counted (length i.sections)) same refl;
      symbol_numbers = subst (λ i. i.symbol_numbers ≡ counted (length i.symbols)) same refl;
      dynamic_symbol_numbers = subst (λ i. i.dynamic_symbol_numbers ≡ counted (length i.dynamic_symbols)) same refl;
    }
