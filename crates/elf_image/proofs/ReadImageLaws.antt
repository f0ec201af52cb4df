-- The image of an accepted file holds its parts.
use Rattle.std.proofs.Common.{◌≡◌, ℕ, zero, suc, List, ◌∷◌, length, replicate, refl, sym, ap, ◌∙◌, subst, Option, Some, None, arith, []}
use Rattle.std.specs.List.{slice_get}
use Rattle.std.proofs.lemmas.List.{length-replicate}
use Rattle.std.proofs.lemmas.Option.{none-some, same_Some}
use Rattle.patch_bytes.specs.Memory.{◌>>=◌, Memory, text_at}
use Rattle.patch_bytes.proofs.MemoryLaws.{bind_some}
use Rattle.elf_format.specs.declared.constants.TheConstants.{SHT_DYNSYM, SHT_GNU_VERSYM, SHT_SYMTAB}
use Rattle.elf_format.specs.declared.records.SectionHeader.{SectionHeader}
use Rattle.elf_format.specs.declared.records.SymbolNumbers.{SymbolNumbers}
use Rattle.elf_format.specs.declared.version_id.VersionId.{VersionId}
use Rattle.elf_format.specs.File.{Parts, linked_section, section_of_type}
use Rattle.elf_format.specs.Image.{Image, ImageSection, dynamic_symbols_read, image_in, section_name, section_read, static_symbols, symbols_of, versions_read}
use Rattle.elf_format.specs.Options.{each}
use Rattle.elf_format.specs.Rules.{accepted_parts, dynamic_texts_of, file_of, texts_of}
use Rattle.elf_format.specs.Views.{NamedSymbol, named_symbols, names_of}
use Rattle.elf_format.proofs.ForCallers.ImageShows.{image_from}
use Rattle.elf_format.proofs.ForCallers.Accepted.{accepted}
use Rattle.elf_image.specs.ReadImage.{AreDynamicSymbols, AreSectionsOf, AreStaticSymbols, AreSymbolsOf, HoldsParts, IsSectionOf, IsSymbolOf, ReadImagesHoldParts, section_with}
use Rattle.elf_image_symbols.specs.TableSymbols.{kept_as}
use Rattle.elf_format.proofs.ForCallers.Lengths.{length-versions_read}
use Rattle.elf_format.proofs.ForCallers.ImageTexts.{image_made}

-- ## Values that are there one by one

pub length-each : {A B : Type 0} → (f : A → Option B) (xs : List A) (ys : List B) → each f xs ≡ Some ys → length ys ≡ length xs
unfolding each
length-each f [] ys h = ap length (sym (same_Some [] ys h))
length-each f (x ∷ xs) ys h =
    let (z, _, more) = bind_some (f x) (λ z. each f xs >>= λ zs. Some (z ∷ zs)) ys h in
    let (zs, zs_there, made) = bind_some (each f xs) (λ zs. Some (z ∷ zs)) ys more in
    ap length (sym (same_Some (z ∷ zs) ys made)) ∙ ap suc (length-each f xs zs zs_there)

pub each-at : {A B : Type 0} → (f : A → Option B) (xs : List A) (ys : List B) → each f xs ≡ Some ys → (i : ℕ) (y : B) → slice_get ys i ≡ Some y → (x : A) × (slice_get xs i ≡ Some x) × (f x ≡ Some y)
unfolding each
each-at {A} {B} f [] ys h i y at = absurd (none-some y (ap (λ (l : List B). slice_get l i) (same_Some [] ys h) ∙ at))
each-at {A} {B} f (x ∷ xs) ys h zero y at =
    let (z, z_there, more) = bind_some (f x) (λ z. each f xs >>= λ zs. Some (z ∷ zs)) ys h in
    let (zs, zs_there, made) = bind_some (each f xs) (λ zs. Some (z ∷ zs)) ys more in
    let here : Some z ≡ Some y = ap (λ (l : List B). slice_get l zero) (same_Some (z ∷ zs) ys made) ∙ at in
    (x, refl, z_there ∙ here)
each-at {A} {B} f (x ∷ xs) ys h (suc i) y at =
    let (z, z_there, more) = bind_some (f x) (λ z. each f xs >>= λ zs. Some (z ∷ zs)) ys h in
    let (zs, zs_there, made) = bind_some (each f xs) (λ zs. Some (z ∷ zs)) ys more in
    each-at f xs zs zs_there i y (ap (λ (l : List B). slice_get l (suc i)) (same_Some (z ∷ zs) ys made) ∙ at)

-- ## Sections

section_is : (p : Parts) (s : SectionHeader) (x : ImageSection) → section_read p s ≡ Some x → IsSectionOf p s x
unfolding section_read
section_is p s x h =
    let (name, there, made) = bind_some (section_name p s) (λ n. Some (section_with p s n)) x h in
    let same : section_with p s name ≡ x = same_Some (section_with p s name) x made in
    record {
      name = there ∙ ap (λ (y : ImageSection). Some y.name) same;
      fields = sym same ∙ ap (λ (y : ImageSection). section_with p s y.name) same;
    }

sections_are : (p : Parts) (sections : List ImageSection) → each (section_read p) p.sections ≡ Some sections → AreSectionsOf p sections
sections_are p sections h = record {
  count = length-each (section_read p) p.sections sections h;
  each = λ i x at.
      let (s, here, read) = each-at (section_read p) p.sections sections h i x at in
      (s, here, section_is p s x read);
}

-- ## Symbols

module _ (room : ℕ) (texts : Memory) where
  text_of : SymbolNumbers → Option (List ℕ)
  text_of y = text_at room texts y.st_name

  length-named : (ys : List SymbolNumbers) (names : List (List ℕ)) (versions : List (Option VersionId)) → length names ≡ length ys → length versions ≡ length ys → length (named_symbols ys names versions) ≡ length ys
  unfolding named_symbols
  length-named [] names versions h g = refl
  length-named (y ∷ ys) [] versions h g = absurd (omega arith)
  length-named (y ∷ ys) (name ∷ names) [] h g = absurd (omega arith)
  length-named (y ∷ ys) (name ∷ names) (v ∷ versions) h g = ap suc (length-named ys names versions (omega arith) (omega arith))

  named-at : (ys : List SymbolNumbers) (names : List (List ℕ)) (versions : List (Option VersionId)) → each text_of ys ≡ Some names → (i : ℕ) (x : NamedSymbol)
      → slice_get (named_symbols ys names versions) i ≡ Some x
      → (y : SymbolNumbers) × (version : Option VersionId) × (slice_get ys i ≡ Some y) × (slice_get versions i ≡ Some version) × IsSymbolOf room texts y version x
  unfolding named_symbols each text_of
  named-at [] names versions h i x at = absurd (none-some x at)
  named-at (y ∷ ys) [] versions h i x at = absurd (none-some x at)
  named-at (y ∷ ys) (name ∷ names) [] h i x at = absurd (none-some x at)
  named-at (y ∷ ys) (name ∷ names) (v ∷ versions) h zero x at =
      let (z, z_there, more) = bind_some (text_of y) (λ z. each text_of ys >>= λ zs. Some (z ∷ zs)) (name ∷ names) h in
      let (zs, zs_there, made) = bind_some (each text_of ys) (λ zs. Some (z ∷ zs)) (name ∷ names) more in
      let first : z ≡ name = cc in
      let same : kept_as y v name ≡ x = same_Some (kept_as y v name) x at in (
        y,
        v,
        refl,
        refl,
        record {
          name = z_there ∙ ap Some first ∙ ap (λ (q : NamedSymbol). Some q.name) same;
          fields = sym same ∙ ap (λ (q : NamedSymbol). kept_as y v q.name) same;
        },
      )
  named-at (y ∷ ys) (name ∷ names) (v ∷ versions) h (suc i) x at =
      let (z, z_there, more) = bind_some (text_of y) (λ z. each text_of ys >>= λ zs. Some (z ∷ zs)) (name ∷ names) h in
      let (zs, zs_there, made) = bind_some (each text_of ys) (λ zs. Some (z ∷ zs)) (name ∷ names) more in
      let others : zs ≡ names = cc in
      named-at ys names versions (zs_there ∙ ap Some others) i x at

  symbols_are : (ys : List SymbolNumbers) (versions : List (Option VersionId)) (symbols : List NamedSymbol) → length versions ≡ length ys
      → (names_of room texts ys >>= λ names. Some (named_symbols ys names versions)) ≡ Some symbols → AreSymbolsOf room texts ys versions symbols
  unfolding text_of
  symbols_are ys versions symbols long h =
      let (names, there, made) = bind_some (names_of room texts ys) (λ ns. Some (named_symbols ys ns versions)) symbols h in
      let same : named_symbols ys names versions ≡ symbols = same_Some (named_symbols ys names versions) symbols made in
      subst (λ (l : List NamedSymbol). AreSymbolsOf room texts ys versions l) same (record {
        count = length-named ys names versions (length-each text_of ys names there) long;
        each = named-at ys names versions there;
      })

static_are : (p : Parts) (o : Option SectionHeader) (symbols : List NamedSymbol) → static_symbols p o ≡ Some symbols → AreStaticSymbols p o symbols
unfolding static_symbols
static_are p None symbols h = sym (same_Some [] symbols h)
static_are p (Some s) symbols h =
    symbols_are (length (file_of p)) (texts_of p (linked_section p.sections s)) (symbols_of p s) (replicate (length (symbols_of p s)) None) symbols (length-replicate (length (symbols_of p s)) None) h

dynamic_are : (p : Parts) (o : Option SectionHeader) (symbols : List NamedSymbol) → dynamic_symbols_read p o ≡ Some symbols → AreDynamicSymbols p (section_of_type SHT_GNU_VERSYM p.sections) o symbols
unfolding dynamic_symbols_read
dynamic_are p None symbols h = sym (same_Some [] symbols h)
dynamic_are p (Some s) symbols h =
    symbols_are (length (file_of p)) (dynamic_texts_of p (linked_section p.sections s)) (symbols_of p s) (versions_read p (section_of_type SHT_GNU_VERSYM p.sections) (length (symbols_of p s))) symbols
    (length-versions_read p (section_of_type SHT_GNU_VERSYM p.sections) (length (symbols_of p s))) h

-- ## All parts

holds_parts : (p : Parts) (image : Image) → image_in p ≡ Some image → HoldsParts p image
holds_parts p image h =
    let made = image_made p image h in
    record {
      source = made.source;
      changed = made.changed;
      form = made.form;
      header = made.header;
      segments = made.segments;
      sections = sections_are p image.sections made.sections;
      symbols = static_are p (section_of_type SHT_SYMTAB p.sections) image.symbols made.symbols;
      dynamic_symbols = dynamic_are p (section_of_type SHT_DYNSYM p.sections) image.dynamic_symbols made.dynamic_symbols;
      entries = made.entries;
      definitions = made.definitions;
      needs = made.needs;
      interpreter = made.interpreter;
      section_numbers = made.section_numbers;
      symbol_numbers = made.symbol_numbers;
      dynamic_symbol_numbers = made.dynamic_symbol_numbers;
      page_size = made.page_size;
    }

-- the law
pub read_images_hold_parts : ReadImagesHoldParts
read_images_hold_parts file image h =
    let (p, there, made) = image_from file image h (accepted_parts file) refl in
    let (parts, rules) = accepted file p there in
    (p, there, parts, rules, holds_parts p image made)
