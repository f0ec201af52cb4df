-- An image that was read is one that was edited in no way.
use Rattle.std.proofs.Common.{◌≡◌, ◌≢◌, ℕ, zero, suc, ◌+◌, ◌<◌, Bool, true, false, cond, List, ◌∷◌, length, refl, sym, ap, ◌∙◌, subst, inl, Option, Some, None, Ok, All, arith, []}
use Rattle.std.specs.Prelude.{◌==◌, ◌||◌, if◌then◌else◌, slice_index, unwrap_or}
use Rattle.std.specs.List.{slice_get}
use Rattle.std.proofs.lemmas.Bool.{cond_both, ne_eqb, or_from, not_from_false, true≢false}
use Rattle.std.proofs.lemmas.List.{append-nil}
use Rattle.std.proofs.lemmas.List.Elements.{All-cons, All-nil}
use Rattle.std.proofs.lemmas.Option.{none-some, same_Some, slice_get_within}
use Rattle.patch_bytes.specs.Memory.{◌>>=◌, Memory, bytes_at, text_at}
use Rattle.patch_bytes.proofs.MemoryLaws.{bind_some}
use Rattle.elf_format.specs.declared.constants.TheConstants.{PT_GNU_STACK, PT_LOAD, SHT_DYNAMIC, SHT_DYNSYM, SHT_GNU_VERSYM, SHT_SYMTAB}
use Rattle.elf_format.specs.declared.records.EntryNumbers.{EntryNumbers}
use Rattle.elf_format.specs.declared.records.SectionHeader.{SectionHeader}
use Rattle.elf_format.specs.declared.records.SegmentHeader.{SegmentHeader}
use Rattle.elf_format.specs.Dynamic.{Auto, Entry, Integer, Text, entries_at, shown_entry, table_tags, text_tags}
use Rattle.elf_format.specs.File.{Parts, linked_section, section_of_type}
use Rattle.elf_format.specs.declared.form.Form.{Form}
use Rattle.elf_format.specs.Image.{Image, ImageSection, counted, entries_read, image_of}
use Rattle.elf_format.specs.Options.{each, is_one_of}
use Rattle.elf_format.specs.Records.{entry_numbers, entry_size}
use Rattle.elf_format.specs.Rules.{ArePartsOf, MeetsRules, dynamic_texts_of, file_of, linked_texts, raw_entries, texts_of}
use Rattle.elf_format.specs.Versions.{VersionNeeds}
use Rattle.elf_format.specs.Views.{NamedSymbol, section_memory}
use Rattle.elf_image_headers.specs.DynamicList.{IsListed, holds_nul}
use Rattle.elf_image.proofs.Unclaimed.{none_went}
use Rattle.elf_image_headers.specs.Segments.{loads_end}
use Rattle.elf_image.specs.Edited.{AreEntriesOf, AreKept, ArePicked, AreSameNeeds, AreSegments, IsEdited, IsEditOf, IsInterpreterOf, IsName, IsSameDynamicSymbol, IsSameSection, IsSameSymbol, kept_segment}
use Rattle.elf_image.specs.ReadImage.{AreDynamicSymbols, AreStaticSymbols, HoldsParts}
use Rattle.elf_image.proofs.ReadComplete.{read_is_complete}
use Rattle.elf_image.proofs.ReadImageLaws.{read_images_hold_parts}
use Rattle.elf_format.proofs.ForCallers.Lengths.{length-counted, slice_index-counted}

-- ## Texts

-- a text that ends at its NUL has none in it
text_by : (byte : ℕ) (rest : Option (List ℕ)) (text : List ℕ) → ((r : List ℕ) → rest ≡ Some r → holds_nul r ≡ false)
    → (elim byte as (λ _. Option (List ℕ)) [ zero ↦ Some [] | suc c ↦ rest >>= (λ r. Some (suc c ∷ r)) ]) ≡ Some text → holds_nul text ≡ false
text_by zero rest text more h = ap holds_nul (sym (same_Some [] text h))
text_by (suc c) rest text more h =
    let (r, there, made) = bind_some rest (λ l. Some (suc c ∷ l)) text h in
    ap holds_nul (sym (same_Some (suc c ∷ r) text made)) ∙ or_from (suc c == 0) (holds_nul r) (ne_eqb (suc c) 0 (λ e. absurd (omega arith))) (more r there)

pub text_whole : (room : ℕ) (texts : Memory) (a : ℕ) (text : List ℕ) → text_at room texts a ≡ Some text → holds_nul text ≡ false
unfolding text_at
text_whole zero texts a text h = absurd (none-some text h)
text_whole (suc room) texts a text h =
    let (byte, _, more) = bind_some (texts a) (λ b. elim b as (λ _. Option (List ℕ)) [ zero ↦ Some [] | suc c ↦ text_at room texts (a + 1) >>= (λ rest. Some (suc c ∷ rest)) ]) text h in
    text_by byte (text_at room texts (a + 1)) text (λ r there. text_whole room texts (a + 1) r there) more

pub name_whole : (room : ℕ) (texts : Memory) (a : ℕ) (text : List ℕ) → text_at room texts a ≡ Some text → IsName text
name_whole room texts a text h = not_from_false (holds_nul text) (text_whole room texts a text h)

-- ## Numbers at read

-- what was read stands at its own number
picked : {A : Type 0} → (IsSame : A → A → Type 0) (xs : List A) (numbers : List ℕ) → numbers ≡ counted (length xs) → ((i : ℕ) (x : A) → slice_get xs i ≡ Some x → IsSame x x) → ArePicked IsSame xs numbers xs
picked IsSame xs numbers is same = subst (λ ns. ArePicked IsSame xs ns xs) (sym is) (record {
  numbered = length-counted (length xs);
  rising = λ i j before within.
      let inside : j < length xs = subst (λ n. j < n) (length-counted (length xs)) within in
      let first : slice_index (counted (length xs)) i ≡ i = slice_index-counted (length xs) i (omega arith) in
      let second : slice_index (counted (length xs)) j ≡ j = slice_index-counted (length xs) j inside in
      omega arith;
  same = λ i x at. (x, ap (slice_get xs) (slice_index-counted (length xs) i (slice_get_within xs i x at)) ∙ at, same i x at);
})

-- ## Program headers

kept_itself : (p : SegmentHeader) → p ≡ kept_segment None p.p_flags p
kept_itself p = ap (λ n. record p { p_flags = n }) (same_either (p.p_type == PT_GNU_STACK) p.p_flags) ∙ ap (λ n. record p { p_flags = if p.p_type == PT_GNU_STACK then p.p_flags else p.p_flags; p_align = n }) (same_either (p.p_type == PT_LOAD) p.p_align)
  where
    same_either : (b : Bool) (n : ℕ) → n ≡ (if b then n else n)
    same_either true n = refl
    same_either false n = refl

all_kept : (ps : List SegmentHeader) → AreKept None ps ps
all_kept [] = tt
all_kept (p ∷ ps) = inl (kept_itself p, all_kept ps)

-- ## The dynamic list

NoNull : List EntryNumbers → Type 0
NoNull [] = Unit {0}
NoNull (e ∷ es) = (e.d_tag ≢ 0) × NoNull es

-- the list ends before the first DT_NULL
tags_by : (e : EntryNumbers) (tag : ℕ) (rest : Option (List EntryNumbers)) (raw : List EntryNumbers) → e.d_tag ≡ tag → ((r : List EntryNumbers) → rest ≡ Some r → NoNull r)
    → (elim tag as (λ _. Option (List EntryNumbers)) [ zero ↦ Some [] | suc _ ↦ rest >>= (λ r. Some (e ∷ r)) ]) ≡ Some raw → NoNull raw
unfolding NoNull
tags_by e zero rest raw is more h = subst NoNull (same_Some [] raw h) tt
tags_by e (suc t) rest raw is more h =
    let (r, there, made) = bind_some rest (λ l. Some (e ∷ l)) raw h in
    let not_null : e.d_tag ≢ 0 = λ null. absurd (omega arith) in
    subst NoNull (same_Some (e ∷ r) raw made) (not_null, more r there)

no_null : (room : ℕ) (form : Form) (memory : Memory) (a : ℕ) (raw : List EntryNumbers) → entries_at room form memory a ≡ Some raw → NoNull raw
unfolding entries_at
no_null zero form memory a raw h = absurd (none-some raw h)
no_null (suc room) form memory a raw h =
    let (bytes, _, more) = bind_some (bytes_at (entry_size form) memory a)
    (λ b. elim (entry_numbers form b).d_tag as (λ _. Option (List EntryNumbers)) [ zero ↦ Some [] | suc _ ↦ entries_at room form memory (a + entry_size form) >>= (λ rest. Some (entry_numbers form b ∷ rest)) ]) raw h in
    tags_by (entry_numbers form bytes) (entry_numbers form bytes).d_tag (entries_at room form memory (a + entry_size form)) raw refl (λ r there. no_null room form memory (a + entry_size form) r there) more

raw_no_null : (p : Parts) → NoNull (raw_entries p)
unfolding NoNull
raw_no_null p = by_entries (entries_at (length (file_of p)) p.opened.form (section_memory (file_of p) (section_of_type SHT_DYNAMIC p.sections)) 0) refl
  where
    by_entries : (o : Option (List EntryNumbers)) → entries_at (length (file_of p)) p.opened.form (section_memory (file_of p) (section_of_type SHT_DYNAMIC p.sections)) 0 ≡ o → NoNull (unwrap_or o [])
    by_entries None h = tt
    by_entries (Some raw) h = no_null (length (file_of p)) p.opened.form (section_memory (file_of p) (section_of_type SHT_DYNAMIC p.sections)) 0 raw h

-- an entry that is shown may stand in a list
entry_listed : (room : ℕ) (texts : Memory) (e : EntryNumbers) (shown : Entry) → e.d_tag ≢ 0 → shown_entry room texts e ≡ Some shown → IsListed shown
unfolding shown_entry
entry_listed room texts e shown not_null =
    let text : Option Entry = text_at room texts e.d_value >>= λ t. Some (Text e.d_tag t) in
    let auto : Option Entry = Some (Auto e.d_tag) in
    let number : Option Entry = Some (Integer e.d_tag e.d_value) in
    let P : Option Entry → Type 0 = λ o. o ≡ Some shown → IsListed shown in
    cond_both (is_one_of text_tags e.d_tag) text (cond (is_one_of table_tags e.d_tag) auto number) P
    (λ is_text h.
    let (t, there, made) = bind_some (text_at room texts e.d_value) (λ u. Some (Text e.d_tag u)) shown h in
    subst IsListed (same_Some (Text e.d_tag t) shown made) (record { not_null = not_null; of_its_tag = is_text; whole = not_from_false (holds_nul t) (text_whole room texts e.d_value t there) }))
    (λ no_text. cond_both (is_one_of table_tags e.d_tag) auto number P
    (λ is_table h. subst IsListed (same_Some (Auto e.d_tag) shown h) (record { not_null = not_null; of_its_tag = is_table; whole = refl }))
    (λ no_table h. subst IsListed (same_Some (Integer e.d_tag e.d_value) shown h) (record {
      not_null = not_null;
      of_its_tag = not_from_false (is_one_of table_tags e.d_tag || is_one_of text_tags e.d_tag) (or_from (is_one_of table_tags e.d_tag) (is_one_of text_tags e.d_tag) no_table no_text);
      whole = refl;
    })))

entries_listed : (room : ℕ) (texts : Memory) (raw : List EntryNumbers) (shown : List Entry) → NoNull raw → each (shown_entry room texts) raw ≡ Some shown → All IsListed shown
unfolding each NoNull
entries_listed room texts [] shown tagged h = subst (λ (l : List Entry). All IsListed l) (same_Some [] shown h) (All-nil IsListed)
entries_listed room texts (e ∷ raw) shown tagged h =
    let (x, x_there, more) = bind_some (shown_entry room texts e) (λ y. each (shown_entry room texts) raw >>= λ ys. Some (y ∷ ys)) shown h in
    let (xs, xs_there, made) = bind_some (each (shown_entry room texts) raw) (λ ys. Some (x ∷ ys)) shown more in
    subst (λ (l : List Entry). All IsListed l) (same_Some (x ∷ xs) shown made)
    (All-cons IsListed x xs (entry_listed room texts e x tagged.0 x_there) (entries_listed room texts raw xs tagged.1 xs_there))

list_read : (p : Parts) (o : Option SectionHeader) (now : Option (List Entry)) → entries_read p o ≡ Some now → AreEntriesOf now now
unfolding entries_read
list_read p None now h = subst (λ (l : Option (List Entry)). AreEntriesOf l l) (same_Some None now h) tt
list_read p (Some s) now h =
    let (es, there, made) = bind_some (each (shown_entry (length (file_of p)) (linked_texts p s)) (raw_entries p)) (λ l. Some (Some l)) now h in
    subst (λ (l : Option (List Entry)). AreEntriesOf l l) (same_Some (Some es) now made)
    (record { tables = refl; listed = entries_listed (length (file_of p)) (linked_texts p s) (raw_entries p) es (raw_no_null p) there })

interpreter_itself : (o : Option (List ℕ)) → IsInterpreterOf o o
interpreter_itself None = tt
interpreter_itself (Some bytes) = inl refl

needs_themselves : (needs : List VersionNeeds) → AreSameNeeds needs needs
needs_themselves [] = tt
needs_themselves (n ∷ ns) = ((inl refl, refl), needs_themselves ns)

-- ## All of it

module _ (p : Parts) (file : List ℕ) (parts : ArePartsOf file p) (rules : MeetsRules p) (image : Image) (holds : HoldsParts p image) where
  sections_same : (i : ℕ) (x : ImageSection) → slice_get image.sections i ≡ Some x → IsSameSection x x
  sections_same i x at =
      let (s, _, is) = holds.sections.each i x at in
      (name_whole (length (file_of p)) (texts_of p (slice_get p.sections p.opened.header.e_shstrndx)) s.sh_name x.name is.name, refl)

  static_same : (o : Option SectionHeader) → AreStaticSymbols p o image.symbols → (i : ℕ) (x : NamedSymbol) → slice_get image.symbols i ≡ Some x → IsSameSymbol x x
  static_same None are i x at = absurd (none-some x (ap (λ (l : List NamedSymbol). slice_get l i) (sym are) ∙ at))
  static_same (Some s) are i x at =
      let (y, _, _, _, is) = are.each i x at in
      (name_whole (length (file_of p)) (texts_of p (linked_section p.sections s)) y.st_name x.name is.name, refl)

  dynamic_same : (o : Option SectionHeader) → AreDynamicSymbols p (section_of_type SHT_GNU_VERSYM p.sections) o image.dynamic_symbols
      → (i : ℕ) (x : NamedSymbol) → slice_get image.dynamic_symbols i ≡ Some x → IsSameDynamicSymbol x x
  dynamic_same None are i x at = absurd (none-some x (ap (λ (l : List NamedSymbol). slice_get l i) (sym are) ∙ at))
  dynamic_same (Some s) are i x at =
      let (y, _, _, _, is) = are.each i x at in
      (name_whole (length (file_of p)) (dynamic_texts_of p (linked_section p.sections s)) y.st_name x.name is.name, inl refl, refl)

  edits_itself : IsEditOf image image
  edits_itself = record {
    form = refl;
    header = refl;
    segments = subst (λ (o : Option ℕ). AreSegments image.header.e_phoff o image.segments image.segments) (sym holds.page_size) (record {
      unclaimed = image.segments;
      are_unclaimed = none_went image.header.e_phoff (loads_end image.segments) image.segments;
      loaded = λ there. there;
      kept = image.segments;
      added = None;
      are_kept = all_kept image.segments;
      are_all = sym (append-nil image.segments);
      only_one = λ some. absurd (true≢false (sym some));
    });
    sections = picked IsSameSection image.sections image.section_numbers holds.section_numbers sections_same;
    symbols = picked IsSameSymbol image.symbols image.symbol_numbers holds.symbol_numbers (static_same (section_of_type SHT_SYMTAB p.sections) holds.symbols);
    dynamic_symbols = picked IsSameDynamicSymbol image.dynamic_symbols image.dynamic_symbol_numbers holds.dynamic_symbol_numbers (dynamic_same (section_of_type SHT_DYNSYM p.sections) holds.dynamic_symbols);
    definitions = refl;
    needs = record { same = needs_themselves image.needs; unlisted = λ _. refl };
    entries = list_read p (section_of_type SHT_DYNAMIC p.sections) image.entries holds.entries;
    interpreter = interpreter_itself image.interpreter;
    complete = read_is_complete p file parts rules image holds;
    unchanged = λ _. refl;
  }

-- an image that was read is an edit of itself
pub read_itself : (file : List ℕ) (image : Image) → image_of file ≡ Ok image → IsEditOf image image
read_itself file image h =
    let (p, _, parts, rules, holds) = read_images_hold_parts file image h in
    edits_itself p file parts rules image holds

pub read_is_edited : (file : List ℕ) (image : Image) → image_of file ≡ Ok image → IsEdited image
read_is_edited file image h =
    let (p, _, parts, _, holds) = read_images_hold_parts file image h in
    record {
      read = image;
      is_read = ap image_of (holds.source ∙ parts.same_file) ∙ h;
      is_edit = read_itself file image h;
    }
