-- The string tables of a file as it was read: where the texts of their users stand in them.
use Rattle.std.proofs.Common.{◌≡◌, ℕ, Bool, true, false, cond, List, [], ◌∷◌, length, refl, sym, ap, ◌∙◌, subst, Option, Some, None, Ok, arith}
use Rattle.std.specs.Prelude.{◌==◌, unwrap_or}
use Rattle.std.specs.List.{slice_get}
use Rattle.std.proofs.lemmas.Bool.{eqb-true, false≢true}
use Rattle.std.proofs.lemmas.Option.{none-some, same_Some}
use Rattle.patch_bytes.specs.Memory.{◌>>=◌, Keeps, Memory, memory_of, text_at}
use Rattle.patch_bytes.proofs.MemoryLaws.{Keeps-first_places, Keeps-refl, bind_some, text_at-keeps}
use Rattle.elf_format.specs.declared.constants.TheConstants.{DT_STRSZ, SHT_DYNAMIC, SHT_DYNSYM, SHT_GNU_VERSYM, SHT_SYMTAB}
use Rattle.elf_format.specs.declared.form.Form.{Form}
use Rattle.elf_format.specs.declared.records.EntryNumbers.{EntryNumbers}
use Rattle.elf_format.specs.declared.records.SectionHeader.{SectionHeader}
use Rattle.elf_format.specs.declared.records.SymbolNumbers.{SymbolNumbers}
use Rattle.elf_format.specs.declared.version_id.VersionId.{VersionId}
use Rattle.elf_format.specs.Dynamic.{Auto, Entry, Integer, Text, entries_at, shown_entry, table_tags, text_tags, value_of_tag}
use Rattle.elf_format.specs.File.{Parts, section_bytes, section_of_type}
use Rattle.elf_format.specs.Image.{Image, ImageSection, entries_read, image_of, symbols_of, versions_read}
use Rattle.elf_format.specs.Options.{each, is_one_of, is_some_and, list_at}
use Rattle.elf_format.specs.Records.{symbols_in}
use Rattle.elf_format.specs.Rules.{accepted_parts, file_of, linked_texts, raw_entries, texts_of}
use Rattle.elf_format.specs.Views.{NamedSymbol, first_by_tag, section_memory}
use Rattle.elf_image.specs.Kept.{KeptSection, kept_of_type, link_of_type}
use Rattle.elf_image.specs.Needed.{lasting_types}
use Rattle.elf_image.specs.ReadImage.{AreDynamicSymbols, AreStaticSymbols, AreSymbolsOf}
use Rattle.elf_image.proofs.ForCallers.EditedLaws.{read_is_edited}
use Rattle.elf_layout_plan.proofs.ForCallers.PlacedRead.{at_read}
use Rattle.elf_tables.specs.Strings.{StandsAt}
use Rattle.elf_write_spec.specs.Ready.{IsEditedReady}
use Rattle.elf_write_strings.specs.PlacedTexts.{AreSectionsAt, AreSymbolsAt, EntriesStand, EntryStands, IsContentOfUser, IsUnedited, numbers_in}
use Rattle.elf_write_strings.specs.VersionPlaces.{content_in}
use Rattle.elf_write_strings.proofs.VersionsTexts.{text_stands}
use Rattle.elf_write_spec.proofs.ForCallers.NumberedSections.{kept_as}
use Rattle.elf_write_spec.proofs.ForCallers.WholeEdits.{IsWholeEdit, Nowhere, ReadFacts, StaticAt, Stays, There, TypeAt, Went, read_facts, static_at, type_at, was_there}

-- ## The image that was read

pub ready_edit : {read image : Image} → IsEditedReady read image → IsWholeEdit read image
ready_edit is = record { at_read = is.at_read; edited = is.edited }

pub unedited_edit : {read : Image} → IsUnedited read → IsWholeEdit read read
unedited_edit is = record { at_read = is.at_read; edited = is.edited }

-- the image that was read is one that nothing was done to
pub read_unedited : {read image : Image} → IsEditedReady read image → IsUnedited read
read_unedited {read} {image} is =
    let f = read_facts read image (ready_edit is) in
    let source : read.source ≡ image.source = f.holds.source ∙ f.are_parts.same_file in
    let same : read ≡ is.edited.read = is.at_read ∙ at_read (image_of image.source) is.edited.read image is.edited.is_read in
    let own : image_of read.source ≡ Ok read =
    ap image_of source ∙ is.edited.is_read ∙ ap (λ (x : Image). Ok x) (sym same) in
    record {
      at_read = sym (at_read (image_of read.source) read read own);
      edited = read_is_edited read.source read own;
    }

-- ## Memories

-- as many places of a memory as a tag says, or all
pub first_keeps : (o : Option ℕ) (m : Memory) → Keeps (first_by_tag o m) m
first_keeps None m = Keeps-refl m
first_keeps (Some n) m = Keeps-first_places n m

-- each symbol's name stands where its record tells
symbols_at : (room : ℕ) (texts : Memory) (strings : List ℕ) (numbers : List SymbolNumbers) (versions : List (Option VersionId)) (ys : List NamedSymbol)
    → AreSymbolsOf room texts numbers versions ys → Keeps texts (memory_of strings) → AreSymbolsAt strings ys numbers
symbols_at room texts strings numbers versions ys are keeps = record {
  count = sym are.count;
  each = λ i y n y_at n_at.
      let (m, version, m_at, _, of) = are.each i y y_at in
      let same : m ≡ n = same_Some m n (sym m_at ∙ n_at) in
      let named : text_at room texts n.st_name ≡ Some y.name = ap (λ (k : SymbolNumbers). text_at room texts k.st_name) (sym same) ∙ of.name in
      text_stands room strings n.st_name y.name (text_at-keeps room room (omega arith) texts (memory_of strings) keeps n.st_name y.name named);
}

-- ## Entries that were read

module _ (strings : List ℕ) (room : ℕ) (texts : Memory) (keeps : Keeps texts (memory_of strings)) where
  by_tag : (is_text is_table : Bool) (x : EntryNumbers) (e : Entry)
      → cond is_text (text_at room texts x.d_value >>= λ t. Some (Text x.d_tag t))
      (cond is_table (Some (Auto x.d_tag)) (Some (Integer x.d_tag x.d_value))) ≡ Some e
      → EntryStands strings e x.d_value
  by_tag true is_table x e h =
      let (t, there, made) = bind_some (text_at room texts x.d_value) (λ t. Some (Text x.d_tag t)) e h in
      subst (λ (y : Entry). EntryStands strings y x.d_value) (same_Some (Text x.d_tag t) e made)
      (text_stands room strings x.d_value t
      (text_at-keeps room room (omega arith) texts (memory_of strings) keeps x.d_value t there))
  by_tag false true x e h = subst (λ (y : Entry). EntryStands strings y x.d_value) (same_Some (Auto x.d_tag) e h) tt
  by_tag false false x e h = subst (λ (y : Entry). EntryStands strings y x.d_value) (same_Some (Integer x.d_tag x.d_value) e h) tt

  one_stands : (x : EntryNumbers) (e : Entry) → shown_entry room texts x ≡ Some e → EntryStands strings e x.d_value
  unfolding shown_entry
  one_stands x e h = by_tag (is_one_of text_tags x.d_tag) (is_one_of table_tags x.d_tag) x e h

  all_stand : (xs : List EntryNumbers) (es : List Entry) → each (shown_entry room texts) xs ≡ Some es → EntriesStand strings es xs
  unfolding each
  all_stand [] es h = subst (λ (l : List Entry). EntriesStand strings l []) (same_Some [] es h) tt
  all_stand (x ∷ xs) es h =
      let (e, there, more) = bind_some (shown_entry room texts x) (λ z. each (shown_entry room texts) xs >>= λ zs. Some (z ∷ zs)) es h in
      let (rest, rest_there, made) = bind_some (each (shown_entry room texts) xs) (λ zs. Some (e ∷ zs)) es more in
      subst (λ (l : List Entry). EntriesStand strings l (x ∷ xs)) (same_Some (e ∷ rest) es made)
      (one_stands x e there, all_stand xs rest rest_there)

-- ## The users of a table

-- the one section of a type, as it was read, which links to the table with that number
pub record UserWas (p : Parts) (type number : ℕ) : Type 0 where
  pub old : SectionHeader
  pub is_old : section_of_type type p.sections ≡ Some old
  pub link : number ≡ old.sh_link

-- the bytes of the one section of a type, as it was read, which links to the table with that number
pub record ContentWas (p : Parts) (type number : ℕ) (bytes : List ℕ) : Type 0 where
  pub user : UserWas p type number
  pub content : bytes ≡ section_bytes (file_of p) user.old

-- a number that passes is there
pub linked_to : (o : Option ℕ) (number : ℕ) → is_some_and (λ link. link == number) o ≡ true → o ≡ Some number
linked_to None number h = absurd (false≢true h)
linked_to (Some n) number h = ap (λ (m : ℕ). Some m) (eqb-true n number h)

module _ (read image : Image) (f : ReadFacts read image) where
  of_section : (type number : ℕ) (k : KeptSection) → kept_of_type type image ≡ Some k → k.section.sh_link ≡ number → TypeAt read image f.parts type
      → ContentWas f.parts type number k.section.content
  of_section type number k there link (Nowhere was now) = absurd (none-some k (sym now ∙ there))
  of_section type number k there link (There i at old_typed typed was now) =
      let same : k ≡ kept_as i at.number at.section = same_Some k (kept_as i at.number at.section) (sym there ∙ now) in
      record {
        user = record {
          old = at.old;
          is_old = was;
          link = sym link ∙ ap (λ (x : KeptSection). x.section.sh_link) same ∙ ap (λ (x : ImageSection). x.sh_link) at.of_old.fields;
        };
        content = ap (λ (x : KeptSection). x.section.content) same ∙ ap (λ (x : ImageSection). x.content) at.of_old.fields;
      }

  -- the bytes of a user of a type that lasts
  pub content_was : (type number : ℕ) (bytes : List ℕ) → is_one_of lasting_types type ≡ true → IsContentOfUser image type number bytes
      → ContentWas f.parts type number bytes
  content_was type number bytes lasting c =
      subst (ContentWas f.parts type number) (sym c.content)
      (of_section type number c.section c.there c.link (type_at read image f type lasting))

  -- where a section of a type links
  pub link_by : (type : ℕ) → TypeAt read image f.parts type
      → link_of_type type image ≡ (section_of_type type f.parts.sections >>= λ h. Some h.sh_link)
  link_by type (Nowhere was now) =
      ap (λ (o : Option KeptSection). o >>= λ s. Some s.section.sh_link) now
      ∙ sym (ap (λ (o : Option SectionHeader). o >>= λ h. Some h.sh_link) was)
  link_by type (There i at old_typed typed was now) =
      ap (λ (o : Option KeptSection). o >>= λ s. Some s.section.sh_link) now
      ∙ ap (λ (x : ImageSection). Some x.sh_link) at.of_old.fields
      ∙ sym (ap (λ (o : Option SectionHeader). o >>= λ h. Some h.sh_link) was)

  -- the bytes of the section of the static symbols that links to a table, as they were read
  pub static_was : (number : ℕ) (bytes : List ℕ) → IsContentOfUser image SHT_SYMTAB number bytes → ContentWas f.parts SHT_SYMTAB number bytes
  static_was number bytes c =
      subst (ContentWas f.parts SHT_SYMTAB number) (sym c.content) (by_static (static_at read image f))
    where
      by_static : StaticAt read image f.parts → ContentWas f.parts SHT_SYMTAB number c.section.section.content
      by_static (Stays at) = of_section SHT_SYMTAB number c.section c.there c.link at
      by_static (Went old found gone) = absurd (none-some c.section (sym gone ∙ c.there))

  -- a user of a type that lasts, by its link
  pub user_was : (type number : ℕ) → is_one_of lasting_types type ≡ true → link_of_type type image ≡ Some number → UserWas f.parts type number
  user_was type number lasting linked =
      let (k, there, link) = bind_some (kept_of_type type image) (λ s. Some s.section.sh_link) number linked in
      (of_section type number k there (same_Some k.section.sh_link number link) (type_at read image f type lasting)).user

module _ (read : Image) (is : IsUnedited read) where
  abbrev pub facts : ReadFacts read read
  facts = read_facts read read (unedited_edit is)

  -- the parts of the source are those of the file that was read
  pub same_parts : (p : Parts) → accepted_parts read.source ≡ Ok p → p ≡ facts.parts
  same_parts p accepted =
      let both : Ok p ≡ Ok facts.parts = sym accepted ∙ facts.accepted in
      cc

  -- ## The bytes of a table

  pub table_was : (n : ℕ) (old : SectionHeader) → slice_get facts.parts.sections n ≡ Some old
      → content_in read.sections n ≡ section_bytes (file_of facts.parts) old
  table_was n old at =
      let (was, was_at, of_old) = was_there read read facts n old at in
      ap (λ (o : Option ImageSection). elim o as (λ _. List ℕ) [ Some s ↦ s.content | None ↦ [] ]) was_at
      ∙ ap (λ (x : ImageSection). x.content) of_old.fields

  pub table_keeps : (n : ℕ) (o : Option SectionHeader) → slice_get facts.parts.sections n ≡ o
      → Keeps (section_memory (file_of facts.parts) o) (memory_of (content_in read.sections n))
  table_keeps n None none = λ a x h. absurd (none-some x h)
  table_keeps n (Some old) there = λ a x h. ap (λ (l : List ℕ). slice_get l a) (table_was n old there) ∙ h

  -- the texts of the table that a section linked to lie in its bytes
  pub texts_keep : (old : SectionHeader) (number : ℕ) → number ≡ old.sh_link
      → Keeps (linked_texts facts.parts old) (memory_of (content_in read.sections number))
  texts_keep old number link =
      subst (λ (n : ℕ). Keeps (linked_texts facts.parts old) (memory_of (content_in read.sections n))) (sym link)
      (λ a x e. table_keeps old.sh_link (slice_get facts.parts.sections old.sh_link) refl a x
      (first_keeps (value_of_tag DT_STRSZ (raw_entries facts.parts))
      (section_memory (file_of facts.parts) (slice_get facts.parts.sections old.sh_link)) a x e))

  -- a text of a section stands in the string table that the section links to
  pub linked_stands : (old : SectionHeader) (number : ℕ) → number ≡ old.sh_link → (place : ℕ) (text : List ℕ)
      → text_at (length (file_of facts.parts)) (linked_texts facts.parts old) place ≡ Some text
      → StandsAt (content_in read.sections number) place text
  linked_stands old number link place text h =
      let room : ℕ = length (file_of facts.parts) in
      text_stands room (content_in read.sections number) place text
      (text_at-keeps room room (omega arith) (linked_texts facts.parts old) (memory_of (content_in read.sections number))
      (texts_keep old number link) place text h)

  -- ## The dynamic list

  -- each text that was read stands where its entry says
  pub entries_stand : (number : ℕ) (bytes : List ℕ) → ContentWas facts.parts SHT_DYNAMIC number bytes
      → EntriesStand (content_in read.sections number) (list_at (λ es. es) read.entries) (numbers_in read bytes)
  unfolding entries_read
  entries_stand number bytes was =
      let p : Parts = facts.parts in
      let old : SectionHeader = was.user.old in
      let numbers : numbers_in read bytes ≡ raw_entries p =
      ap (numbers_in read) was.content
      ∙ ap (λ (file : List ℕ). unwrap_or (entries_at (length file) read.form (memory_of (section_bytes (file_of p) old)) 0) []) facts.holds.source
      ∙ ap (λ (form : Form). unwrap_or (entries_at (length (file_of p)) form (memory_of (section_bytes (file_of p) old)) 0) []) facts.holds.form
      ∙ ap (λ (o : Option SectionHeader). unwrap_or (entries_at (length (file_of p)) p.opened.form (section_memory (file_of p) o) 0) []) (sym was.user.is_old) in
      let entries : entries_read p (Some old) ≡ Some read.entries = ap (entries_read p) (sym was.user.is_old) ∙ facts.holds.entries in
      let (es, there, made) = bind_some (each (shown_entry (length (file_of p)) (linked_texts p old)) (raw_entries p))
      (λ es. Some (Some es)) read.entries entries in
      let stand : EntriesStand (content_in read.sections number) es (raw_entries p) =
      all_stand (content_in read.sections number) (length (file_of p)) (linked_texts p old) (texts_keep old number was.user.link)
      (raw_entries p) es there in
      subst (λ (xs : List EntryNumbers). EntriesStand (content_in read.sections number) (list_at (λ es. es) read.entries) xs) (sym numbers)
      (subst (λ (o : Option (List Entry)). EntriesStand (content_in read.sections number) (list_at (λ es. es) o) (raw_entries p))
      (same_Some (Some es) read.entries made) stand)

  -- ## Symbols

  records_were : (type number : ℕ) (bytes : List ℕ) → (was : ContentWas facts.parts type number bytes)
      → symbols_of facts.parts was.user.old ≡ symbols_in read.form bytes
  records_were type number bytes was =
      ap (λ (form : Form). symbols_in form (section_bytes (file_of facts.parts) was.user.old)) (sym facts.holds.form)
      ∙ ap (symbols_in read.form) (sym was.content)

  -- the dynamic symbols have their names where their records tell
  pub dynamic_symbols_stand : (number : ℕ) (bytes : List ℕ) → ContentWas facts.parts SHT_DYNSYM number bytes
      → AreSymbolsAt (content_in read.sections number) read.dynamic_symbols (symbols_in read.form bytes)
  dynamic_symbols_stand number bytes was =
      let p : Parts = facts.parts in
      let old : SectionHeader = was.user.old in
      let are =
      subst (λ (o : Option SectionHeader). AreDynamicSymbols p (section_of_type SHT_GNU_VERSYM p.sections) o read.dynamic_symbols)
      was.user.is_old facts.holds.dynamic_symbols in
      subst (AreSymbolsAt (content_in read.sections number) read.dynamic_symbols) (records_were SHT_DYNSYM number bytes was)
      (symbols_at (length (file_of p)) (linked_texts p old) (content_in read.sections number) (symbols_of p old)
      (versions_read p (section_of_type SHT_GNU_VERSYM p.sections) (length (symbols_of p old))) read.dynamic_symbols are
      (texts_keep old number was.user.link))

  -- the static symbols have their names where their records tell
  pub static_symbols_stand : (number : ℕ) (bytes : List ℕ) → ContentWas facts.parts SHT_SYMTAB number bytes
      → AreSymbolsAt (content_in read.sections number) read.symbols (symbols_in read.form bytes)
  static_symbols_stand number bytes was =
      let p : Parts = facts.parts in
      let old : SectionHeader = was.user.old in
      let are =
      subst (λ (o : Option SectionHeader). AreStaticSymbols p o read.symbols) was.user.is_old facts.holds.symbols in
      subst (AreSymbolsAt (content_in read.sections number) read.symbols) (records_were SHT_SYMTAB number bytes was)
      (symbols_at (length (file_of p)) (texts_of p (slice_get p.sections old.sh_link)) (content_in read.sections number) (symbols_of p old)
      _ read.symbols are
      (subst (λ (n : ℕ). Keeps (texts_of p (slice_get p.sections old.sh_link)) (memory_of (content_in read.sections n))) (sym was.user.link)
      (table_keeps old.sh_link (slice_get p.sections old.sh_link) refl)))

  -- ## Sections

  -- each section's name stands where its header tells
  pub sections_stand : AreSectionsAt (content_in read.sections read.header.e_shstrndx) read.sections facts.parts.sections
  sections_stand = record {
    count = sym facts.holds.sections.count;
    each = λ i s h s_at h_at.
        let p : Parts = facts.parts in
        let (old, old_at, of_old) = facts.holds.sections.each i s s_at in
        let same : old ≡ h = same_Some old h (sym old_at ∙ h_at) in
        let n : ℕ = p.opened.header.e_shstrndx in
        let room : ℕ = length (file_of p) in
        let texts : Memory = texts_of p (slice_get p.sections n) in
        let named : text_at room texts h.sh_name ≡ Some s.name =
        ap (λ (x : SectionHeader). text_at room texts x.sh_name) (sym same) ∙ of_old.name in
        let stands : StandsAt (content_in read.sections n) h.sh_name s.name =
        text_stands room (content_in read.sections n) h.sh_name s.name
        (text_at-keeps room room (omega arith) texts (memory_of (content_in read.sections n))
        (table_keeps n (slice_get p.sections n) refl) h.sh_name s.name named) in
        subst (λ (m : ℕ). StandsAt (content_in read.sections m) h.sh_name s.name) (sym (ap (λ x. x.e_shstrndx) facts.holds.header)) stands;
  }

  pub headers_stand : (p : Parts) → accepted_parts read.source ≡ Ok p → (headers : List SectionHeader) → headers ≡ p.sections
      → AreSectionsAt (content_in read.sections read.header.e_shstrndx) read.sections headers
  headers_stand p accepted headers same =
      subst (AreSectionsAt (content_in read.sections read.header.e_shstrndx) read.sections)
      (sym (same ∙ ap (λ (q : Parts). q.sections) (same_parts p accepted))) sections_stand

-- the parts of an edited image's file are those of the image that was read
pub same_read : {read image : Image} → (is : IsEditedReady read image)
    → (read_facts read image (ready_edit is)).parts ≡ (facts read (read_unedited is)).parts
same_read {read} {image} is =
    let f = read_facts read image (ready_edit is) in
    let source : read.source ≡ image.source = f.holds.source ∙ f.are_parts.same_file in
    same_parts read (read_unedited is) f.parts (ap accepted_parts source ∙ f.accepted)

-- a section of a type that lasts links where it did
pub same_link : {read image : Image} → (is : IsEditedReady read image) → (type : ℕ) → is_one_of lasting_types type ≡ true
    → link_of_type type image ≡ link_of_type type read
same_link {read} {image} is type lasting =
    let f = read_facts read image (ready_edit is) in
    let un : IsUnedited read = read_unedited is in
    link_by read image f type (type_at read image f type lasting)
    ∙ ap (λ (p : Parts). section_of_type type p.sections >>= λ h. Some h.sh_link) (same_read is)
    ∙ sym (link_by read read (facts read un) type (type_at read read (facts read un) type lasting))
