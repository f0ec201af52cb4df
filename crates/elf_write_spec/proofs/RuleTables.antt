-- The dynamic list of a written file names its tables.
use Rattle.std.proofs.Common.{◌≡◌, ◌≤◌, ℕ, Bool, true, List, length, refl, sym, ap, ◌∙◌, subst, arith, Option, Some, None, All}
use Rattle.std.specs.Prelude.{◌==◌, ◌&&◌, IsTrue, if◌then◌else◌, is_some, nat_le, unwrap_or}
use Rattle.std.specs.List.{slice_get}
use Rattle.std.proofs.lemmas.Bool.{and_from, and_parts, eq-eqb, eqb-true, false≢true, le-leb}
use Rattle.std.proofs.lemmas.Option.{none-some, same_Some, slice_get_within}
use Rattle.patch_bytes.specs.Memory.{◌>>=◌}
use Rattle.patch_bytes.proofs.MemoryLaws.{bind_some}
use Rattle.elf_format.specs.declared.constants.TheConstants.{DT_GNU_HASH, DT_HASH, DT_STRSZ, DT_STRTAB, DT_SYMENT, DT_SYMTAB, DT_VERDEF, DT_VERDEFNUM, DT_VERNEED, DT_VERNEEDNUM, DT_VERSYM, SHF_ALLOC, SHT_DYNAMIC, SHT_DYNSYM, SHT_GNU_HASH, SHT_GNU_VERDEF, SHT_GNU_VERNEED, SHT_GNU_VERSYM, SHT_HASH, SHT_NULL, SHT_SYMTAB}
use Rattle.elf_format.specs.declared.form.Form.{Form}
use Rattle.elf_format.specs.declared.records.EntryNumbers.{EntryNumbers}
use Rattle.elf_format.specs.declared.records.SectionHeader.{SectionHeader}
use Rattle.elf_format.specs.Dynamic.{Entry, has_tag, shown_entry, value_of_tag}
use Rattle.elf_format.specs.File.{is_allocated, linked_section, section_of_type}
use Rattle.elf_format.specs.Image.{Image, ImageSection, entries_read, image_of}
use Rattle.elf_format.specs.Options.{each, first_there, is_none_or, is_one_of, is_some_and, list_at}
use Rattle.elf_format.specs.Places.{Place, is_set}
use Rattle.elf_format.specs.Records.{symbol_size}
use Rattle.elf_format.specs.Rules.{are_dynamic_tables_right, dynamic_tables_agree, file_of, linked_texts, raw_entries, tag_fits, tag_is_address, tags_come_once}
use Rattle.elf_image.specs.DynamicList.{IsListed, is_table_tag, tables_of}
use Rattle.elf_image.specs.Edited as edited
use Rattle.elf_image.proofs.ForCallers.EditedLaws.{read_is_edited}
use Rattle.elf_image.specs.Kept.{KeptSection, dynamic_strings_number, image_at_read, kept_at_number, kept_of_type, link_of_type}
use Rattle.elf_layout_plan.specs.Memory.{Resized}
use Rattle.elf_layout_plan.specs.Plan.{resized}
use Rattle.elf_layout_plan.proofs.ForCallers.PlacedRead.{at_read}
use Rattle.elf_write_spec.specs.ReadBack.{HasWrittenParts, written_parts}
use Rattle.elf_write_spec.specs.Contents.{address_of_type, place_of_kept, strings_place, table_value}
use Rattle.elf_write_spec.specs.Final.{final, new_number}
use Rattle.elf_write_spec.specs.Headers.{behind_locals, is_info_number, written_info}
use Rattle.elf_write_spec.specs.Output.{IsPlannedOutput, Output}
use Rattle.elf_write_spec.proofs.FinalEntries.{written_tables}
use Rattle.elf_write_spec.proofs.RawEntries.{all_listed, are_entries, final_listed, list_strings, raw_is}
use Rattle.elf_write_spec.proofs.TableTags.{AreTagsLeft, has-lasting, has-left, once-left, raw_tables, tables_read, tables_written, value_written}
use Rattle.elf_write_spec.proofs.WholeEdits.{entries_written}
use Rattle.elf_write_spec.proofs.WholeFacts.{Nowhere, ReadFacts, SectionAt, There, TypeAt, kept_is, moved_to, read_facts, type_at}
use Rattle.elf_write_spec.proofs.NumberedSections.{kept_as}
use Rattle.elf_write_spec.proofs.LinkedMatch.{names_link}
use Rattle.elf_image.specs.Needed.{lasting_types}

-- ## The rule by what it is of

abbrev strings_by : List EntryNumbers → List SectionHeader → SectionHeader → Bool
strings_by raw sections list =
    let strings = linked_section sections list in
    has_tag DT_STRTAB raw && tag_is_address raw DT_STRTAB strings && tag_fits raw DT_STRSZ strings (λ value s. nat_le value s.sh_size)

abbrev symbols_by : List EntryNumbers → Form → List SectionHeader → Bool
symbols_by raw form sections =
    let symbols = section_of_type SHT_DYNSYM sections in
    tag_is_address raw DT_SYMTAB symbols && tag_fits raw DT_SYMENT symbols (λ value _. value == symbol_size form)

abbrev hashes_by : List EntryNumbers → List SectionHeader → Bool
hashes_by raw sections = tag_is_address raw DT_HASH (section_of_type SHT_HASH sections) && tag_is_address raw DT_GNU_HASH
    (section_of_type SHT_GNU_HASH sections)

abbrev records_by : List EntryNumbers → List SectionHeader → ℕ → ℕ → ℕ → Bool
records_by raw sections tag count_tag type =
    let records = section_of_type type sections in
    tag_is_address raw tag records && tag_fits raw count_tag records (λ value s. s.sh_info == value)

abbrev versions_by : List EntryNumbers → List SectionHeader → Bool
versions_by raw sections =
    tag_is_address raw DT_VERSYM (section_of_type SHT_GNU_VERSYM sections)
    && records_by raw sections DT_VERDEF DT_VERDEFNUM SHT_GNU_VERDEF
    && records_by raw sections DT_VERNEED DT_VERNEEDNUM SHT_GNU_VERNEED

abbrev shares_by : List SectionHeader → SectionHeader → ℕ → Bool
shares_by sections list type = is_none_or (λ s. s.sh_link == list.sh_link) (section_of_type type sections)

abbrev texts_by : List SectionHeader → SectionHeader → Bool
texts_by sections list = shares_by sections list SHT_DYNSYM && shares_by sections list SHT_GNU_VERDEF
    && shares_by sections list SHT_GNU_VERNEED

abbrev agree_by : List EntryNumbers → Form → List SectionHeader → SectionHeader → Bool
agree_by raw form sections list =
    tags_come_once raw && strings_by raw sections list && symbols_by raw form sections && hashes_by raw sections && versions_by raw sections
    && texts_by sections list

-- the parts of the rule on the dynamic list
record Agree (raw : List EntryNumbers) (form : Form) (sections : List SectionHeader) (list : SectionHeader) : Type 0 where
  once : tags_come_once raw ≡ true
  strings : strings_by raw sections list ≡ true
  symbols : symbols_by raw form sections ≡ true
  hashes : hashes_by raw sections ≡ true
  versions : versions_by raw sections ≡ true
  texts : texts_by sections list ≡ true

module _ (raw : List EntryNumbers) (form : Form) (sections : List SectionHeader) (list : SectionHeader) where
  agree-parts : agree_by raw form sections list ≡ true → Agree raw form sections list
  agree-parts h =
      let a = tags_come_once raw in
      let b = strings_by raw sections list in
      let c = symbols_by raw form sections in
      let d = hashes_by raw sections in
      let e = versions_by raw sections in
      let five = and_parts (a && b && c && d && e) (texts_by sections list) h in
      let four = and_parts (a && b && c && d) e five.0 in
      let three = and_parts (a && b && c) d four.0 in
      let two = and_parts (a && b) c three.0 in
      let one = and_parts a b two.0 in
      record { once = one.0; strings = one.1; symbols = two.1; hashes = three.1; versions = four.1; texts = five.1 }

  agree-from : Agree raw form sections list → agree_by raw form sections list ≡ true
  agree-from is =
      let a = tags_come_once raw in
      let b = strings_by raw sections list in
      let c = symbols_by raw form sections in
      let d = hashes_by raw sections in
      let e = versions_by raw sections in
      and_from (a && b && c && d && e) (texts_by sections list)
      (and_from (a && b && c && d) e (and_from (a && b && c) d (and_from (a && b) c (and_from a b is.once is.strings) is.symbols) is.hashes)
      is.versions) is.texts

-- ## A tag that passes its test

-- what the tag's value is, where it was there at read
module _ (raw old : List EntryNumbers) (left : AreTagsLeft (raw_tables old) (raw_tables raw)) (value : ℕ → ℕ)
    (values : (tag : ℕ) → is_table_tag tag ≡ true → (n : ℕ) → value_of_tag tag raw ≡ Some n → n ≡ value tag) where
  tag_passes : (tag : ℕ) → is_table_tag tag ≡ true → (was now : Option SectionHeader) (before test : ℕ → SectionHeader → Bool)
      → is_none_or (λ n. is_some_and (λ s. before n s) was) (value_of_tag tag old) ≡ true
      → ((s : SectionHeader) (n : ℕ) → was ≡ Some s → before n s ≡ true → is_some_and (λ x. test (value tag) x) now ≡ true)
      → is_none_or (λ n. is_some_and (λ s. test n s) now) (value_of_tag tag raw) ≡ true
  tag_passes tag is_table was now before test h on = by_value (value_of_tag tag raw) refl
    where
      by_section : (n : ℕ) (o : Option SectionHeader) → was ≡ o → is_some_and (λ s. before n s) o ≡ true
          → is_some_and (λ x. test (value tag) x) now ≡ true
      by_section n None e passes = absurd (false≢true passes)
      by_section n (Some s) e passes = on s n e passes

      by_old : (o : Option ℕ) → value_of_tag tag old ≡ o → is_some o ≡ true → is_some_and (λ x. test (value tag) x) now ≡ true
      by_old None e there = absurd (false≢true there)
      by_old (Some n) e there = by_section n was refl (sym (ap (is_none_or (λ m. is_some_and (λ s. before m s) was)) e) ∙ h)

      by_value : (o : Option ℕ) → value_of_tag tag raw ≡ o → is_none_or (λ n. is_some_and (λ s. test n s) now) (value_of_tag tag raw) ≡ true
      by_value None e = ap (is_none_or (λ n. is_some_and (λ s. test n s) now)) e
      by_value (Some n) e =
          let is_there : has_tag tag old ≡ true = has-left tag is_table raw old left (ap is_some e) in
          ap (is_none_or (λ m. is_some_and (λ s. test m s) now)) e
          ∙ ap (λ m. is_some_and (λ s. test m s) now) (values tag is_table n e)
          ∙ by_old (value_of_tag tag old) refl is_there

-- ## The lists

tables-kept : (read now : Option (List Entry)) → edited.AreEntriesOf read now
    → tables_of (list_at (λ es. es) now) ≡ tables_of (list_at (λ es. es) read)
tables-kept None None h = refl
tables-kept None (Some now) h = absurd h
tables-kept (Some read) None h = absurd h
tables-kept (Some read) (Some now) h = h.tables

-- none of the entries that were read is a DT_NULL
read_listed : (w : Output) → IsPlannedOutput w → All IsListed (list_at (λ es. es) (image_at_read w.image).entries)
read_listed w is =
    let read : Image = is.edited.read in
    let itself = read_is_edited w.image.source read is.edited.is_read in
    subst (λ (x : Image). All IsListed (list_at (λ es. es) x.entries))
    (sym (at_read (image_of w.image.source) read w.image is.edited.is_read))
    (all_listed itself.read.entries read.entries itself.is_edit.entries)

-- sh_info of a section by its type
info_by : Resized → ImageSection → ℕ → ℕ
info_by r s type =
    if type == SHT_SYMTAB then behind_locals (final r.read r.image).symbols
    else if type == SHT_DYNSYM then behind_locals (final r.read r.image).dynamic_symbols
    else if type == SHT_GNU_VERDEF then length r.image.definitions
    else if type == SHT_GNU_VERNEED then length (final r.read r.image).needs
    else if is_info_number s then new_number r.image s.sh_info
    else s.sh_info

info_is : (r : Resized) (s : ImageSection) → written_info r.read r.image s ≡ info_by r s s.sh_type
unfolding info_by
info_is r s = refl

module _ (w : Output) (f : ReadFacts w) (i : ℕ) (at : SectionAt w f.parts i) where
  header_info : at.header.sh_info ≡ info_by (resized w.image) at.section at.old.sh_type
  header_info =
      ap (λ (h : SectionHeader). h.sh_info) at.written.has_header.fields ∙ info_is (resized w.image) at.section
      ∙ ap (λ (s : ImageSection). info_by (resized w.image) at.section s.sh_type) at.of_old.fields

  definitions_info : at.old.sh_type ≡ SHT_GNU_VERDEF → at.header.sh_info ≡ length w.image.definitions
  unfolding info_by
  definitions_info type = header_info ∙ ap (info_by (resized w.image) at.section) type

  needs_info : at.old.sh_type ≡ SHT_GNU_VERNEED → at.header.sh_info ≡ length (final (image_at_read w.image) w.image).needs
  unfolding info_by
  needs_info type = header_info ∙ ap (info_by (resized w.image) at.section) type

-- ## The list of a written file

module _ (w : Output) (is : IsPlannedOutput w) (f : ReadFacts w) (i : ℕ) (at : SectionAt w f.parts i) (type : at.old.sh_type ≡ SHT_DYNAMIC)
    (at_old : section_of_type SHT_DYNAMIC f.parts.sections ≡ Some at.old)
    (at_kept : kept_of_type SHT_DYNAMIC w.image ≡ Some (kept_as i at.number at.section)) where
  abbrev old_raw : List EntryNumbers
  old_raw = raw_entries f.parts

  read_tables : raw_tables old_raw ≡ tables_of (list_at (λ es. es) (image_at_read w.image).entries)
  unfolding entries_read
  read_tables =
      let (es, there, made) = bind_some (each (shown_entry (length (file_of f.parts)) (linked_texts f.parts at.old)) old_raw)
      (λ l. Some (Some l)) (image_at_read w.image).entries
      (sym (ap (entries_read f.parts) at_old) ∙ f.holds.entries) in
      let same : Some es ≡ (image_at_read w.image).entries = same_Some (Some es) (image_at_read w.image).entries made in
      tables_read (length (file_of f.parts)) (linked_texts f.parts at.old) old_raw es there
      (subst (λ (o : Option (List Entry)). All IsListed (list_at (λ l. l) o)) (sym same) (read_listed w is))
      ∙ ap (λ (o : Option (List Entry)). tables_of (list_at (λ l. l) o)) same

  abbrev last_entries : List Entry
  last_entries = list_at (λ es. es) (final (image_at_read w.image) w.image).entries

  -- the list of a written file names the tables that were read, but for needed versions of which none is left
  tables_left : AreTagsLeft (raw_tables old_raw) (raw_tables w.raw)
  tables_left =
      let now : raw_tables w.raw ≡ tables_of last_entries =
      tables_written (resized w.image) w.plan (list_strings w is f i at type) last_entries w.raw (are_entries w is f i at type)
      (final_listed w f) in
      let was : tables_of (list_at (λ es. es) w.image.entries) ≡ raw_tables old_raw =
      tables-kept (image_at_read w.image).entries w.image.entries f.edit.entries ∙ sym read_tables in
      let written : AreTagsLeft (tables_of (list_at (λ es. es) w.image.entries)) (tables_of last_entries) =
      subst (λ (o : Option (List Entry)). AreTagsLeft (tables_of (list_at (λ es. es) w.image.entries)) (tables_of (list_at (λ es. es) o)))
      (sym (entries_written (image_at_read w.image) w.image)) (written_tables (image_at_read w.image) w.image) in
      subst (λ (l : List ℕ). AreTagsLeft l (raw_tables w.raw)) was
      (subst (λ (l : List ℕ). AreTagsLeft (tables_of (list_at (λ es. es) w.image.entries)) l) (sym now) written)

  abbrev value : ℕ → ℕ
  value = table_value (resized w.image) w.plan

  values : (tag : ℕ) → is_table_tag tag ≡ true → (n : ℕ) → value_of_tag tag w.raw ≡ Some n → n ≡ value tag
  values = value_written (resized w.image) w.plan (list_strings w is f i at type) last_entries w.raw (are_entries w is f i at type)
      (final_listed w f)

  agreed : Agree old_raw f.parts.opened.form f.parts.sections at.old
  agreed = agree-parts old_raw f.parts.opened.form f.parts.sections at.old
      (sym (ap (is_none_or (λ list. dynamic_tables_agree f.parts list)) at_old) ∙ f.rules.tables)

  -- ## Tags of the one section of a type

  passes : (type : ℕ) → is_one_of lasting_types type ≡ true → (tag : ℕ) → is_table_tag tag ≡ true → (before test : ℕ → SectionHeader → Bool)
      → is_none_or (λ n. is_some_and (λ s. before n s) (section_of_type type f.parts.sections)) (value_of_tag tag old_raw) ≡ true
      → ((j : ℕ) (a : SectionAt w f.parts j) → a.old.sh_type ≡ type → kept_of_type type w.image ≡ Some (kept_as j a.number a.section) → (n : ℕ)
      → before n a.old ≡ true
      → test (value tag) a.header ≡ true)
      → is_none_or (λ n. is_some_and (λ s. test n s) (section_of_type type w.headers)) (value_of_tag tag w.raw) ≡ true
  passes type lasting tag is_table before test h on =
      tag_passes w.raw old_raw tables_left value values tag is_table (section_of_type type f.parts.sections)
      (section_of_type type w.headers) before test h
      (λ s n there passed. by_at (type_at w is f type lasting) s n there passed)
    where
      by_at : TypeAt w f.parts type → (s : SectionHeader) (n : ℕ) → section_of_type type f.parts.sections ≡ Some s → before n s ≡ true
          → is_some_and (λ x. test (value tag) x) (section_of_type type w.headers) ≡ true
      by_at (Nowhere none _ _) s n there passed = absurd (none-some s (sym none ∙ there))
      by_at (There j a is_type a_old a_header a_kept) s n there passed =
          ap (is_some_and (λ x. test (value tag) x)) a_header
          ∙ on j a is_type a_kept n (ap (before n) (same_Some a.old s (sym a_old ∙ there)) ∙ passed)

  -- an address
  address_right : (type : ℕ) → is_one_of lasting_types type ≡ true → (tag : ℕ) → is_table_tag tag ≡ true → value tag ≡ address_of_type w.image w.plan type
      → tag_is_address old_raw tag (section_of_type type f.parts.sections) ≡ true
      → tag_is_address w.raw tag (section_of_type type w.headers) ≡ true
  address_right type lasting tag is_table says h =
      passes type lasting tag is_table (λ n s. is_allocated s && s.sh_addr == n) (λ n s. is_allocated s && s.sh_addr == n) h
      (λ j a is_type a_kept n passed.
      let placed : address_of_type w.image w.plan type ≡ a.place.sh_addr =
      ap (λ (o : Option KeptSection). unwrap_or (place_of_kept w.plan o >>= λ p. Some p.sh_addr) 0) a_kept
      ∙ ap (λ (o : Option Place). unwrap_or (o >>= λ p. Some p.sh_addr) 0) a.is_place in
      and_from (is_allocated a.header) (a.header.sh_addr == value tag)
      (ap (λ m. is_set SHF_ALLOC m) a.flags ∙ (and_parts (is_allocated a.old) (a.old.sh_addr == n) passed).0)
      (eq-eqb a.header.sh_addr (value tag) (a.address ∙ sym placed ∙ sym says)))

  -- a number of records
  records_right : (type : ℕ) → is_one_of lasting_types type ≡ true → (tag count_tag : ℕ) → is_table_tag tag ≡ true → is_table_tag count_tag ≡ true
      → value tag ≡ address_of_type w.image w.plan type
      → ((j : ℕ) (a : SectionAt w f.parts j) → a.old.sh_type ≡ type → a.header.sh_info ≡ value count_tag)
      → records_by old_raw f.parts.sections tag count_tag type ≡ true → records_by w.raw w.headers tag count_tag type ≡ true
  records_right type lasting tag count_tag is_table is_count says counts h =
      let both = and_parts (tag_is_address old_raw tag (section_of_type type f.parts.sections))
      (tag_fits old_raw count_tag (section_of_type type f.parts.sections) (λ value s. s.sh_info == value)) h in
      and_from (tag_is_address w.raw tag (section_of_type type w.headers))
      (tag_fits w.raw count_tag (section_of_type type w.headers) (λ value s. s.sh_info == value))
      (address_right type lasting tag is_table says both.0)
      (passes type lasting count_tag is_count (λ n s. s.sh_info == n) (λ n s. s.sh_info == n) both.1 (λ j a is_type a_kept n passed.
      eq-eqb a.header.sh_info (value count_tag) (counts j a is_type)))

  symbols_right : symbols_by w.raw w.image.form w.headers ≡ true
  symbols_right =
      let both = and_parts (tag_is_address old_raw DT_SYMTAB (section_of_type SHT_DYNSYM f.parts.sections))
      (tag_fits old_raw DT_SYMENT (section_of_type SHT_DYNSYM f.parts.sections) (λ n _. n == symbol_size f.parts.opened.form))
      agreed.symbols in
      and_from (tag_is_address w.raw DT_SYMTAB (section_of_type SHT_DYNSYM w.headers))
      (tag_fits w.raw DT_SYMENT (section_of_type SHT_DYNSYM w.headers) (λ n _. n == symbol_size w.image.form))
      (address_right SHT_DYNSYM refl DT_SYMTAB refl refl both.0)
      (passes SHT_DYNSYM refl DT_SYMENT refl (λ n _. n == symbol_size f.parts.opened.form) (λ n _. n == symbol_size w.image.form) both.1
      (λ j a is_type a_kept n passed.
      eq-eqb (symbol_size w.image.form) (symbol_size w.image.form) refl))

  hashes_right : hashes_by w.raw w.headers ≡ true
  hashes_right =
      let both = and_parts (tag_is_address old_raw DT_HASH (section_of_type SHT_HASH f.parts.sections))
      (tag_is_address old_raw DT_GNU_HASH (section_of_type SHT_GNU_HASH f.parts.sections)) agreed.hashes in
      and_from (tag_is_address w.raw DT_HASH (section_of_type SHT_HASH w.headers))
      (tag_is_address w.raw DT_GNU_HASH (section_of_type SHT_GNU_HASH w.headers))
      (address_right SHT_HASH refl DT_HASH refl refl both.0) (address_right SHT_GNU_HASH refl DT_GNU_HASH refl refl both.1)

  versions_right : versions_by w.raw w.headers ≡ true
  versions_right =
      let outer = and_parts (tag_is_address old_raw DT_VERSYM
      (section_of_type SHT_GNU_VERSYM f.parts.sections) && records_by old_raw f.parts.sections DT_VERDEF DT_VERDEFNUM SHT_GNU_VERDEF)
      (records_by old_raw f.parts.sections DT_VERNEED DT_VERNEEDNUM SHT_GNU_VERNEED) agreed.versions in
      let inner = and_parts (tag_is_address old_raw DT_VERSYM (section_of_type SHT_GNU_VERSYM f.parts.sections))
      (records_by old_raw f.parts.sections DT_VERDEF DT_VERDEFNUM SHT_GNU_VERDEF) outer.0 in
      and_from (tag_is_address w.raw DT_VERSYM
      (section_of_type SHT_GNU_VERSYM w.headers) && records_by w.raw w.headers DT_VERDEF DT_VERDEFNUM SHT_GNU_VERDEF)
      (records_by w.raw w.headers DT_VERNEED DT_VERNEEDNUM SHT_GNU_VERNEED)
      (and_from (tag_is_address w.raw DT_VERSYM (section_of_type SHT_GNU_VERSYM w.headers))
      (records_by w.raw w.headers DT_VERDEF DT_VERDEFNUM SHT_GNU_VERDEF)
      (address_right SHT_GNU_VERSYM refl DT_VERSYM refl refl inner.0)
      (records_right SHT_GNU_VERDEF refl DT_VERDEF DT_VERDEFNUM refl refl refl (λ j a is_type. definitions_info w f j a is_type) inner.1))
      (records_right SHT_GNU_VERNEED refl DT_VERNEED DT_VERNEEDNUM refl refl refl (λ j a is_type. needs_info w f j a is_type) outer.1)

  -- ## The strings

  link_is : at.section.sh_link ≡ at.old.sh_link
  link_is = ap (λ (s : ImageSection). s.sh_link) at.of_old.fields

  -- the section of the strings, and its place
  strings_at : (j : ℕ) (a : SectionAt w f.parts j) → a.number ≡ at.old.sh_link → strings_place w.image w.plan ≡ Some a.place
  strings_at j a own =
      let n : ℕ = at.old.sh_link in
      let link : link_of_type SHT_DYNAMIC w.image ≡ Some at.section.sh_link =
      ap (λ (o : Option KeptSection). o >>= λ s. Some s.section.sh_link) at_kept in
      let number : dynamic_strings_number w.image ≡ Some n = ap (λ o. first_there o (link_of_type SHT_DYNSYM w.image)) link
      ∙ ap (λ m. Some m) link_is in
      ap (λ (o : Option ℕ). place_of_kept w.plan (o >>= λ m. kept_at_number m w.image)) number
      ∙ ap (place_of_kept w.plan) (ap (λ (m : ℕ). kept_at_number m w.image) (sym own) ∙ kept_is w is f j a) ∙ a.is_place

  string_passes : (tag : ℕ) → is_table_tag tag ≡ true → (before test : ℕ → SectionHeader → Bool)
      → is_none_or (λ n. is_some_and (λ s. before n s) (linked_section f.parts.sections at.old)) (value_of_tag tag old_raw) ≡ true
      → ((j : ℕ) (a : SectionAt w f.parts j) → a.number ≡ at.old.sh_link → (n : ℕ) → before n a.old ≡ true → test (value tag) a.header ≡ true)
      → is_none_or (λ n. is_some_and (λ s. test n s) (linked_section w.headers at.header)) (value_of_tag tag w.raw) ≡ true
  string_passes tag is_table before test h on =
      tag_passes w.raw old_raw tables_left value values tag is_table (linked_section f.parts.sections at.old)
      (linked_section w.headers at.header) before test h (λ s n there passed.
      let (j, a, own, new) =
      moved_to w is f i at.old.sh_link at (slice_get_within f.parts.sections at.old.sh_link s there)
      (names_link at (ap (λ m. m == SHT_NULL) type)) in
      let same : a.old ≡ s = same_Some a.old s (sym a.is_old ∙ ap (slice_get f.parts.sections) own ∙ there) in
      ap (is_some_and (λ x. test (value tag) x)) (ap (slice_get w.headers) (at.link ∙ new) ∙ a.is_header)
      ∙ on j a own n (ap (before n) same ∙ passed))

  strings_right : strings_by w.raw w.headers at.header ≡ true
  strings_right =
      let was = linked_section f.parts.sections at.old in
      let now = linked_section w.headers at.header in
      let outer = and_parts (has_tag DT_STRTAB old_raw && tag_is_address old_raw DT_STRTAB was)
      (tag_fits old_raw DT_STRSZ was (λ n s. nat_le n s.sh_size)) agreed.strings in
      let inner = and_parts (has_tag DT_STRTAB old_raw) (tag_is_address old_raw DT_STRTAB was) outer.0 in
      and_from (has_tag DT_STRTAB w.raw && tag_is_address w.raw DT_STRTAB now) (tag_fits w.raw DT_STRSZ now (λ n s. nat_le n s.sh_size))
      (and_from (has_tag DT_STRTAB w.raw) (tag_is_address w.raw DT_STRTAB now) (has-lasting DT_STRTAB refl w.raw old_raw tables_left refl inner.0)
      (string_passes DT_STRTAB refl (λ n s. is_allocated s && s.sh_addr == n) (λ n s. is_allocated s && s.sh_addr == n) inner.1
      (λ j a own n passed.
      and_from (is_allocated a.header) (a.header.sh_addr == value DT_STRTAB)
      (ap (λ m. is_set SHF_ALLOC m) a.flags ∙ (and_parts (is_allocated a.old) (a.old.sh_addr == n) passed).0)
      (eq-eqb a.header.sh_addr (value DT_STRTAB)
      (a.address ∙ sym (ap (λ (o : Option Place). unwrap_or (o >>= λ p. Some p.sh_addr) 0) (strings_at j a own)))))))
      (string_passes DT_STRSZ refl (λ n s. nat_le n s.sh_size) (λ n s. nat_le n s.sh_size) outer.1 (λ j a own n passed.
      let size : value DT_STRSZ ≡ a.place.sh_size = ap (λ (o : Option Place). unwrap_or (o >>= λ p. Some p.sh_size) 0) (strings_at j a own) in
      let same : value DT_STRSZ ≡ a.header.sh_size = size ∙ sym a.size in
      le-leb (value DT_STRSZ) a.header.sh_size (subst (λ m. value DT_STRSZ ≤ m) same (omega arith))))

  -- ## Texts

  shared : (type : ℕ) → is_one_of lasting_types type ≡ true → shares_by f.parts.sections at.old type ≡ true → shares_by w.headers at.header type ≡ true
  shared type lasting h = by_at (type_at w is f type lasting)
    where
      by_at : TypeAt w f.parts type → shares_by w.headers at.header type ≡ true
      by_at (Nowhere _ none _) = ap (is_none_or (λ (s : SectionHeader). s.sh_link == at.header.sh_link)) none
      by_at (There j a is_type a_old a_header a_kept) =
          let was : a.old.sh_link ≡ at.old.sh_link =
          eqb-true a.old.sh_link at.old.sh_link (sym (ap (is_none_or (λ (s : SectionHeader). s.sh_link == at.old.sh_link)) a_old) ∙ h) in
          ap (is_none_or (λ (s : SectionHeader). s.sh_link == at.header.sh_link)) a_header
          ∙ eq-eqb a.header.sh_link at.header.sh_link (a.link ∙ ap (new_number w.image) was ∙ sym at.link)

  texts_right : texts_by w.headers at.header ≡ true
  texts_right =
      let was = λ (t : ℕ). shares_by f.parts.sections at.old t in
      let now = λ (t : ℕ). shares_by w.headers at.header t in
      let outer = and_parts (was SHT_DYNSYM && was SHT_GNU_VERDEF) (was SHT_GNU_VERNEED) agreed.texts in
      let inner = and_parts (was SHT_DYNSYM) (was SHT_GNU_VERDEF) outer.0 in
      and_from (now SHT_DYNSYM && now SHT_GNU_VERDEF) (now SHT_GNU_VERNEED)
      (and_from (now SHT_DYNSYM) (now SHT_GNU_VERDEF) (shared SHT_DYNSYM refl inner.0) (shared SHT_GNU_VERDEF refl inner.1))
      (shared SHT_GNU_VERNEED refl outer.1)

  all_right : agree_by w.raw w.image.form w.headers at.header ≡ true
  all_right = agree-from w.raw w.image.form w.headers at.header (record {
    once = once-left w.raw old_raw tables_left agreed.once;
    strings = strings_right;
    symbols = symbols_right;
    hashes = hashes_right;
    versions = versions_right;
    texts = texts_right;
  })

pub tables_right : (w : Output) → IsPlannedOutput w → HasWrittenParts w → IsTrue (are_dynamic_tables_right (written_parts w))
tables_right w is has = by_at (read_facts w is) (type_at w is (read_facts w is) SHT_DYNAMIC refl)
  where
    by_at : (f : ReadFacts w) → TypeAt w f.parts SHT_DYNAMIC
        → is_none_or (λ list. dynamic_tables_agree (written_parts w) list) (section_of_type SHT_DYNAMIC w.headers) ≡ true
    by_at f (Nowhere _ none _) = ap (is_none_or (λ list. dynamic_tables_agree (written_parts w) list)) none
    by_at f (There i at type at_old at_header at_kept) =
        ap (is_none_or (λ list. dynamic_tables_agree (written_parts w) list)) at_header
        ∙ ap (λ (raw : List EntryNumbers). agree_by raw w.image.form w.headers at.header) (raw_is w is has at.header at_header)
        ∙ all_right w is f i at type at_old at_kept
