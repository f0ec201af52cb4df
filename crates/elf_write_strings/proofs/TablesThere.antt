-- The string tables that sections which are there name: each is there, and a string table.
use Rattle.std.proofs.Common.{◌≡◌, ◌<◌, ℕ, Bool, true, false, List, [], length, refl, sym, ap, ◌∙◌, subst, Option, Some, None, arith, inl, inr}
use Rattle.std.specs.Prelude.{◌&&◌, ◌||◌, not, ◌==◌, IsTrue, filter, nat_lt, unwrap_or}
use Rattle.std.specs.List.{list_all, slice_get}
use Rattle.std.proofs.lemmas.Bool.{and_parts, eq-eqb, eqb-true, false≢true, ltb-true, ne_eqb}
use Rattle.std.proofs.lemmas.Option.{none-some, same_Some, slice_get_within}
use Rattle.patch_bytes.specs.Memory.{◌>>=◌}
use Rattle.elf_format.specs.declared.constants.TheConstants.{SHT_DYNAMIC, SHT_DYNSYM, SHT_NULL, SHT_STRTAB, SHT_SYMTAB}
use Rattle.elf_format.specs.declared.records.SectionHeader.{SectionHeader}
use Rattle.elf_format.specs.File.{Opened, Parts, sections_of}
use Rattle.elf_format.specs.Image.{Image, ImageSection}
use Rattle.elf_format.specs.Options.{first_there, is_none_or, is_one_of, is_some_and}
use Rattle.elf_format.specs.Records.{section_header}
use Rattle.elf_format.specs.Rules.{are_linked, are_tables_linked, are_whole, infos_are_sections, is_file_kind, is_one_of_each, links_to, names_are_texts, no_extended_numbers, relocations_fit, symbols_have_sections, text_users}
use Rattle.elf_format.proofs.ForCallers.Lengths.{length-sections}
use Rattle.elf_format.proofs.ForCallers.Placed.{IsIn-slice_get, passes_picked}
use Rattle.elf_image.specs.Kept.{KeptSection, dynamic_strings_number, is_numbered, link_of_type}
use Rattle.elf_image.specs.Needed.{is_info_number, is_lasting, lasting_types, names_section}
use Rattle.elf_write_spec.specs.Ready.{IsEditedReady}
use Rattle.elf_write_strings.specs.WrittenStrings.{IsEditedTable, content_read}
use Rattle.elf_write_strings.specs.VersionPlaces.{content_in}
use Rattle.elf_write_strings.proofs.ReadTables.{ready_edit}
use Rattle.elf_write_spec.proofs.ForCallers.HeaderTables.{header_bytes}
use Rattle.elf_write_spec.proofs.ForCallers.NumberedSections.{kept_as}
use Rattle.elf_write_spec.proofs.ForCallers.WholeLists.{there_at}
use Rattle.elf_write_spec.proofs.ForCallers.WholeEdits.{Nowhere, ReadFacts, SectionRead, StaticAt, Stays, There, TypeAt, Went, kept_is, lasting_there, length-read, named_there, read_facts, static_at, type_at}

-- ## The section of names

-- the test on it, for a header that is there
names_test : (o : Opened) (sections : List SectionHeader) → sections_of o ≡ Some sections → o.header.e_shstrndx < o.header.e_shnum
    → (s : SectionHeader) → slice_get sections o.header.e_shstrndx ≡ Some s → names_are_texts o ≡ (s.sh_type == SHT_STRTAB)
names_test o sections h less s at =
    let (bytes, there, made) = header_bytes o sections h o.header.e_shstrndx less s at in
    ap (is_none_or (λ b. (section_header o.form b).sh_type == SHT_STRTAB)) there
    ∙ ap (λ (x : SectionHeader). x.sh_type == SHT_STRTAB) made

-- the number of the section of names is one of a section, and that is a string table
record AreNamesRead (o : Opened) : Type 0 where
  pub number : o.header.e_shstrndx < o.header.e_shnum
  pub texts : names_are_texts o ≡ true

names_read : (o : Opened) → is_file_kind o ≡ true → AreNamesRead o
names_read o h =
    let named = (and_parts _ (no_extended_numbers o) h).0 in
    let both = and_parts _ (names_are_texts o) named in
    record {
      number = ltb-true o.header.e_shstrndx o.header.e_shnum (and_parts _ (nat_lt o.header.e_shstrndx o.header.e_shnum) both.0).1;
      texts = both.1;
    }

second_of_four : (a b c d : Bool) → b ≡ true → (a || b || c || d) ≡ true
second_of_four true b c d h = refl
second_of_four false true c d h = refl
second_of_four false false c d h = absurd (false≢true h)

-- ## Users of texts

-- the section that a section with texts links to is a string table
links_to_strings : (p : Parts) → IsTrue (are_tables_linked p) → (i : ℕ) (s : SectionHeader) → slice_get p.sections i ≡ Some s
    → is_one_of text_users s.sh_type ≡ true → links_to SHT_STRTAB p.sections s ≡ true
links_to_strings p linked i s at user =
    let fifth = and_parts _ (infos_are_sections p) linked in
    let fourth = and_parts _ (relocations_fit p) fifth.0 in
    let third = and_parts _ (symbols_have_sections p) fourth.0 in
    let second = and_parts _ (are_whole p.opened.form p.sections) third.0 in
    let first = and_parts (is_one_of_each p.segments p.sections) (are_linked p.sections) second.0 in
    let texts = and_parts (list_all (λ x. links_to SHT_STRTAB p.sections x) (filter (λ x. is_one_of text_users x.sh_type) p.sections)) _ first.1 in
    passes_picked s p.sections (IsIn-slice_get p.sections i s at) (λ x. links_to SHT_STRTAB p.sections x)
    (λ x. is_one_of text_users x.sh_type) texts.0 user

-- A string table that is there.
pub record TableThere (read image : Image) (p : Parts) (number : ℕ) : Type 0 where
  pub i : ℕ
  pub at : SectionRead read image p i
  pub is_number : at.number ≡ number
  pub type : at.section.sh_type ≡ SHT_STRTAB
  pub old_type : at.old.sh_type ≡ SHT_STRTAB

-- no user of texts is a null section
not_null : (type : ℕ) → is_one_of text_users type ≡ true → not (type == SHT_NULL) ≡ true
not_null type user = ap (λ (b : Bool). not b) (ne_eqb type SHT_NULL (λ same.
    false≢true (ap (is_one_of text_users) (sym same) ∙ user)))

named_by : (a c d : Bool) (b : Bool) → a ≡ true → b ≡ true → (a && (b || c && d)) ≡ true
named_by true c d true _ _ = refl
named_by true c d false _ h = absurd (false≢true h)
named_by false c d b h _ = absurd (false≢true h)

module _ (read image : Image) (f : ReadFacts read image) where
  -- the section that one with texts links to
  pub link_there : (i : ℕ) → (at : SectionRead read image f.parts i) → is_one_of text_users at.old.sh_type ≡ true
      → TableThere read image f.parts at.section.sh_link
  link_there i at user = by_header (slice_get f.parts.sections at.old.sh_link) refl (links_to_strings f.parts f.rules.linked at.number at.old at.is_old user)
    where
      link : at.section.sh_link ≡ at.old.sh_link
      link = ap (λ (x : ImageSection). x.sh_link) at.of_old.fields

      typed : at.section.sh_type ≡ at.old.sh_type
      typed = ap (λ (x : ImageSection). x.sh_type) at.of_old.fields

      by_header : (o : Option SectionHeader) → slice_get f.parts.sections at.old.sh_link ≡ o → is_some_and (λ (l : SectionHeader). l.sh_type == SHT_STRTAB) o ≡ true
          → TableThere read image f.parts at.section.sh_link
      by_header None there is = absurd (false≢true is)
      by_header (Some l) there is =
          let n : ℕ = at.section.sh_link in
          let there_now : slice_get f.parts.sections n ≡ Some l = ap (slice_get f.parts.sections) link ∙ there in
          let below : n < length f.parts.sections = slice_get_within f.parts.sections n l there_now in
          let named : names_section at.section n ≡ true =
          named_by (not (at.section.sh_type == SHT_NULL)) (is_info_number at.section) (n == at.section.sh_info) (n == at.section.sh_link)
          (not_null at.section.sh_type (ap (is_one_of text_users) typed ∙ user)) (eq-eqb n at.section.sh_link refl) in
          let (j, to, number) = named_there read image f i n at below named in
          let same : l ≡ to.old = same_Some l to.old (sym there_now ∙ ap (slice_get f.parts.sections) (sym number) ∙ to.is_old) in
          let old_type : to.old.sh_type ≡ SHT_STRTAB = ap (λ (h : SectionHeader). h.sh_type) (sym same) ∙ eqb-true l.sh_type SHT_STRTAB is in
          record {
            i = j;
            at = to;
            is_number = number;
            type = ap (λ (x : ImageSection). x.sh_type) to.of_old.fields ∙ old_type;
            old_type = old_type;
          }

  -- the table that the section of a type links to, which has texts
  user_there : (type number : ℕ) → is_one_of text_users type ≡ true → link_of_type type image ≡ Some number → TypeAt read image f.parts type
      → TableThere read image f.parts number
  user_there type number user linked (Nowhere was now) =
      absurd (none-some number (sym (ap (λ (o : Option KeptSection). o >>= λ s. Some s.section.sh_link) now) ∙ linked))
  user_there type number user linked (There i at old_typed typed was now) =
      let own : at.section.sh_link ≡ number =
      same_Some at.section.sh_link number (sym (ap (λ (o : Option KeptSection). o >>= λ s. Some s.section.sh_link) now) ∙ linked) in
      subst (TableThere read image f.parts) own (link_there i at (ap (is_one_of text_users) old_typed ∙ user))

  pub linked_there : (type number : ℕ) → is_one_of lasting_types type ≡ true → is_one_of text_users type ≡ true → link_of_type type image ≡ Some number
      → TableThere read image f.parts number
  linked_there type number lasting user linked = user_there type number user linked (type_at read image f type lasting)

  -- the dynamic strings
  pub dynamic_there : (number : ℕ) → dynamic_strings_number image ≡ Some number → TableThere read image f.parts number
  dynamic_there number linked = by_list (link_of_type SHT_DYNAMIC image) refl linked
    where
      by_list : (o : Option ℕ) → link_of_type SHT_DYNAMIC image ≡ o → first_there o (link_of_type SHT_DYNSYM image) ≡ Some number
          → TableThere read image f.parts number
      by_list None o_is h = linked_there SHT_DYNSYM number refl refl h
      by_list (Some n) o_is h = linked_there SHT_DYNAMIC number refl refl (o_is ∙ h)

  -- the names of the static symbols
  pub static_there : (number : ℕ) → link_of_type SHT_SYMTAB image ≡ Some number → TableThere read image f.parts number
  static_there number linked = by_static (static_at read image f)
    where
      by_static : StaticAt read image f.parts → TableThere read image f.parts number
      by_static (Stays at) = user_there SHT_SYMTAB number refl linked at
      by_static (Went old found gone) =
          absurd (none-some number (sym (ap (λ (o : Option KeptSection). o >>= λ s. Some s.section.sh_link) gone) ∙ linked))

  -- the names of the sections
  pub names_there : TableThere read image f.parts image.header.e_shstrndx
  names_there =
      let p : Parts = f.parts in
      let o : Opened = p.opened in
      let n : ℕ = o.header.e_shstrndx in
      let names = names_read o f.rules.file_kind in
      let below : n < length p.sections = let number = names.number in omega (arith, number, length-sections o p.sections f.are_parts.sections) in
      let (was, was_at) = there_at read.sections n (omega (arith, below, length-read read image f)) in
      let was_number : read.header.e_shstrndx ≡ n = ap (λ h. h.e_shstrndx) f.holds.header in
      let now_number : image.header.e_shstrndx ≡ n = ap (λ h. h.e_shstrndx) f.edit.header ∙ was_number in
      let lasts : is_lasting read (kept_as n n was) ≡ true =
      second_of_four (n == 0) (n == read.header.e_shstrndx) (is_numbered (dynamic_strings_number read) (kept_as n n was))
      (is_one_of lasting_types was.sh_type) (eq-eqb n read.header.e_shstrndx (sym was_number)) in
      let (j, at, number) = lasting_there read image f n was was_at lasts in
      let old_type : at.old.sh_type ≡ SHT_STRTAB =
      eqb-true at.old.sh_type SHT_STRTAB
      (sym (names_test o p.sections f.are_parts.sections names.number at.old (ap (slice_get p.sections) (sym number) ∙ at.is_old)) ∙ names.texts) in
      record {
        i = j;
        at = at;
        is_number = number ∙ sym now_number;
        type = ap (λ (x : ImageSection). x.sh_type) at.of_old.fields ∙ old_type;
        old_type = old_type;
      }

  -- each table of which texts may change
  pub edited_there : (number : ℕ) → IsEditedTable image number → TableThere read image f.parts number
  edited_there number (inl is) = dynamic_there number is
  edited_there number (inr (inl is)) = static_there number is
  edited_there number (inr (inr is)) = subst (TableThere read image f.parts) is names_there

  -- ## The bytes of a table

  -- the bytes of a table are those that were read
  pub content_at : (i : ℕ) → (at : SectionRead read image f.parts i) → content_read image at.number ≡ at.section.content
  content_at i at =
      ap (λ (o : Option KeptSection). unwrap_or (o >>= λ s. Some s.section.content) []) (kept_is read image f i at)

  pub content_same : (number : ℕ) → TableThere read image f.parts number → content_in read.sections number ≡ content_read image number
  content_same number t =
      let at = t.at in
      let here : content_in read.sections at.number ≡ content_read image at.number =
      ap (λ (o : Option ImageSection). elim o as (λ _. List ℕ) [ Some s ↦ s.content | None ↦ [] ]) at.is_was
      ∙ ap (λ (x : ImageSection). x.content) (sym at.renamed) ∙ sym (content_at t.i at) in
      subst (λ (n : ℕ). content_in read.sections n ≡ content_read image n) t.is_number here

-- a table of which texts may change has the bytes that were read
pub edited_content : (read image : Image) → IsEditedReady read image → (number : ℕ) → IsEditedTable image number
    → content_in read.sections number ≡ content_read image number
edited_content read image is number edited =
    let f = read_facts read image (ready_edit is) in
    content_same read image f number (edited_there read image f number edited)

-- a table that a section of a type that lasts links to has the bytes that were read
pub linked_content : (read image : Image) → IsEditedReady read image → (type number : ℕ) → is_one_of lasting_types type ≡ true
    → is_one_of text_users type ≡ true → link_of_type type image ≡ Some number → content_in read.sections number ≡ content_read image number
linked_content read image is type number lasting user linked =
    let f = read_facts read image (ready_edit is) in
    content_same read image f number (linked_there read image f type number lasting user linked)
