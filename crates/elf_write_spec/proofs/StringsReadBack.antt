-- The dynamic strings of a written file: DT_STRSZ leaves all of them to be read.
use Rattle.std.proofs.Common.{◌≡◌, ℕ, zero, suc, Bool, true, false, cond, eqb, List, [], ◌∷◌, length, refl, sym, ap, ◌∙◌, subst, Option, Some, None}
use Rattle.std.specs.Prelude.{find, unwrap_or, ◌==◌}
use Rattle.std.specs.List.{AllByRecursion}
use Rattle.std.proofs.lemmas.Bool.{and_parts, eqb-true, false≢true}
use Rattle.std.proofs.lemmas.List.Elements.{recursion_from_All}
use Rattle.std.proofs.lemmas.Option.{none-some, same_Some}
use Rattle.patch_bytes.specs.declared.number.Wide.{Wide}
use Rattle.patch_bytes.specs.declared.number.Wide.TheVariants.{W32, W64}
use Rattle.patch_bytes.specs.Memory.{◌>>=◌, Keeps, Memory, bytes_at, memory_of, nowhere}
use Rattle.patch_bytes.proofs.MemoryLaws.{Keeps-refl}
use Rattle.elf_format.specs.declared.constants.TheConstants.{DT_STRSZ, SHT_DYNAMIC, SHT_DYNSYM, SHT_GNU_VERDEF, SHT_GNU_VERNEED, SHT_STRTAB}
use Rattle.elf_format.specs.declared.form.Form.{Form}
use Rattle.elf_format.specs.declared.records.EntryNumbers.{EntryNumbers}
use Rattle.elf_format.specs.declared.records.SectionHeader.{SectionHeader}
use Rattle.elf_format.specs.Dynamic.{Auto, Entry, Integer, Text, entries_at, value_of_tag}
use Rattle.elf_format.specs.File.{section_of_type}
use Rattle.elf_format.specs.Form.{by_class}
use Rattle.elf_format.specs.Options.{first_there, list_at}
use Rattle.elf_format.specs.Places.{Place}
use Rattle.elf_format.specs.Rules.{linked_texts, raw_entries, shares_texts, texts_are_shared}
use Rattle.elf_format.specs.Views.{first_by_tag, section_memory}
use Rattle.elf_format.proofs.ForCallers.ViewsAgree.{agrees, test_at}
use Rattle.elf_image.specs.DynamicList.{IsListed, is_number_tag, is_text_tag}
use Rattle.elf_image.specs.Kept.{KeptSection, dynamic_strings_number, image_at_read, kept_at_number, link_of_type}
use Rattle.elf_layout_plan.specs.Memory.{Resized}
use Rattle.elf_layout_plan.specs.Plan.{Plan, resized}
use Rattle.elf_write_spec.specs.ReadBack.{HasWrittenParts, written_parts}
use Rattle.elf_write_spec.specs.Contents.{AreEntriesOf, IsEntryOf, content_at_number, place_of_kept, table_value}
use Rattle.elf_write_spec.specs.Final.{final}
use Rattle.elf_write_spec.specs.Output.{IsPlannedOutput, Output, written_bytes}
use Rattle.elf_write_spec.proofs.ContentsReadBack.{Linked, entries_content, link_is, size_is, texts_are}
use Rattle.elf_write_spec.proofs.RawEntries.{final_listed, raw_is}
use Rattle.elf_write_spec.proofs.TextsRead.{whole-Keeps}
use Rattle.elf_write_spec.proofs.WholeFacts.{ReadFacts, SectionAt, There, Nowhere, kept_is, type_at}
use Rattle.elf_write_spec.proofs.NumberedSections.{kept_as}

-- ## Without a dynamic list

no_bytes : (wide : Wide) (a : ℕ) → bytes_at (by_class wide 8 16) nowhere a ≡ None
unfolding bytes_at
no_bytes W32 a = refl
no_bytes W64 a = refl

none_bind : {A B : Type 0} (o : Option A) (g : A → Option B) → o ≡ None → (o >>= g) ≡ None
none_bind o g none = ap (λ v. v >>= g) none

no_entries : (room : ℕ) (form : Form) → entries_at room form nowhere 0 ≡ None
unfolding entries_at
no_entries zero form = refl
no_entries (suc room) form = none_bind (bytes_at (by_class form.wide 8 16) nowhere 0) _ (no_bytes form.wide 0)

-- ## The value of DT_STRSZ

module _ (r : Resized) (plan : Plan) (strings : List ℕ) where
  entry_value : (e : Entry) (x : EntryNumbers) → IsEntryOf r plan strings e x → IsListed e → x.d_tag ≡ DT_STRSZ
      → x.d_value ≡ table_value r plan DT_STRSZ
  entry_value (Auto tag) x is listed h = is.value ∙ ap (table_value r plan) (sym is.tag ∙ h)
  entry_value (Integer tag number) x is listed h = absurd (false≢true (sym (ap is_number_tag (sym is.tag ∙ h)) ∙ listed.of_its_tag))
  entry_value (Text tag text) x is listed h = absurd (false≢true (sym (ap is_text_tag (sym is.tag ∙ h)) ∙ listed.of_its_tag))

  first_value : (e : Entry) (x : EntryNumbers) (rest : Option EntryNumbers) (value : ℕ) → IsEntryOf r plan strings e x → IsListed e
      → ((rest >>= λ y. Some y.d_value) ≡ Some value → value ≡ table_value r plan DT_STRSZ)
      → (b : Bool) → eqb x.d_tag DT_STRSZ ≡ b → (cond b (Some x) rest >>= λ y. Some y.d_value) ≡ Some value
      → value ≡ table_value r plan DT_STRSZ
  first_value e x rest value is listed more true here h = sym (same_Some x.d_value value h)
      ∙ entry_value e x is listed (eqb-true x.d_tag DT_STRSZ here)
  first_value e x rest value is listed more false here h = more h

  value_is : (es : List Entry) (raw : List EntryNumbers) → AreEntriesOf r plan strings es raw → AllByRecursion IsListed es
      → (value : ℕ) → value_of_tag DT_STRSZ raw ≡ Some value → value ≡ table_value r plan DT_STRSZ
  value_is [] [] are listed value h = absurd (none-some value h)
  value_is [] (x ∷ xs) are listed value h = absurd are
  value_is (e ∷ es) [] are listed value h = absurd are
  value_is (e ∷ es) (x ∷ xs) are listed value h =
      first_value e x (find (λ y. y.d_tag == DT_STRSZ) xs) value are.0 listed.0 (value_is es xs are.1 listed.1 value)
      (eqb x.d_tag DT_STRSZ) refl h

-- each entry that is written is of its tag's kind
pub listed_all : (w : Output) → ReadFacts w → AllByRecursion IsListed (list_at (λ es. es) (final (image_at_read w.image) w.image).entries)
listed_all w f = recursion_from_All IsListed (list_at (λ es. es) (final (image_at_read w.image) w.image).entries) (final_listed w f)

-- a list's places, as many as it has or all, are the whole list
limited : (xs : List ℕ) (o : Option ℕ) → ((value : ℕ) → o ≡ Some value → value ≡ length xs)
    → Keeps (memory_of xs) (first_by_tag o (memory_of xs))
limited xs None h = Keeps-refl (memory_of xs)
limited xs (Some value) h = whole-Keeps xs value (h value refl)

module _ (w : Output) (is : IsPlannedOutput w) (has : HasWrittenParts w) (f : ReadFacts w) where
  pub raw_nowhere : section_of_type SHT_DYNAMIC w.headers ≡ None → raw_entries (written_parts w) ≡ []
  raw_nowhere now =
      ap (λ (o : Option SectionHeader). unwrap_or (entries_at (length (written_bytes w)) w.image.form
      (section_memory (written_bytes w) o) 0) []) now
      ∙ ap (λ (o : Option (List EntryNumbers)). unwrap_or o []) (no_entries (length (written_bytes w)) w.image.form)

  -- the size of the dynamic strings
  strings_size : (n : ℕ) → dynamic_strings_number w.image ≡ Some n → (j : ℕ) (s : SectionAt w f.parts j) → s.number ≡ n
      → table_value (resized w.image) w.plan DT_STRSZ ≡ s.place.sh_size
  strings_size n is_number j s own =
      let there : kept_at_number n w.image ≡ Some (kept_as j s.number s.section) =
      ap (λ (m : ℕ). kept_at_number m w.image) (sym own) ∙ kept_is w is f j s in
      let place : place_of_kept w.plan (dynamic_strings_number w.image >>= λ number. kept_at_number number w.image) ≡ Some s.place =
      ap (λ (o : Option ℕ). place_of_kept w.plan (o >>= λ number. kept_at_number number w.image)) is_number
      ∙ ap (place_of_kept w.plan) there ∙ s.is_place in
      ap (λ (o : Option Place). unwrap_or (o >>= λ p. Some p.sh_size) 0) place

  -- DT_STRSZ is the size of a table that the list links to
  limit_is : (i : ℕ) (at : SectionAt w f.parts i) (l : Linked w is f i at)
      → ((list : SectionHeader) → section_of_type SHT_DYNAMIC f.parts.sections ≡ Some list → at.old.sh_link ≡ list.sh_link)
      → (value : ℕ) → value_of_tag DT_STRSZ (raw_entries (written_parts w)) ≡ Some value → value ≡ length l.table.bytes
  limit_is i at l shares value h = elim (type_at w is f SHT_DYNAMIC refl) [
    | Nowhere was now none ↦ absurd (none-some value (sym (ap (value_of_tag DT_STRSZ) (raw_nowhere now)) ∙ h))
    | There j list typed was now there ↦
        let number : dynamic_strings_number w.image ≡ Some at.old.sh_link =
        ap (λ (o : Option KeptSection). first_there (o >>= λ s. Some s.section.sh_link) (link_of_type SHT_DYNSYM w.image)) there
        ∙ ap (λ (n : ℕ). Some n) (link_is w is f j list ∙ sym (shares list.old was)) in
        let strings : List ℕ = content_at_number w.image w.contents list.section.sh_link in
        let own : value ≡ table_value (resized w.image) w.plan DT_STRSZ =
        value_is (resized w.image) w.plan strings (list_at (λ es. es) (final (image_at_read w.image) w.image).entries) w.raw
        (entries_content w is f j list typed) (listed_all w f) value
        (sym (ap (value_of_tag DT_STRSZ) (raw_is w is has list.header now)) ∙ h) in
        own ∙ strings_size at.old.sh_link number l.position l.table l.number ∙ sym (size_is w is f l.position l.table SHT_STRTAB l.type refl)
  ]

  -- the texts of a user of the dynamic strings are those that were written
  pub texts_kept : (i : ℕ) (at : SectionAt w f.parts i) (l : Linked w is f i at)
      → ((list : SectionHeader) → section_of_type SHT_DYNAMIC f.parts.sections ≡ Some list → at.old.sh_link ≡ list.sh_link)
      → Keeps (memory_of l.table.bytes) (linked_texts (written_parts w) at.header)
  texts_kept i at l shares =
      subst (λ (m : Memory). Keeps (memory_of l.table.bytes) (first_by_tag (value_of_tag DT_STRSZ (raw_entries (written_parts w))) m))
      (sym (texts_are w is has f i at l))
      (limited l.table.bytes (value_of_tag DT_STRSZ (raw_entries (written_parts w))) (limit_is i at l shares))

  -- the users of the dynamic strings link to one table
  shared : (type : ℕ) (s : SectionHeader) → section_of_type type f.parts.sections ≡ Some s
      → ((list : SectionHeader) → section_of_type SHT_DYNAMIC f.parts.sections ≡ Some list → shares_texts f.parts list type ≡ true)
      → (list : SectionHeader) → section_of_type SHT_DYNAMIC f.parts.sections ≡ Some list → s.sh_link ≡ list.sh_link
  shared type s there shares list is_list =
      eqb-true s.sh_link list.sh_link (test_at (λ t. eqb t.sh_link list.sh_link) (section_of_type type f.parts.sections) s
      (shares list is_list) there)

  all_shared : (list : SectionHeader) → section_of_type SHT_DYNAMIC f.parts.sections ≡ Some list → texts_are_shared f.parts list ≡ true
  all_shared list is_list = (and_parts _ _ (agrees f.parts f.rules list is_list)).1

  pub symbols_shared : (s : SectionHeader) → section_of_type SHT_DYNSYM f.parts.sections ≡ Some s
      → (list : SectionHeader) → section_of_type SHT_DYNAMIC f.parts.sections ≡ Some list → s.sh_link ≡ list.sh_link
  symbols_shared s there = shared SHT_DYNSYM s there (λ list is_list. (and_parts _ _ (and_parts _ _ (all_shared list is_list)).0).0)

  pub definitions_shared : (s : SectionHeader) → section_of_type SHT_GNU_VERDEF f.parts.sections ≡ Some s
      → (list : SectionHeader) → section_of_type SHT_DYNAMIC f.parts.sections ≡ Some list → s.sh_link ≡ list.sh_link
  definitions_shared s there = shared SHT_GNU_VERDEF s there (λ list is_list. (and_parts _ _ (and_parts _ _ (all_shared list is_list)).0).1)

  pub needs_shared : (s : SectionHeader) → section_of_type SHT_GNU_VERNEED f.parts.sections ≡ Some s
      → (list : SectionHeader) → section_of_type SHT_DYNAMIC f.parts.sections ≡ Some list → s.sh_link ≡ list.sh_link
  needs_shared s there = shared SHT_GNU_VERNEED s there (λ list is_list. (and_parts _ _ (all_shared list is_list)).1)

  pub entries_shared : (s : SectionHeader) → section_of_type SHT_DYNAMIC f.parts.sections ≡ Some s
      → (list : SectionHeader) → section_of_type SHT_DYNAMIC f.parts.sections ≡ Some list → s.sh_link ≡ list.sh_link
  entries_shared s there list is_list = ap (λ (h : SectionHeader). h.sh_link) (same_Some s list (sym there ∙ is_list))
