-- What the sections of a written file show: the content of each kind, and the texts that a section links to.
use Rattle.std.proofs.Common.{◌≡◌, ◌≢◌, ◌≤◌, ℕ, Bool, true, false, eqb, List, length, refl, sym, ap, ◌∙◌, subst, Some, arith}
use Rattle.std.specs.Prelude.{◌&&◌, not, filter, unwrap_or}
use Rattle.std.specs.List.{list_all, slice_get}
use Rattle.std.proofs.lemmas.Bool.{and_parts, cond-true, eqb-true, false≢true, ne_eqb}
use Rattle.std.proofs.lemmas.Option.{same_Some, slice_get_within}
use Rattle.patch_bytes.specs.Memory.{memory_of}
use Rattle.elf_format.specs.declared.constants.TheConstants.{SHT_DYNAMIC, SHT_DYNSYM, SHT_GNU_VERDEF, SHT_GNU_VERNEED, SHT_GNU_VERSYM, SHT_NULL, SHT_PROGBITS, SHT_STRTAB, SHT_SYMTAB}
use Rattle.elf_format.specs.declared.records.EntryNumbers.{EntryNumbers}
use Rattle.elf_format.specs.declared.records.SectionHeader.{SectionHeader}
use Rattle.elf_format.specs.declared.section_data.SectionData.{SectionData}
use Rattle.elf_format.specs.declared.section_data.SectionData.TheVariants as kinds
use Rattle.elf_format.specs.File.{Parts, linked_section, section_bytes}
use Rattle.elf_format.specs.Image.{ImageSection}
use Rattle.elf_format.specs.Options.{is_one_of, is_some_and, list_at}
use Rattle.elf_format.specs.Places.{occupies_file}
use Rattle.elf_format.specs.Records.{symbols_in}
use Rattle.elf_format.specs.Rules.{file_of, is_opaque_relocation, links_to, symbol_users, text_users}
use Rattle.elf_format.specs.Views.{section_memory}
use Rattle.elf_format.proofs.ForCallers.Placed.{IsIn-slice_get, passes_picked}
use Rattle.elf_format.proofs.ForCallers.ViewsAgree.{links_right, there_and}
use Rattle.elf_hashes.specs.Versions.{AreVersionsOf}
use Rattle.elf_image.specs.Kept.{KeptSection, image_at_read}
use Rattle.elf_layout_plan.specs.Memory.{Resized}
use Rattle.elf_layout_plan.specs.Plan.{Plan, resized}
use Rattle.elf_layout_plan.specs.Texts.{is_table_copied}
use Rattle.elf_write_spec.specs.ReadBack.{HasWrittenParts}
use Rattle.elf_write_spec.specs.Base.{is_interpreter}
use Rattle.elf_write_spec.specs.Contents.{AreDefinitionsIn, AreEntriesOf, AreNeedsIn, AreSymbolsOf, IsContentByKind, IsContentOfKind, content_at_number}
use Rattle.elf_write_spec.specs.Final.{final}
use Rattle.elf_write_spec.specs.Output.{IsPlannedOutput, Output, written_bytes}
use Rattle.elf_write_spec.proofs.TextsRead.{bytes_short}
use Rattle.elf_write_spec.proofs.WholeEdits.{IsOfHeader, not_interpreter}
use Rattle.elf_write_spec.proofs.WholeFacts.{ReadFacts, SectionAt, content_is, moved_to, read_at}
use Rattle.elf_write_spec.proofs.LinkedMatch.{names_link}
use Rattle.elf_write_spec.proofs.NumberedSections.{kept_as}
use Rattle.elf_write_spec.proofs.SectionKinds.{kind_by}

-- ## Kinds

-- the kind of a section of a type, where no other is of that type
kind_at : (p : Parts) (old : SectionHeader) (x : ImageSection) → IsOfHeader p old x → (type : ℕ) → old.sh_type ≡ type
    → (kind : SectionData)
    → ((opaque : Bool) → kind_by type opaque ≡ kind) → x.kind ≡ kind
kind_at p old x of_old type e kind by_type =
    ap (λ (y : ImageSection). y.kind) of_old.fields ∙ ap (λ (n : ℕ). kind_by n (is_opaque_relocation p old)) e ∙ by_type (is_opaque_relocation p old)

-- a content that isn't the interpreter's
by_kind : (r : Resized) (plan : Plan) (raw : List EntryNumbers) (strings : List ℕ) (s : KeptSection) (bytes : List ℕ) (b : Bool)
    → b ≡ false
    → (elim b as (λ _. Type 0) [
      | true ↦ bytes ≡ unwrap_or r.image.interpreter s.section.content
      | _ ↦ IsContentByKind r plan raw strings s bytes
    ])
    → IsContentOfKind r plan raw strings s bytes s.section.kind
by_kind r plan raw strings s bytes true other h = absurd (false≢true (sym other))
by_kind r plan raw strings s bytes false other h = h

-- ## Sections that are there

module _ (w : Output) (is : IsPlannedOutput w) (f : ReadFacts w) where
  -- the content of a section of a type, where no other is of that type and it isn't PROGBITS
  content_by : (i : ℕ) (at : SectionAt w f.parts i) (type : ℕ) → at.old.sh_type ≡ type → type ≢ SHT_PROGBITS → (kind : SectionData)
      → ((opaque : Bool) → kind_by type opaque ≡ kind)
      → IsContentOfKind (resized w.image) w.plan w.raw (content_at_number w.image w.contents at.section.sh_link)
      (kept_as i at.number at.section) at.bytes kind
  content_by i at type e other kind by_type =
      let strings : List ℕ = content_at_number w.image w.contents at.section.sh_link in
      let r : Resized = resized w.image in
      let type_is : at.section.sh_type ≡ type = ap (λ (x : ImageSection). x.sh_type) at.of_old.fields ∙ e in
      let apart : is_interpreter r.read (kept_as i at.number at.section) ≡ false =
      not_interpreter r.read w.image f i (read_at at)
      (ne_eqb at.section.sh_type SHT_PROGBITS (λ h. other (sym type_is ∙ h))) in
      subst (λ k. IsContentOfKind r w.plan w.raw strings (kept_as i at.number at.section) at.bytes k)
      (kind_at f.parts at.old at.section at.of_old type e kind by_type)
      (by_kind r w.plan w.raw strings (kept_as i at.number at.section) at.bytes (is_interpreter r.read (kept_as i at.number at.section)) apart at.written.content)

  pub entries_content : (i : ℕ) (at : SectionAt w f.parts i) → at.old.sh_type ≡ SHT_DYNAMIC
      → AreEntriesOf (resized w.image) w.plan (content_at_number w.image w.contents at.section.sh_link)
      (list_at (λ es. es) (final (image_at_read w.image) w.image).entries) w.raw
  entries_content i at e = (content_by i at SHT_DYNAMIC e (λ h. omega (arith, h)) kinds.Dynamic (λ opaque. refl)).0

  pub strings_content : (i : ℕ) (at : SectionAt w f.parts i) → at.old.sh_type ≡ SHT_STRTAB
      → is_table_copied (image_at_read w.image) w.image at.number ≡ true
      → at.bytes ≡ at.section.content
  strings_content i at e = (content_by i at SHT_STRTAB e (λ h. omega (arith, h)) kinds.Strings (λ opaque. refl)).copied

  pub symbols_content : (i : ℕ) (at : SectionAt w f.parts i) → at.old.sh_type ≡ SHT_SYMTAB
      → AreSymbolsOf (content_at_number w.image w.contents at.section.sh_link) (final (image_at_read w.image) w.image).symbols
      (symbols_in w.image.form at.bytes)
  symbols_content i at e = (content_by i at SHT_SYMTAB e (λ h. omega (arith, h)) kinds.Symbols (λ opaque. refl)).symbols

  pub versym_content : (i : ℕ) (at : SectionAt w f.parts i) → at.old.sh_type ≡ SHT_GNU_VERSYM
      → AreVersionsOf w.image.form (final (image_at_read w.image) w.image).dynamic_symbols at.bytes
  versym_content i at e = (content_by i at SHT_GNU_VERSYM e (λ h. omega (arith, h)) kinds.GnuVersym (λ opaque. refl)).versions

  pub dynamic_content : (i : ℕ) (at : SectionAt w f.parts i) → at.old.sh_type ≡ SHT_DYNSYM
      → AreSymbolsOf (content_at_number w.image w.contents at.section.sh_link) (final (image_at_read w.image) w.image).dynamic_symbols
      (symbols_in w.image.form at.bytes)
  dynamic_content i at e = content_by i at SHT_DYNSYM e (λ h. omega (arith, h)) kinds.DynamicSymbols (λ opaque. refl)

  pub definitions_content : (i : ℕ) (at : SectionAt w f.parts i) → at.old.sh_type ≡ SHT_GNU_VERDEF
      → AreDefinitionsIn w.image (content_at_number w.image w.contents at.section.sh_link) at.bytes
  definitions_content i at e = content_by i at SHT_GNU_VERDEF e (λ h. omega (arith, h)) kinds.GnuVerdef (λ opaque. refl)

  pub needs_content : (i : ℕ) (at : SectionAt w f.parts i) → at.old.sh_type ≡ SHT_GNU_VERNEED
      → AreNeedsIn (resized w.image) (content_at_number w.image w.contents at.section.sh_link) at.bytes
  needs_content i at e = content_by i at SHT_GNU_VERNEED e (λ h. omega (arith, h)) kinds.GnuVerneed (λ opaque. refl)

  -- a section's link and content are those that were read
  pub link_is : (i : ℕ) (at : SectionAt w f.parts i) → at.section.sh_link ≡ at.old.sh_link
  link_is i at = ap (λ (x : ImageSection). x.sh_link) at.of_old.fields

  pub content_was : (i : ℕ) (at : SectionAt w f.parts i) → at.section.content ≡ section_bytes (file_of f.parts) at.old
  content_was i at = ap (λ (x : ImageSection). x.content) at.of_old.fields

  -- a section with bytes in the file has as many as its header says
  pub size_is : (i : ℕ) (at : SectionAt w f.parts i) (type : ℕ) → at.old.sh_type ≡ type → (not (eqb type 0) && not (eqb type 8)) ≡ true
      → length at.bytes ≡ at.place.sh_size
  size_is i at type e stored =
      at.written.sized ∙ cond-true (occupies_file at.place) at.place.sh_size 0
      (ap (λ t. not (eqb t 0) && not (eqb t 8)) (at.place_type ∙ e) ∙ stored)

  -- the section that a user of texts links to
  pub record Linked (i : ℕ) (at : SectionAt w f.parts i) : Type 0 where
    pub position : ℕ
    pub table : SectionAt w f.parts position
    pub number : table.number ≡ at.old.sh_link
    pub link : at.header.sh_link ≡ position
    pub type : table.old.sh_type ≡ SHT_STRTAB
    pub was_linked : linked_section f.parts.sections at.old ≡ Some table.old
    pub is_linked : linked_section w.headers at.header ≡ Some table.header
    pub are_strings : content_at_number w.image w.contents at.section.sh_link ≡ table.bytes

  pub linked_at : (i : ℕ) (at : SectionAt w f.parts i) → is_one_of text_users at.old.sh_type ≡ true → Linked i at
  linked_at i at user =
      let p : Parts = f.parts in
      let linked = and_parts (list_all (λ t. links_to SHT_STRTAB p.sections t) (filter (λ t. is_one_of text_users t.sh_type) p.sections))
      (list_all (λ t. links_to SHT_DYNSYM p.sections t) (filter (λ t. is_one_of symbol_users t.sh_type) p.sections))
      (links_right p f.rules) in
      let links : is_some_and (λ t. eqb t.sh_type SHT_STRTAB) (linked_section p.sections at.old) ≡ true =
      passes_picked at.old p.sections (IsIn-slice_get p.sections at.number at.old at.is_old) (λ t. links_to SHT_STRTAB p.sections t)
      (λ t. is_one_of text_users t.sh_type)
      linked.0 user in
      let (l, l_there, typed) = there_and (λ t. eqb t.sh_type SHT_STRTAB) (linked_section p.sections at.old) links in
      let some : eqb at.old.sh_type SHT_NULL ≡ false =
      ne_eqb at.old.sh_type SHT_NULL (λ e. false≢true (ap (is_one_of text_users) (sym e) ∙ user)) in
      let (j, table, number, new) =
      moved_to w is f i at.old.sh_link at (slice_get_within p.sections at.old.sh_link l l_there) (names_link at some) in
      let was : linked_section p.sections at.old ≡ Some table.old = ap (slice_get p.sections) (sym number) ∙ table.is_old in
      let same : l ≡ table.old = same_Some l table.old (sym l_there ∙ was) in
      record {
        position = j;
        table = table;
        number = number;
        link = at.link ∙ new;
        type = ap (λ (s : SectionHeader). s.sh_type) (sym same) ∙ eqb-true l.sh_type SHT_STRTAB typed;
        was_linked = was;
        is_linked = ap (λ n. slice_get w.headers n) (at.link ∙ new) ∙ table.is_header;
        are_strings = ap (λ n. content_at_number w.image w.contents n) (link_is i at)
            ∙ ap (content_at_number w.image w.contents) (sym number) ∙ content_is w is f j table;
      }

module _ (w : Output) (is : IsPlannedOutput w) (has : HasWrittenParts w) (f : ReadFacts w) (i : ℕ) (at : SectionAt w f.parts i) where
  -- the bytes of a section of the written file
  pub bytes_are : section_bytes (written_bytes w) at.header ≡ at.bytes
  bytes_are = has.contents i at.header at.bytes at.is_header at.is_bytes

  pub bytes_fit : length at.bytes ≤ length (written_bytes w)
  bytes_fit = omega (arith, ap length bytes_are, bytes_short (written_bytes w) at.header)

  -- the texts that a section of the written file links to
  pub texts_are : (l : Linked w is f i at) → section_memory (written_bytes w) (linked_section w.headers at.header) ≡ memory_of l.table.bytes
  texts_are l =
      ap (section_memory (written_bytes w)) l.is_linked
      ∙ ap (λ (xs : List ℕ). memory_of xs) (has.contents l.position l.table.header l.table.bytes l.table.is_header l.table.is_bytes)

  pub texts_fit : (l : Linked w is f i at) → length l.table.bytes ≤ length (written_bytes w)
  texts_fit l =
      omega (
        arith,
        ap length (has.contents l.position l.table.header l.table.bytes l.table.is_header l.table.is_bytes),
        bytes_short (written_bytes w) l.table.header,
      )
