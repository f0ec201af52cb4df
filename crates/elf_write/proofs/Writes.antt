-- What the steps give is a file to which the image is written.
use Rattle.std.proofs.Common.{◌≡◌, ◌<◌, ◌^◌, ℕ, zero, suc, Bool, true, false, List, [], ◌∷◌, length, refl, sym, ap, ◌∙◌, subst, Option, Some}
use Rattle.std.specs.Prelude.{◌||◌, not, nat_lt, unwrap_or, IsTrue}
use Rattle.std.specs.List.{list_all, slice_get}
use Rattle.std.proofs.lemmas.Bool.{and_parts, false≢true, ltb-true}
use Rattle.std.proofs.lemmas.Option.{none-some, same_Some}
use Rattle.patch_bytes.specs.Memory.{◌>>=◌}
use Rattle.patch_bytes.specs.Bytes.{AreBytes}
use Rattle.elf_format.specs.declared.constants.TheConstants.{SHT_STRTAB}
use Rattle.elf_format.specs.declared.form.Form.{Form}
use Rattle.elf_format.specs.declared.records.EntryNumbers.{EntryNumbers}
use Rattle.elf_format.specs.declared.records.FileHeader.{FileHeader}
use Rattle.elf_format.specs.declared.records.SegmentHeader.{SegmentHeader}
use Rattle.elf_format.specs.declared.records.SectionHeader.{SectionHeader}
use Rattle.elf_format.specs.declared.section_data.SectionData.{SectionData}
use Rattle.elf_format.specs.declared.section_data.SectionData.TheVariants as kinds
use Rattle.elf_format.specs.Image.{Image, ImageSection}
use Rattle.elf_format.specs.Options.{is_one_of}
use Rattle.elf_format.specs.Places.{Place}
use Rattle.elf_format.specs.Rules.{text_users}
use Rattle.elf_tables.specs.Fields.{do_fields_fit}
use Rattle.elf_tables.specs.Spelled.{entry_fields}
use Rattle.elf_image.specs.Kept.{KeptSection, kept_sections}
use Rattle.elf_image.specs.Names.{are_names_changed}
use Rattle.elf_layout_plan.specs.Memory.{Resized}
use Rattle.elf_layout_plan.specs.Plan.{Plan, resized}
use Rattle.elf_write_contents.specs.Base.{is_interpreter}
use Rattle.elf_write_contents.specs.Contents.{IsContent, IsContentOfKind, content_at_number}
use Rattle.elf_write_contents.specs.Headers.{IsHeaderOf, written_header}
use Rattle.elf_write_contents.specs.Output.{AreHeadersApart, AreSectionsWritten, IsPlannedOutput, written_bytes}
use Rattle.elf_layout_plan.specs.ApartLaws.{PlansAreApart, PlansShowNotes}
use Rattle.elf_write_contents.proofs.ForCallers.FilesWritten.{files_are_written, files_by_plan}
use Rattle.elf_write_contents.specs.Made.{Made}
use Rattle.elf_write_contents.specs.WrittenStrings.{strings_at}
use Rattle.elf_write_contents.specs.Renumbering.{do_symbols_fit}
use Rattle.elf_write_contents.specs.Inner.{AreContents, AreHeaders, ArePromised, AreRaw, IsMadeContent, IsPlanned, IsPlannedFile, output_of}
use Rattle.elf_write_contents.specs.Numbers.{do_records_fit}
use Rattle.elf_write_contents.proofs.ForCallers.{shows_none, shows_texts}
use Rattle.elf_write_contents.proofs.ForCallers.ReadTables.{ready_edit}
use Rattle.elf_write_contents.proofs.ForCallers.TablesThere.{TableThere, link_there, names_there}
use Rattle.elf_write_contents.proofs.ForCallers.NumberedSections.{kept_as}
use Rattle.elf_write_contents.proofs.ForCallers.WholeEdits.{ReadFacts, SectionRead, kept_is, kept_read, read_facts}

-- the content at a position
record ContentAt (r : Resized) (plan : Plan) (made : List Made) (raw : List EntryNumbers) (ps : List Place) (cs : List (List ℕ)) (i : ℕ) (k : KeptSection) : Type 0 where
  place : Place
  bytes : List ℕ
  is_bytes : slice_get cs i ≡ Some bytes
  is : IsMadeContent r plan made raw k place bytes

content-at : (r : Resized) (plan : Plan) (made : List Made) (raw : List EntryNumbers) (ks : List KeptSection) (ps : List Place) (cs : List (List ℕ))
    → AreContents r plan made raw ks ps cs
    → (i : ℕ) (k : KeptSection) → slice_get ks i ≡ Some k → ContentAt r plan made raw ps cs i k
content-at r plan made raw [] [] [] are i k at = absurd (none-some k at)
content-at r plan made raw (x ∷ ks) (p ∷ ps) (c ∷ cs) are zero k at = record {
  place = p;
  bytes = c;
  is_bytes = refl;
  is = subst (λ (y : KeptSection). IsMadeContent r plan made raw y p c) (same_Some x k at) are.0;
}
content-at r plan made raw (x ∷ ks) (p ∷ ps) (c ∷ cs) are (suc i) k at =
    let more = content-at r plan made raw ks ps cs are.1 i k at in
    record { place = more.place; bytes = more.bytes; is_bytes = more.is_bytes; is = more.is }
content-at r plan made raw _ _ _ are i k at = absurd are

-- what bytes show that are no texts' users', whichever texts these are
without_texts : (r : Resized) (plan : Plan) (raw : List EntryNumbers) (a b : List ℕ) (s : KeptSection) (bytes : List ℕ)
    → shows_texts s.section.kind ≡ false → IsContent r plan raw a s bytes → IsContent r plan raw b s bytes
unfolding shows_texts
without_texts r plan raw a b s bytes none shown = by_interpreter (is_interpreter r.read s) shown
  where
    content_of : List ℕ → SectionData → Type 0
    content_of strings kind = IsContentOfKind r plan raw strings s bytes kind

    by_kind : (kind : SectionData) → shows_texts kind ≡ false → content_of a kind → content_of b kind
    by_kind kinds.Dynamic h is = absurd (false≢true (sym h))
    by_kind kinds.DynamicSymbols h is = absurd (false≢true (sym h))
    by_kind kinds.GnuVerdef h is = absurd (false≢true (sym h))
    by_kind kinds.GnuVerneed h is = absurd (false≢true (sym h))
    by_kind kinds.Opaque h is = is
    by_kind kinds.Uninitialized h is = is
    by_kind kinds.Relocation h is = is
    by_kind kinds.Note h is = is
    by_kind kinds.Strings h is = is
    by_kind kinds.Symbols h is = absurd (false≢true (sym h))
    by_kind kinds.Hash h is = is
    by_kind kinds.GnuHash h is = is
    by_kind kinds.GnuVersym h is = is

    by_interpreter : (t : Bool)
        → (elim t as (λ _. Type 0) [ true ↦ bytes ≡ unwrap_or r.image.interpreter s.section.content | _ ↦ content_of a s.section.kind ])
        → elim t as (λ _. Type 0) [ true ↦ bytes ≡ unwrap_or r.image.interpreter s.section.content | _ ↦ content_of b s.section.kind ]
    by_interpreter true is = is
    by_interpreter false is = by_kind s.section.kind none is

-- entries of records that fit
pub entries_fit : (form : Form) (header : FileHeader) (segments : List SegmentHeader) (hs : List SectionHeader) (raw : List EntryNumbers)
    → do_records_fit form header segments hs raw ≡ true → IsTrue (list_all (λ e. do_fields_fit (entry_fields form e)) raw)
unfolding do_records_fit
entries_fit form header segments hs raw fit = (and_parts _ _ fit).1

-- with other names dynamic symbols are few enough for 32 bits
few_symbols : (read image : Image) → do_symbols_fit read image ≡ true → are_names_changed read image ≡ true
    → length image.dynamic_symbols < 2 ^ 32
few_symbols read image fit changed =
    ltb-true (length image.dynamic_symbols) (2 ^ 32)
    (ap (λ (b : Bool). not b || nat_lt (length image.dynamic_symbols) (2 ^ 32)) (sym changed)
    ∙ (and_parts (not (are_names_changed read image) || nat_lt (length image.dynamic_symbols) (2 ^ 32)) _ fit).0)

module _ (read image : Image) (plan : Plan) (made : List Made) (raw : List EntryNumbers) (contents : List (List ℕ))
    (planned : IsPlanned read image plan)
    (are : AreContents (resized image) plan made raw (kept_sections image) plan.places contents) where
  facts : ReadFacts read image
  facts = read_facts read image (ready_edit planned.ready)

  -- the bytes of a string table are those that were found for it
  strings_are : (i : ℕ) (at : SectionRead read image facts.parts i) → at.section.sh_type ≡ SHT_STRTAB
      → content_at_number image contents at.number ≡ strings_at image made at.number
  strings_are i at typed =
      let k : KeptSection = kept_as i at.number at.section in
      let c = content-at (resized image) plan made raw (kept_sections image) plan.places contents are i k at.is_kept in
      ap (λ (o : Option KeptSection). unwrap_or (o >>= λ x. slice_get contents x.position) []) (kept_is read image facts i at)
      ∙ ap (λ (o : Option (List ℕ)). unwrap_or o []) c.is_bytes
      ∙ c.is.strings typed

  table_is : (number : ℕ) → TableThere read image facts.parts number
      → content_at_number image contents number ≡ strings_at image made number
  table_is number t =
      subst (λ (n : ℕ). content_at_number image contents n ≡ strings_at image made n) t.is_number (strings_are t.i t.at t.type)

  section_linked : (i : ℕ) (at : SectionRead read image facts.parts i) (bytes : List ℕ)
      → IsContent (resized image) plan raw (strings_at image made at.section.sh_link) (kept_as i at.number at.section) bytes
      → IsContent (resized image) plan raw (content_at_number image contents at.section.sh_link) (kept_as i at.number at.section) bytes
  section_linked i at bytes shown = by_users (is_one_of text_users at.section.sh_type) refl
    where
      by_users : (b : Bool) → is_one_of text_users at.section.sh_type ≡ b
          → IsContent (resized image) plan raw (content_at_number image contents at.section.sh_link) (kept_as i at.number at.section) bytes
      by_users true user =
          let was : is_one_of text_users at.old.sh_type ≡ true =
          ap (λ (x : ImageSection). is_one_of text_users x.sh_type) (sym at.of_old.fields) ∙ user in
          subst (λ (strings : List ℕ). IsContent (resized image) plan raw strings (kept_as i at.number at.section) bytes)
          (sym (table_is at.section.sh_link (link_there read image facts i at was))) shown
      by_users false none =
          without_texts (resized image) plan raw (strings_at image made at.section.sh_link)
          (content_at_number image contents at.section.sh_link) (kept_as i at.number at.section) bytes
          (shows_none read image facts.parts i at none) shown

  -- what a section's bytes show doesn't depend on texts, or these are the linked table's
  content_linked : (i : ℕ) (k : KeptSection) → slice_get (kept_sections image) i ≡ Some k → (bytes : List ℕ)
      → IsContent (resized image) plan raw (strings_at image made k.section.sh_link) k bytes
      → IsContent (resized image) plan raw (content_at_number image contents k.section.sh_link) k bytes
  content_linked i k at bytes shown =
      let (here, same) = kept_read read image facts i k at in
      subst (λ (x : KeptSection). IsContent (resized image) plan raw (content_at_number image contents x.section.sh_link) x bytes) same
      (section_linked i here bytes
      (subst (λ (x : KeptSection). IsContent (resized image) plan raw (strings_at image made x.section.sh_link) x bytes) (sym same) shown))

  names_are : content_at_number image contents image.header.e_shstrndx ≡ strings_at image made image.header.e_shstrndx
  names_are = table_is image.header.e_shstrndx (names_there read image facts)

  sections_written : (hs : List SectionHeader) (ks : List KeptSection) (ps : List Place) (part : List SectionHeader) (cs : List (List ℕ))
      → ((i : ℕ) (k : KeptSection) → slice_get ks i ≡ Some k → (bytes : List ℕ)
      → IsContent (resized image) plan raw (strings_at image made k.section.sh_link) k bytes
      → IsContent (resized image) plan raw (content_at_number image contents k.section.sh_link) k bytes)
      → AreHeaders (resized image) (strings_at image made image.header.e_shstrndx) ks ps part
      → AreContents (resized image) plan made raw ks ps cs
      → AreSectionsWritten (output_of image plan hs contents raw) ks ps part cs
  sections_written hs [] [] [] [] linked headers bytes = tt
  sections_written hs (k ∷ ks) (p ∷ ps) (h ∷ part) (c ∷ cs) linked headers bytes = (
    record {
      has_header = subst (λ (names : List ℕ). IsHeaderOf (resized image) names k.section p h) (sym names_are) headers.0;
      sized = bytes.0.sized;
      content = linked zero k refl c bytes.0.content;
    },
    sections_written hs ks ps part cs (λ i x at. linked (suc i) x at) headers.1 bytes.1,
  )
  sections_written hs [] [] [] (c ∷ cs) linked headers bytes = absurd bytes
  sections_written hs (k ∷ ks) (p ∷ ps) (h ∷ part) [] linked headers bytes = absurd bytes
  sections_written hs _ _ _ _ linked headers bytes = absurd headers

  pub is_planned_output : AreBytes image.source → (hs : List SectionHeader) → AreHeadersApart image plan
      → AreRaw (resized image) plan made raw
      → AreHeaders (resized image) (strings_at image made image.header.e_shstrndx) (kept_sections image) plan.places hs
      → do_records_fit image.form (written_header image plan) plan.segments hs raw ≡ true → do_symbols_fit read image ≡ true
      → IsPlannedOutput (output_of image plan hs contents raw)
  unfolding do_records_fit
  is_planned_output source hs apart is_raw headers fit few =
      let four = and_parts _ _ fit in
      let three = and_parts _ _ four.0 in
      let two = and_parts _ _ three.0 in
      record {
        edited = planned.ready.edited;
        source = source;
        planned = planned.planned;
        written = record {
          headers = apart;
          no_list = is_raw.no_list;
          sections = sections_written hs (kept_sections image) plan.places hs contents (λ i k at. content_linked i k at) headers are;
          fit = record {
            header = two.0;
            segments = two.1;
            sections = three.1;
            entries = four.1;
            symbols = λ changed. few_symbols read image few
                (ap (λ (r : Image). are_names_changed r image) planned.ready.at_read ∙ changed);
          };
        };
      }

  -- the headers and contents are those of a planned output
  pub are_written : AreBytes image.source → (hs : List SectionHeader) → AreHeadersApart image plan
      → AreRaw (resized image) plan made raw
      → AreHeaders (resized image) (strings_at image made image.header.e_shstrndx) (kept_sections image) plan.places hs
      → do_records_fit image.form (written_header image plan) plan.segments hs raw ≡ true → do_symbols_fit read image ≡ true
      → (entries : List EntryNumbers) × IsPlannedOutput (output_of image plan hs contents entries)
  are_written source hs apart is_raw headers fit few = (raw, is_planned_output source hs apart is_raw headers fit few)

  -- these bytes are those of a planned file
  pub is_planned_file : AreBytes image.source → (hs : List SectionHeader) (bytes : List ℕ) → AreHeadersApart image plan
      → AreRaw (resized image) plan made raw
      → AreHeaders (resized image) (strings_at image made image.header.e_shstrndx) (kept_sections image) plan.places hs
      → do_records_fit image.form (written_header image plan) plan.segments hs raw ≡ true → do_symbols_fit read image ≡ true
      → bytes ≡ written_bytes (output_of image plan hs contents raw)
      → IsPlannedFile image plan bytes
  is_planned_file source hs bytes apart is_raw headers fit few same = record {
    output = output_of image plan hs contents raw;
    of_image = refl;
    by_plan = refl;
    whole = is_planned_output source hs apart is_raw headers fit few;
    are_bytes = same;
  }

-- what the laws of plans and of written files say of them
pub are_promised : PlansAreApart → PlansShowNotes
    → (image : Image) (plan : Plan) (bytes : List ℕ) → IsPlannedFile image plan bytes → ArePromised image plan bytes
are_promised are_apart show_notes image plan bytes is =
    let w = is.output in
    subst (λ (i : Image). ArePromised i plan bytes) is.of_image
    (subst (λ (l : Plan). ArePromised w.image l bytes) is.by_plan
    (subst (λ (b : List ℕ). ArePromised w.image w.plan b) (sym is.are_bytes)
    (record { written = files_are_written are_apart show_notes w is.whole; by_plan = files_by_plan w is.whole })))
