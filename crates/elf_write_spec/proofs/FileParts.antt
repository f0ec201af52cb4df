-- A written file has the parts that were written.
use Rattle.std.proofs.Common.{◌≡◌, ◌≤◌, ℕ, ◌+◌, ◌*◌, Bool, true, false, List, [], ◌∷◌, ◌++◌, drop, length, refl, sym, ap, ◌∙◌, subst, Option, Some, None, arith}
use Rattle.std.specs.Prelude.{nat_le, unwrap_or}
use Rattle.std.specs.List.{flat_map, list_all, slice_get}
use Rattle.std.proofs.lemmas.Bool.{cond-false, cond-true, false≢true, le-leb}
use Rattle.std.proofs.lemmas.List.{append-nil, take-append-drop}
use Rattle.std.proofs.lemmas.Option.{same_Some}
use Rattle.patch_bytes.specs.Memory.{◌>>=◌}
use Rattle.patch_bytes.specs.Number.{field}
use Rattle.patch_bytes.specs.declared.number.ByteOrder2.{ByteOrder2}
use Rattle.patch_bytes.specs.declared.number.ByteOrder2.TheVariants.{Big, Little}
use Rattle.patch_bytes.specs.declared.number.Wide.{Wide}
use Rattle.patch_bytes.specs.declared.number.Wide.TheVariants.{W32, W64}
use Rattle.byte_store.specs.Laid.{LiesIn}
use Rattle.elf_format.specs.declared.form.Form.{Form}
use Rattle.elf_format.specs.declared.records.EntryNumbers.{EntryNumbers}
use Rattle.elf_format.specs.declared.records.FileHeader.{FileHeader}
use Rattle.elf_format.specs.declared.records.SectionHeader.{SectionHeader}
use Rattle.elf_format.specs.declared.section_data.SectionData.{SectionData}
use Rattle.elf_format.specs.declared.section_data.SectionData.TheVariants as kinds
use Rattle.elf_format.specs.File.{bytes_in, has_file_bytes, opened_of, section_bytes, sections_of, segments_of}
use Rattle.elf_format.specs.Form.{records}
use Rattle.elf_format.specs.Image.{ImageSection}
use Rattle.elf_format.specs.Places.{occupies_file}
use Rattle.elf_format.specs.Records.{section_header, section_header_size, segment_header, segment_header_size}
use Rattle.elf_format.specs.Rules.{file_of, has_magic}
use Rattle.elf_layout_plan.specs.Fields.{do_fields_fit}
use Rattle.elf_layout_plan.specs.ReadBack.{IsTableReadBack}
use Rattle.elf_layout_plan.specs.Spelled.{section_fields, segment_fields, spelled_file_header, spelled_section_header, spelled_segment_header}
use Rattle.elf_layout_plan.proofs.ForCallers.FilesOpened.{files_are_opened}
use Rattle.elf_layout_plan.proofs.ForCallers.SectionHeaderBack.{section_headers_are_read_back}
use Rattle.elf_layout_plan.proofs.ForCallers.SegmentHeaderBack.{segment_headers_are_read_back}
use Rattle.elf_layout_plan.proofs.ForCallers.TableBack.{tables_are_read_back}
use Rattle.elf_image.specs.Kept.{KeptSection, image_at_read, kept_sections}
use Rattle.elf_layout_plan.specs.Memory.{Resized}
use Rattle.elf_layout_plan.specs.Plan.{Plan, resized}
use Rattle.elf_layout_plan.proofs.ForCallers.ApartLists.{Each}
use Rattle.elf_write_spec.specs.ReadBack.{written_parts}
use Rattle.elf_write_spec.specs.Base.{is_data, is_interpreter, is_opaque}
use Rattle.elf_write_spec.specs.Contents.{IsContent, IsContentByKind, IsContentOfKind, content_at_number}
use Rattle.elf_write_spec.specs.Headers.{written_header}
use Rattle.elf_write_spec.specs.Laws.{WrittenFilesHaveParts}
use Rattle.elf_write_spec.specs.Output.{IsPlannedOutput, Output, patch, patches, written_bytes}
use Rattle.elf_write_spec.proofs.BaseBytes.{data_stands}
use Rattle.elf_write_spec.proofs.DataStays.{data_facts}
use Rattle.elf_write_spec.proofs.Laying.{StandsIn}
use Rattle.elf_write_spec.proofs.Patches.{as_many, length-table, length-written, patches_lie, patches_stand, section-patch}
use Rattle.elf_write_spec.proofs.WholeFacts.{ReadFacts, SectionAt, lengths, read_facts, section_at_header}
use Rattle.elf_write_spec.proofs.NumberedSections.{kept_as}

-- ## The file header

starts : (wide : Wide) (order : ByteOrder2) (h : FileHeader) (rest : List ℕ)
    → has_magic (spelled_file_header (record { wide = wide; order = order }) h ++ rest) ≡ true
starts W32 Little h rest = refl
starts W32 Big h rest = refl
starts W64 Little h rest = refl
starts W64 Big h rest = refl

-- what stands at the start begins the file
begins : (file bytes : List ℕ) → StandsIn file (patch 0 bytes) → bytes ++ drop (length bytes) file ≡ file
begins file bytes stands = ap (λ (l : List ℕ). l ++ drop (length bytes) file) (sym stands) ∙ take-append-drop (length bytes) file

-- ## Tables

-- a table that stands in a file is read back from it
table_there : {A : Type 0} (size : ℕ) (numbers : A → List (ℕ × ℕ)) (spelled : A → List ℕ) (decoded : List ℕ → A)
    → IsTableReadBack size numbers spelled decoded → (xs : List A) (file : List ℕ) (offset count : ℕ)
    → list_all (λ x. do_fields_fit (numbers x)) xs ≡ true → length xs ≡ count → length (flat_map spelled xs) ≡ length xs * size
    → LiesIn (length file) (patch offset (flat_map spelled xs)) → StandsIn file (patch offset (flat_map spelled xs))
    → (bytes_in file offset (count * size) >>= λ bytes. Some (records decoded size count bytes)) ≡ Some xs
table_there {A} size numbers spelled decoded back xs file offset count fit many long lies stands =
    let all : List ℕ = flat_map spelled xs in
    let same : length all ≡ count * size = long ∙ ap (λ (n : ℕ). n * size) many in
    let inside : offset + count * size ≤ length file = omega (arith, same, lies) in
    let there : bytes_in file offset (count * size) ≡ Some all =
    cond-true (nat_le (offset + count * size) (length file)) (Some (field (count * size) offset file)) None
    (le-leb (offset + count * size) (length file) inside)
    ∙ ap (λ (n : ℕ). Some (field n offset file)) (sym same) ∙ ap (λ (l : List ℕ). Some l) stands in
    ap (λ (o : Option (List ℕ)). o >>= λ bytes. Some (records decoded size count bytes)) there
    ∙ ap (λ (n : ℕ). Some (records decoded size n all)) (sym many)
    ∙ ap (λ (l : List ℕ). Some (records decoded size (length xs) l)) (sym (append-nil all))
    ∙ ap (λ (l : List A). Some l) (back xs [] fit)

-- ## The bytes of data

by_kind : (r : Resized) (plan : Plan) (raw : List EntryNumbers) (strings : List ℕ) (s : KeptSection) (bytes : List ℕ)
    (k : SectionData) → is_opaque k ≡ true
    → IsContentOfKind r plan raw strings s bytes k → bytes ≡ s.section.content
by_kind r plan raw strings s bytes kinds.Opaque h c = c
by_kind r plan raw strings s bytes kinds.Uninitialized h c = absurd (false≢true h)
by_kind r plan raw strings s bytes kinds.Dynamic h c = absurd (false≢true h)
by_kind r plan raw strings s bytes kinds.Relocation h c = absurd (false≢true h)
by_kind r plan raw strings s bytes kinds.Note h c = absurd (false≢true h)
by_kind r plan raw strings s bytes kinds.Strings h c = absurd (false≢true h)
by_kind r plan raw strings s bytes kinds.Symbols h c = absurd (false≢true h)
by_kind r plan raw strings s bytes kinds.DynamicSymbols h c = absurd (false≢true h)
by_kind r plan raw strings s bytes kinds.Hash h c = absurd (false≢true h)
by_kind r plan raw strings s bytes kinds.GnuHash h c = absurd (false≢true h)
by_kind r plan raw strings s bytes kinds.GnuVersym h c = absurd (false≢true h)
by_kind r plan raw strings s bytes kinds.GnuVerdef h c = absurd (false≢true h)
by_kind r plan raw strings s bytes kinds.GnuVerneed h c = absurd (false≢true h)

pub other_than : (X Y : Type 0) (b : Bool) → b ≡ false → (elim b as (λ _. Type 0) [ true ↦ X | _ ↦ Y ]) → Y
other_than X Y true e h = absurd (false≢true (sym e))
other_than X Y false e h = h

-- the bytes that are written of data are those that were read
pub data_content : (r : Resized) (plan : Plan) (raw : List EntryNumbers) (strings : List ℕ) (s : KeptSection) (bytes : List ℕ)
    → is_data r.read s ≡ true
    → IsContent r plan raw strings s bytes → bytes ≡ s.section.content
data_content r plan raw strings s bytes is_it content =
    let facts = data_facts r s is_it in
    by_kind r plan raw strings s bytes s.section.kind facts.opaque
    (other_than (bytes ≡ unwrap_or r.image.interpreter s.section.content) (IsContentByKind r plan raw strings s bytes) (is_interpreter r.read s)
    facts.other content)

-- ## The law

module _ (w : Output) (is : IsPlannedOutput w) where
  abbrev form : Form
  form = w.image.form

  abbrev header : FileHeader
  header = written_header w.image w.plan

  stand : Each (StandsIn (written_bytes w)) (patches w)
  stand = patches_stand w is

  lie : Each (LiesIn (length (written_bytes w))) (patches w)
  lie = subst (λ (n : ℕ). Each (LiesIn n) (patches w)) (sym (length-written w is)) (patches_lie w is)

  whole : spelled_file_header form header ++ drop (length (spelled_file_header form header)) (written_bytes w) ≡ written_bytes w
  whole = begins (written_bytes w) (spelled_file_header form header) stand.0

  magic : has_magic (written_bytes w) ≡ true
  magic = subst (λ (l : List ℕ). has_magic l ≡ true) whole
      (starts form.wide form.order header (drop (length (spelled_file_header form header)) (written_bytes w)))

  opened : opened_of (written_bytes w) ≡ Some (written_parts w).opened
  opened = subst (λ (l : List ℕ). opened_of l ≡ Some (record { file = l; form = form; header = header })) whole
      (files_are_opened form header (drop (length (spelled_file_header form header)) (written_bytes w)) is.written.fit.header)

  segments : segments_of (written_parts w).opened ≡ Some w.plan.segments
  unfolding segments_of
  segments = table_there (segment_header_size form) (segment_fields form) (spelled_segment_header form) (segment_header form)
      (tables_are_read_back form).segments
      w.plan.segments (written_bytes w) w.plan.e_phoff (length w.plan.segments) is.written.fit.segments refl
      (length-table (spelled_segment_header form) (segment_header_size form) (segment_headers_are_read_back form).long w.plan.segments)
      lie.1.0 stand.1.0

  sections : sections_of (written_parts w).opened ≡ Some w.headers
  unfolding sections_of
  sections = table_there (section_header_size form) (section_fields form) (spelled_section_header form) (section_header form)
      (tables_are_read_back form).sections
      w.headers (written_bytes w) w.plan.e_shoff (length w.plan.places) is.written.fit.sections (as_many w is)
      (length-table (spelled_section_header form) (section_header_size form) (section_headers_are_read_back form).long w.headers)
      lie.1.1.0 stand.1.1.0

  -- ## The bytes of sections

  no_bytes : (bytes : List ℕ) → length bytes ≡ 0 → bytes ≡ []
  no_bytes [] none = refl
  no_bytes (b ∷ bytes) none = absurd (omega arith)

  -- a section with bytes in the file
  stored_bytes : (f : ReadFacts w) (i : ℕ) (at : SectionAt w f.parts i) → occupies_file at.place ≡ true
      → field at.place.sh_size at.place.sh_offset (written_bytes w) ≡ at.bytes
  unfolding section_bytes
  stored_bytes f i at in_file = by_test (is_data (image_at_read w.image) (kept_as i at.number at.section)) refl
    where
      long : length at.bytes ≡ at.place.sh_size
      long = at.written.sized ∙ cond-true (occupies_file at.place) at.place.sh_size 0 in_file

      old_content : at.section.content ≡ field at.old.sh_size at.old.sh_offset w.image.source
      old_content =
          ap (λ (x : ImageSection). x.content) at.of_old.fields
          ∙ cond-true (has_file_bytes at.old) (field at.old.sh_size at.old.sh_offset (file_of f.parts)) []
          (ap (λ (n : ℕ). occupies_file (record at.place { sh_type = n })) (sym at.place_type) ∙ in_file)
          ∙ ap (field at.old.sh_size at.old.sh_offset) f.are_parts.same_file

      by_test : (b : Bool) → is_data (image_at_read w.image) (kept_as i at.number at.section) ≡ b
          → field at.place.sh_size at.place.sh_offset (written_bytes w) ≡ at.bytes
      by_test true is_it =
          data_stands w is f i at is_it in_file ∙ sym old_content
          ∙ sym (data_content (resized w.image) w.plan w.raw (content_at_number w.image w.contents at.section.sh_link)
          (kept_as i at.number at.section) at.bytes is_it at.written.content)
      by_test false other =
          ap (λ (n : ℕ). field n at.place.sh_offset (written_bytes w)) (sym long)
          ∙ section-patch (StandsIn (written_bytes w)) (resized w.image) (kept_sections w.image) w.plan.places w.contents stand.1.1.1
          i (kept_as i at.number at.section) at.place at.bytes at.is_kept at.is_place at.is_bytes in_file other

  bytes_at : (f : ReadFacts w) (i : ℕ) (at : SectionAt w f.parts i) → section_bytes (written_bytes w) at.header ≡ at.bytes
  unfolding section_bytes
  bytes_at f i at = by_test (occupies_file at.place) refl
    where
      same : has_file_bytes at.header ≡ occupies_file at.place
      same = ap (λ (n : ℕ). occupies_file (record at.place { sh_type = n })) (at.type ∙ sym at.place_type)

      by_test : (b : Bool) → occupies_file at.place ≡ b → section_bytes (written_bytes w) at.header ≡ at.bytes
      by_test true in_file =
          cond-true (has_file_bytes at.header) (field at.header.sh_size at.header.sh_offset (written_bytes w)) [] (same ∙ in_file)
          ∙ ap (λ (n : ℕ). field n at.header.sh_offset (written_bytes w)) at.size
          ∙ ap (λ (n : ℕ). field at.place.sh_size n (written_bytes w)) at.offset
          ∙ stored_bytes f i at in_file
      by_test false none =
          cond-false (has_file_bytes at.header) (field at.header.sh_size at.header.sh_offset (written_bytes w)) [] (same ∙ none)
          ∙ sym (no_bytes at.bytes (at.written.sized ∙ cond-false (occupies_file at.place) at.place.sh_size 0 none))

  contents : (i : ℕ) (h : SectionHeader) (bytes : List ℕ) → slice_get w.headers i ≡ Some h → slice_get w.contents i ≡ Some bytes
      → section_bytes (written_bytes w) h ≡ bytes
  contents i h bytes at_h at_bytes =
      let f = read_facts w is in
      let (at, same) = section_at_header w is f i h at_h in
      ap (section_bytes (written_bytes w)) (sym same) ∙ bytes_at f i at ∙ same_Some at.bytes bytes (sym at.is_bytes ∙ at_bytes)

pub written_files_have_parts : WrittenFilesHaveParts
written_files_have_parts w is =
    let l = lengths w is (read_facts w is) in
    record {
      magic = magic w is;
      parts = record { opened = opened w is; segments = segments w is; sections = sections w is; same_file = refl };
      counted = l.contents ∙ sym l.headers;
      contents = contents w is;
    }
