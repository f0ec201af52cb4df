-- The bytes of each section by its type: those that are copied, string tables, the dynamic list and the interpreter.
use Rattle.std.proofs.Common.{◌≡◌, ◌≤◌, ℕ, suc, add-one, ◌+◌, ◌-◌, ◌*◌, Bool, true, false, eqb, List, [], ◌∷◌, length, max, replicate, refl, sym, ap, ◌∙◌, subst, inl, inr, Option, Some, None, arith}
use Rattle.std.specs.Prelude.{◌&&◌, not, if◌then◌else◌, unwrap_or}
use Rattle.std.specs.List.{flat_map}
use Rattle.std.proofs.Math.Nat.{suc-mul}
use Rattle.std.proofs.lemmas.Bool.{cond-false, cond-true, eq-eqb, false≢true}
use Rattle.std.proofs.lemmas.List.{length-append, length-replicate}
use Rattle.elf_format.specs.declared.constants.TheConstants.{SHT_DYNAMIC, SHT_PROGBITS, SHT_STRTAB}
use Rattle.elf_format.specs.declared.form.Form.{Form}
use Rattle.elf_format.specs.declared.records.EntryNumbers.{EntryNumbers}
use Rattle.elf_format.specs.declared.records.SectionHeader.{SectionHeader}
use Rattle.elf_format.specs.declared.section_data.SectionData.TheVariants as kinds
use Rattle.elf_format.specs.Dynamic.{Entry}
use Rattle.elf_format.specs.Image.{Image, ImageSection}
use Rattle.elf_format.specs.Options.{list_at}
use Rattle.elf_format.specs.Places.{occupies_file}
use Rattle.elf_format.specs.Records.{entry_size}
use Rattle.elf_format.specs.Rules.{is_opaque_relocation}
use Rattle.elf_format.proofs.ForCallers.ViewsAgree.{there_if}
use Rattle.elf_image.specs.Kept.{interpreter_number, is_numbered, kept_of_type}
use Rattle.elf_layout_plan.specs.Needs.{written_entries}
use Rattle.elf_layout_plan.specs.Plan.{Plan, resized}
use Rattle.elf_layout_plan.specs.Sizes.{interpreter_size, new_size, strings_size}
use Rattle.elf_layout_plan.specs.Texts.{is_table_copied, texts_in_use}
use Rattle.elf_tables.specs.Strings.{IsTableOf, PlacesStand, Strings, place_of}
use Rattle.elf_write_spec.specs.Contents.{AreEntriesOf, IsContentByKind, IsStringTableOf, IsTableMadeOf, spelled_list}
use Rattle.elf_write_spec.specs.Final.{final}
use Rattle.elf_tables.specs.Spelled.{spelled_entry}
use Rattle.elf_tables.proofs.ForCallers.EntryBack.{entries_are_read_back}
use Rattle.elf_write_spec.proofs.ForCallers.SectionKinds.{kind_by}
use Rattle.elf_write_spec.proofs.ForCallers.LinkedLists.{one_place}
use Rattle.elf_write_spec.proofs.ForCallers.NumberedSections.{kept_as}
use Rattle.elf_write_spec.proofs.ForCallers.RawEntries.{length-raw}
use Rattle.elf_write_spec.proofs.ForCallers.SingleTypes.{one_section}
use Rattle.elf_write_spec.proofs.ForCallers.WholeEdits.{ReadFacts, interpreter_type, kept_found, was_of}
use Rattle.elf_write_spec.proofs.ForCallers.WholeLists.{first_at}
use Rattle.elf_write_symbol_tables.specs.Made.{Made}
use Rattle.elf_write_symbol_tables.specs.WrittenStrings.{AreStrings, IsTold, content_read, made_of, strings_at}
use Rattle.elf_write_symbol_tables.proofs.ForCallers.TablesThere.{content_at}
use Rattle.elf_write_symbol_tables.proofs.ForCallers.VersionsShown.{number_found, strings_copied, strings_made as strings_told}
use Rattle.elf_write_spec.specs.Ready.{IsEditedReady}
use Rattle.elf_write_contents.specs.ContentSteps.{IsRelocated}
use Rattle.elf_write_contents.specs.Inner.{AreRaw, IsMadeContent}
use Rattle.elf_write_contents.proofs.OthersCopied.{others_copied}
use Rattle.elf_write_contents.proofs.ContentsMade.{IsOther, PlacedAt, content_by, content_from, content_plain, is_plain, kind_is, kind_plain, plain_long, relocations_stored, resized_with, stored, typed, typed_size}
use Rattle.elf_write_contents.proofs.ContentsCopied.{content_long, content_sized, copied_size}

-- ## A table that is made

-- the texts of a table that is made stand where it tells
table_made : (texts : List (List ℕ)) (table : Strings) → IsTableOf texts table → PlacesStand table → IsTableMadeOf texts table.bytes
table_made texts table holds stand = record {
  first = holds.first;
  stand = λ text among.
      let (place, is_place) = there_if (place_of table text) (holds.added text among) in
      (place, stand text place is_place);
  long = holds.long;
}

module _ (read image : Image) (plan : Plan) (made : List Made) (raw : List EntryNumbers) (is : IsEditedReady read image) (f : ReadFacts read image)
    (i : ℕ) (at : PlacedAt read image plan f.parts i) (apart : is_numbered (interpreter_number read) (kept_as i at.here.number at.here.section) ≡ false) where
  -- ## Sections that are copied

  others_sized : IsOther at.here.section.sh_type → (bytes : List ℕ) → is_plain at.here.section.kind ≡ true → IsRelocated (resized_with read image) at.here.section bytes
      → length bytes ≡ (if occupies_file at.place then at.place.sh_size else 0)
  others_sized other bytes plain are =
      let same : at.place.sh_size ≡ at.here.section.sh_size = copied_size read image plan f i at apart other in
      let kind : at.here.section.kind ≡ kind_by at.here.section.sh_type (is_opaque_relocation f.parts at.here.old) =
      kind_is read image plan made raw f.parts i at at.here.section.sh_type refl in
      plain_long (resized_with read image) at.here.section bytes (if occupies_file at.place then at.place.sh_size else 0) at.here.section.kind plain are
      (content_sized read image plan f i at same)
      (λ e. sym same ∙ sym (stored read image plan made raw f.parts i at apart at.here.section.sh_type refl
      (relocations_stored at.here.section.sh_type (is_opaque_relocation f.parts at.here.old) (sym kind ∙ e))))

  pub others_made : IsOther at.here.section.sh_type → (bytes : List ℕ) → IsRelocated (resized_with read image) at.here.section bytes
      → IsMadeContent (resized_with read image) plan made raw (kept_as i at.here.number at.here.section) at.place bytes
  others_made other bytes are =
      let plain : is_plain at.here.section.kind ≡ true =
      ap is_plain (kind_is read image plan made raw f.parts i at at.here.section.sh_type refl)
      ∙ kind_plain at.here.section.sh_type (is_opaque_relocation f.parts at.here.old) other in
      record {
        sized = others_sized other bytes plain are;
        content = content_from read image plan made raw f.parts i at apart (strings_at image made at.here.section.sh_link) bytes at.here.section.kind
            refl (content_plain (resized_with read image) plan raw (strings_at image made at.here.section.sh_link) (kept_as i at.here.number at.here.section)
            bytes at.here.section.kind plain are);
        strings = λ e. absurd (false≢true (sym other.strings ∙ eq-eqb at.here.section.sh_type SHT_STRTAB e));
      }

  -- ## String tables

  abbrev n : ℕ
  n = at.here.number

  content_as_read : content_read image n ≡ at.here.section.content
  content_as_read = content_at read image f i at.here

  -- a table's bytes: those that were read where it is copied, as many as its texts need where it is made anew
  record IsTable (bytes : List ℕ) : Type 0 where
    shown : IsStringTableOf read image (kept_as i n at.here.section) bytes
    long : length at.here.section.content ≡ at.here.section.sh_size → length bytes ≡ strings_size read image (kept_as i at.here.number at.here.section)

  copied_table : (bytes : List ℕ) → bytes ≡ content_read image n → is_table_copied read image n ≡ true → IsTable bytes
  copied_table bytes e copied = record {
    shown = record { copied = λ _. e ∙ content_as_read; anew = λ anew. absurd (false≢true (sym anew ∙ copied)) };
    long = λ long. ap length (e ∙ content_as_read) ∙ long ∙ sym (cond-true (is_table_copied read image n) at.here.section.sh_size _ copied);
  }

  -- the table that is told anew
  told_table : (m : Made) → IsTold read image m → m.number ≡ n → IsTable m.table.bytes
  told_table m told number = by_copied (is_table_copied read image n) refl
    where
      by_copied : (b : Bool) → is_table_copied read image n ≡ b → IsTable m.table.bytes
      by_copied true copied =
          copied_table m.table.bytes (told.copied (ap (is_table_copied read image) number ∙ copied) ∙ ap (content_read image) number) copied
      by_copied false anew =
          let has = told.anew (ap (is_table_copied read image) number ∙ anew) in
          let of_texts : IsTableMadeOf (texts_in_use read image n) m.table.bytes =
          subst (λ (k : ℕ). IsTableMadeOf (texts_in_use read image k) m.table.bytes) number
          (table_made (texts_in_use read image m.number) m.table has.holds has.stand) in
          record {
            shown = record { copied = λ yes. absurd (false≢true (sym anew ∙ yes)); anew = λ _. of_texts };
            long = λ _. of_texts.long ∙ sym (cond-false (is_table_copied read image n) at.here.section.sh_size _ anew);
          }

  -- a table that isn't told anew is copied
  copied_here : AreStrings read image made → made_of made n ≡ None → is_table_copied read image n ≡ true
  copied_here strings none = others_copied is n (λ edited. (strings.as_read n edited none).copied)

  table_is : AreStrings read image made → IsTable (strings_at image made n)
  table_is strings = by_made (made_of made n) refl
    where
      by_made : (o : Option Made) → made_of made n ≡ o → IsTable (strings_at image made n)
      by_made None none =
          subst IsTable (strings_copied image made n none) (copied_table (content_read image n) refl (copied_here strings none))
      by_made (Some m) found =
          subst IsTable (strings_told image made n m found) (told_table m (strings.told n m found) (number_found made n m found))

  pub strings_made : at.here.section.sh_type ≡ SHT_STRTAB → AreStrings read image made
      → IsMadeContent (resized_with read image) plan made raw (kept_as i at.here.number at.here.section) at.place (strings_at image made n)
  strings_made e strings =
      let table : IsTable (strings_at image made n) = table_is strings in
      record {
        sized = table.long (content_long read image plan f i at (ap (λ t. not (eqb t 0) && not (eqb t 8)) e))
            ∙ sym (typed_size read image plan made raw f.parts i at apart SHT_STRTAB e)
            ∙ sym (stored read image plan made raw f.parts i at apart SHT_STRTAB e refl);
        content = content_by read image plan made raw f.parts i at apart (strings_at image made at.here.section.sh_link) (strings_at image made n)
            SHT_STRTAB e kinds.Strings (λ opaque. refl) table.shown;
        strings = λ _. refl;
      }

-- ## The dynamic list

length-spelled : (form : Form) (raw : List EntryNumbers) → length (flat_map (spelled_entry form) raw) ≡ length raw * entry_size form
length-spelled form [] = omega arith
length-spelled form (e ∷ es) =
    length-append (spelled_entry form e) (flat_map (spelled_entry form) es)
    ∙ ap (λ n. n + length (flat_map (spelled_entry form) es)) ((entries_are_read_back form).long e)
    ∙ ap (λ n. entry_size form + n) (length-spelled form es)
    ∙ one_more (length es) (entry_size form)
  where
    one_more : (n size : ℕ) → size + n * size ≡ suc n * size
    one_more n size = omega (arith, suc-mul n size)

pub length-list : (form : Form) (raw : List EntryNumbers) (size : ℕ) → length raw * entry_size form ≤ size → length (spelled_list form raw size) ≡ size
unfolding spelled_list
length-list form raw size room =
    length-append (flat_map (spelled_entry form) raw) (replicate (size - length raw * entry_size form) 0)
    ∙ ap (λ n. n + length {A = ℕ} (replicate (size - length raw * entry_size form) 0)) (length-spelled form raw)
    ∙ ap (λ n. length raw * entry_size form + n) (length-replicate {A = ℕ} (size - length raw * entry_size form) 0)
    ∙ rest (length raw * entry_size form) size room
  where
    rest : (n m : ℕ) → n ≤ m → n + (m - n) ≡ m
    rest n m h = omega arith

room_for : (n size old : ℕ) → n * size ≤ max old ((n + 1) * size)
room_for n size old =
    let e : (n + 1) * size ≡ n * size + size = ap (λ m. m * size) (add-one n) ∙ suc-mul n size in
    omega arith

module _ (read image : Image) (plan : Plan) (made : List Made) (raw : List EntryNumbers) (is : IsEditedReady read image) (f : ReadFacts read image)
    (are : AreRaw (resized image) plan made raw)
    (i : ℕ) (at : PlacedAt read image plan f.parts i) (apart : is_numbered (interpreter_number read) (kept_as i at.here.number at.here.section) ≡ false)
    (typed_so : at.here.section.sh_type ≡ SHT_DYNAMIC) where
  -- the dynamic section is the one of its type
  is_list : kept_of_type SHT_DYNAMIC image ≡ Some (kept_as i at.here.number at.here.section)
  is_list =
      let test : SectionHeader → Bool = was_of read image f SHT_DYNAMIC in
      let passes : test at.here.old ≡ true =
      eq-eqb at.here.old.sh_type SHT_DYNAMIC (sym (ap (λ (x : ImageSection). x.sh_type) at.here.of_old.fields) ∙ typed_so) in
      elim (first_at test f.parts.sections) [
        | inl found ↦
            let same : at.here.number ≡ found.index =
            one_place test f.parts.sections at.here.number found.index at.here.old found.element
            (one_section f.parts f.rules SHT_DYNAMIC refl) at.here.is_old found.there passes found.passes in
            kept_found read image f SHT_DYNAMIC found i at.here same typed_so
        | inr none ↦ absurd (false≢true (sym (none at.here.number at.here.old at.here.is_old) ∙ passes))
      ]

  -- the entries of the dynamic section
  listed : AreEntriesOf (resized_with read image) plan (strings_at image made at.here.section.sh_link) (list_at (λ es. es) (final read image).entries) raw
  listed =
      (subst (λ (x : Image). AreRaw (resized_with x image) plan made raw) (sym is.at_read) are).listed (kept_as i at.here.number at.here.section) is_list

  pub room : length raw * entry_size image.form ≤ at.place.sh_size
  unfolding final
  room =
      let entries : List Entry = list_at (λ es. es) (written_entries read image) in
      let long : length raw ≡ length entries =
      length-raw (resized_with read image) plan (strings_at image made at.here.section.sh_link) entries raw listed in
      let size : at.place.sh_size ≡ max at.here.section.sh_size ((length entries + 1) * entry_size image.form) =
      typed_size read image plan made raw f.parts i at apart SHT_DYNAMIC typed_so in
      subst (λ n. length raw * entry_size image.form ≤ n) (sym size)
      (subst (λ n. n * entry_size image.form ≤ max at.here.section.sh_size ((length entries + 1) * entry_size image.form)) (sym long)
      (room_for (length entries) (entry_size image.form) at.here.section.sh_size))

  pub list_made : IsMadeContent (resized_with read image) plan made raw (kept_as i at.here.number at.here.section) at.place (spelled_list image.form raw at.place.sh_size)
  list_made =
      let bytes : List ℕ = spelled_list image.form raw at.place.sh_size in
      let long : length bytes ≡ at.place.sh_size = length-list image.form raw at.place.sh_size room in
      typed read image plan made raw f.parts i at apart bytes SHT_DYNAMIC typed_so refl refl kinds.Dynamic (λ opaque. refl)
      (long ∙ typed_size read image plan made raw f.parts i at apart SHT_DYNAMIC typed_so)
      (listed, ap (spelled_list image.form raw) (sym long))

-- ## The interpreter

module _ (read image : Image) (plan : Plan) (made : List Made) (raw : List EntryNumbers) (f : ReadFacts read image)
    (i : ℕ) (at : PlacedAt read image plan f.parts i) (own : is_numbered (interpreter_number read) (kept_as i at.here.number at.here.section) ≡ true) where
  type_is : at.here.section.sh_type ≡ SHT_PROGBITS
  type_is = interpreter_type read image f i at.here own

  -- the bytes of its section: its name, or where there is none what was read
  abbrev name : List ℕ
  name = unwrap_or image.interpreter at.here.section.content

  name_size : (o : Option (List ℕ)) → length (unwrap_or o at.here.section.content)
      ≡ (elim o as (λ _. ℕ) [ Some bytes ↦ length bytes | None ↦ at.here.section.sh_size ])
  name_size None = content_long read image plan f i at (ap (λ t. not (eqb t 0) && not (eqb t 8)) type_is)
  name_size (Some bytes) = refl

  own_size : at.place.sh_size ≡ interpreter_size image at.here.section
  unfolding new_size
  own_size =
      at.place_size
      ∙ cond-true (is_numbered (interpreter_number read) (kept_as i at.here.number at.here.section)) (interpreter_size image at.here.section) _ own

  pub interpreter_made : IsMadeContent (resized_with read image) plan made raw (kept_as i at.here.number at.here.section) at.place name
  interpreter_made = record {
    sized = name_size image.interpreter ∙ sym own_size
        ∙ sym (cond-true (occupies_file at.place) at.place.sh_size 0 (ap (λ t. not (eqb t 0) && not (eqb t 8)) (at.place_type ∙ type_is)));
    content = subst (λ (b : Bool). elim b as (λ _. Type 0) [
      | true ↦ name ≡ name
      | _ ↦ IsContentByKind (resized_with read image) plan raw (strings_at image made at.here.section.sh_link)
          (kept_as i at.here.number at.here.section) name
    ]) (sym own) refl;
    strings = λ e. absurd (no_table (sym type_is ∙ e));
  }
    where
      no_table : SHT_PROGBITS ≡ SHT_STRTAB → ⊥
      no_table h = omega (arith, h)
