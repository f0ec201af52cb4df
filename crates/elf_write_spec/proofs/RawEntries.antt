-- The dynamic entries of a written file are those that were written.
use Rattle.std.proofs.Common.{◌≡◌, ◌≢◌, ◌≤◌, ◌<◌, ℕ, suc, ◌+◌, ◌-◌, ◌*◌, Bool, true, false, List, [], ◌∷◌, length, take, drop, refl, sym, ap, ◌∙◌, subst, arith, add-one, Option, Some, None, All}
use Rattle.std.specs.Prelude.{◌==◌, ◌&&◌, not, if◌then◌else◌, max, unwrap_or}
use Rattle.std.proofs.Math.Nat.{suc-mul}
use Rattle.std.proofs.lemmas.Bool.{cond-false, cond-true, cond_both}
use Rattle.std.proofs.lemmas.List.{length-drop, length-take}
use Rattle.std.proofs.lemmas.List.Elements.{All-head, All-nil, All-tail}
use Rattle.std.proofs.lemmas.Option.{none-some}
use Rattle.patch_bytes.specs.declared.number.Wide.{Wide}
use Rattle.patch_bytes.specs.declared.number.Wide.TheVariants.{W32, W64}
use Rattle.patch_bytes.specs.Memory.{memory_of}
use Rattle.elf_format.specs.declared.constants.TheConstants.{SHT_DYNAMIC, SHT_NOBITS, SHT_NULL}
use Rattle.elf_format.specs.declared.records.EntryNumbers.{EntryNumbers}
use Rattle.elf_format.specs.declared.records.SectionHeader.{SectionHeader}
use Rattle.elf_format.specs.declared.section_data.SectionData.{SectionData}
use Rattle.elf_format.specs.declared.section_data.SectionData.TheVariants as kinds
use Rattle.elf_format.specs.Dynamic.{Entry, entries_at}
use Rattle.elf_format.specs.File.{Parts, has_file_bytes, section_bytes, section_of_type}
use Rattle.elf_format.specs.Form.{by_class}
use Rattle.elf_format.specs.Image.{ImageSection}
use Rattle.elf_format.specs.Options.{list_at}
use Rattle.elf_format.specs.Records.{entry_size}
use Rattle.elf_format.specs.Rules.{data_of, raw_entries}
use Rattle.elf_format.specs.Views.{section_memory}
use Rattle.elf_image.specs.DynamicList.{IsListed}
use Rattle.elf_image.specs.Edited as edited
use Rattle.elf_image.specs.Kept.{image_at_read, interpreter_number, is_numbered}
use Rattle.elf_layout_plan.specs.Memory.{Resized}
use Rattle.elf_layout_plan.specs.Plan.{Plan, resized}
use Rattle.elf_layout_plan.specs.Sizes.{dynamic_size, interpreter_size, new_size, table_size}
use Rattle.elf_layout_plan.proofs.ForCallers.ApartLists.{Each}
use Rattle.elf_write_spec.specs.ReadBack.{HasWrittenParts, written_parts}
use Rattle.elf_write_spec.specs.Base.{is_interpreter}
use Rattle.elf_write_spec.specs.Contents.{AreEntriesOf, IsContentOfKind, content_at_number, spelled_list}
use Rattle.elf_write_spec.specs.Final.{final}
use Rattle.elf_write_spec.specs.Output.{IsPlannedOutput, Output, written_bytes}
use Rattle.elf_write_spec.proofs.FinalEntries.{written_listed}
use Rattle.elf_write_spec.proofs.InterpreterAt.{isnt_interpreter}
use Rattle.elf_write_spec.proofs.SpelledEntries.{spelled-read}
use Rattle.elf_write_spec.proofs.WholeEdits.{entries_written}
use Rattle.elf_write_spec.proofs.WholeFacts.{Nowhere, ReadFacts, SectionAt, There, TypeAt, read_facts, type_at}
use Rattle.elf_write_spec.proofs.NumberedSections.{kept_as}

-- ## The entries of an image

-- no entry of an image is a DT_NULL
pub all_listed : (read now : Option (List Entry)) → edited.AreEntriesOf read now → All IsListed (list_at (λ es. es) now)
all_listed None None h = All-nil IsListed
all_listed None (Some now) h = absurd h
all_listed (Some read) None h = absurd h
all_listed (Some read) (Some now) h = h.listed

module _ (r : Resized) (plan : Plan) (strings : List ℕ) where
  pub length-raw : (es : List Entry) (raw : List EntryNumbers) → AreEntriesOf r plan strings es raw → length raw ≡ length es
  length-raw [] [] h = refl
  length-raw [] (x ∷ xs) h = absurd h
  length-raw (e ∷ es) [] h = absurd h
  length-raw (e ∷ es) (x ∷ xs) h = ap suc (length-raw es xs h.1)

  no-null : (es : List Entry) (raw : List EntryNumbers) → AreEntriesOf r plan strings es raw → All IsListed es → Each (λ e. e.d_tag ≢ 0) raw
  no-null [] [] h listed = tt
  no-null [] (x ∷ xs) h listed = absurd h
  no-null (e ∷ es) [] h listed = absurd h
  no-null (e ∷ es) (x ∷ xs) h listed =
      ((λ null. (All-head IsListed e es listed).not_null (sym h.0.tag ∙ null)), no-null es xs h.1 (All-tail IsListed e es listed))

-- the entries that are written, too
pub final_listed : (w : Output) → ReadFacts w → All IsListed (list_at (λ es. es) (final (image_at_read w.image) w.image).entries)
final_listed w f =
    subst (λ (o : Option (List Entry)). All IsListed (list_at (λ es. es) o)) (sym (entries_written (image_at_read w.image) w.image))
    (written_listed (image_at_read w.image) w.image (all_listed (image_at_read w.image).entries w.image.entries f.edit.entries))

-- ## Sizes

-- a section's bytes are no more than the file's
section-le : (file : List ℕ) (s : SectionHeader) → length (section_bytes file s) ≤ length file
unfolding section_bytes
section-le file s =
    cond_both (has_file_bytes s) (take s.sh_size (drop s.sh_offset file)) [] (λ (l : List ℕ). length l ≤ length file)
    (λ _. omega (arith, length-take s.sh_size (drop s.sh_offset file), length-drop s.sh_offset file)) (λ _. omega arith)

fewer : (wide : Wide) (n m : ℕ) → (n + 1) * by_class wide 8 16 ≤ m → n < m
fewer W32 n m h = omega arith
fewer W64 n m h = omega arith

one-more : (n size long : ℕ) → (n + 1) * size ≤ long → size ≤ long - n * size
one-more n size long h =
    let e : (n + 1) * size ≡ n * size + size = ap (λ m. m * size) (add-one n) ∙ suc-mul n size in
    omega arith

-- ## The dynamic section

dynamic_kind : (p : Parts) (s : SectionHeader) → s.sh_type ≡ SHT_DYNAMIC → data_of p s ≡ kinds.Dynamic
dynamic_kind p s type =
    cond-false (s.sh_type == SHT_NOBITS) kinds.Uninitialized _ (ap (λ n. n == SHT_NOBITS) type)
    ∙ cond-true (s.sh_type == SHT_DYNAMIC) kinds.Dynamic _ (ap (λ n. n == SHT_DYNAMIC) type)

module _ (w : Output) (is : IsPlannedOutput w) (f : ReadFacts w) (i : ℕ) (at : SectionAt w f.parts i)
    (type : at.old.sh_type ≡ SHT_DYNAMIC) where
  section_type : at.section.sh_type ≡ SHT_DYNAMIC
  section_type = ap (λ (s : ImageSection). s.sh_type) at.of_old.fields ∙ type

  kind_is : at.section.kind ≡ kinds.Dynamic
  kind_is = ap (λ (s : ImageSection). s.kind) at.of_old.fields ∙ dynamic_kind f.parts at.old type

  not_interpreter : is_interpreter (image_at_read w.image) (kept_as i at.number at.section) ≡ false
  not_interpreter = isnt_interpreter w is f i at (ap (λ n. n == 1) section_type)

  -- the strings of the list, as they are written
  abbrev pub list_strings : List ℕ
  list_strings = content_at_number w.image w.contents at.section.sh_link

  abbrev pub final_entries : List Entry
  final_entries = list_at (λ es. es) (final (image_at_read w.image) w.image).entries

  content_by : Bool → SectionData → Type 0
  content_by b kind = elim b [
    | true ↦ at.bytes ≡ unwrap_or w.image.interpreter at.section.content
    | _ ↦ IsContentOfKind (resized w.image) w.plan w.raw list_strings (kept_as i at.number at.section) at.bytes kind
  ]

  -- the entries and the bytes of the dynamic section
  content : AreEntriesOf (resized w.image) w.plan list_strings final_entries w.raw ×
      (at.bytes ≡ spelled_list w.image.form w.raw (length at.bytes))
  unfolding content_by
  content = subst (content_by false) kind_is (subst (λ b. content_by b at.section.kind) not_interpreter at.written.content)

  -- one raw entry for each that is written
  pub are_entries : AreEntriesOf (resized w.image) w.plan list_strings final_entries w.raw
  are_entries = content.0

  -- the dynamic section has as many bytes as its place
  pub place_filled : length at.bytes ≡ at.place.sh_size
  place_filled = at.written.sized ∙ ap (λ n. if not (n == SHT_NULL) && not (n == SHT_NOBITS) then at.place.sh_size else 0)
      (at.place_type ∙ type)

  place_long : at.place.sh_size ≡ dynamic_size (image_at_read w.image) w.image at.section
  unfolding new_size
  place_long =
      at.place_size
      ∙ cond-false (is_numbered (interpreter_number (image_at_read w.image)) (kept_as i at.number at.section)) (interpreter_size w.image at.section)
      (table_size (image_at_read w.image) w.image (kept_as i at.number at.section)) not_interpreter
      ∙ cond-true (at.section.sh_type == SHT_DYNAMIC) (dynamic_size (image_at_read w.image) w.image at.section) _
      (ap (λ n. n == SHT_DYNAMIC) section_type)

  -- which has room for one entry more
  room : (length w.raw + 1) * entry_size w.image.form ≤ length at.bytes
  unfolding final
  room =
      let same : length w.raw ≡ length final_entries = length-raw (resized w.image) w.plan list_strings final_entries w.raw content.0 in
      let size : ℕ = (length final_entries + 1) * entry_size w.image.form in
      let long : length at.bytes ≡ max at.section.sh_size size = place_filled ∙ place_long in
      let enough : (length w.raw + 1) * entry_size w.image.form ≡ size = ap (λ n. (n + 1) * entry_size w.image.form) same in
      omega arith

  tags : Each (λ e. e.d_tag ≢ 0) w.raw
  tags =
      no-null (resized w.image) w.plan list_strings final_entries w.raw are_entries (final_listed w f)

  -- a reader with room for as many bytes finds the entries there
  pub entries_there : (size : ℕ) → length at.bytes ≤ size → entries_at size w.image.form (memory_of at.bytes) 0 ≡ Some w.raw
  unfolding spelled_list
  entries_there size long =
      let count : ℕ = length w.raw * entry_size w.image.form in
      ap (λ (l : List ℕ). entries_at size w.image.form (memory_of l) 0) content.1
      ∙ spelled-read w.image.form w.raw size (length at.bytes - count)
      (one-more (length w.raw) (entry_size w.image.form) (length at.bytes) room)
      (omega (arith, fewer w.image.form.wide (length w.raw) (length at.bytes) room, long)) is.written.fit.entries tags

  -- the section of the written file
  pub entries_here : (has : HasWrittenParts w)
      → entries_at (length (written_bytes w)) w.image.form (memory_of (section_bytes (written_bytes w) at.header)) 0 ≡ Some w.raw
  entries_here has =
      let bytes : section_bytes (written_bytes w) at.header ≡ at.bytes = has.contents i at.header at.bytes at.is_header at.is_bytes in
      ap (λ (l : List ℕ). entries_at (length (written_bytes w)) w.image.form (memory_of l) 0) bytes
      ∙ entries_there (length (written_bytes w)) (omega (arith, section-le (written_bytes w) at.header, ap length bytes))

pub raw_is : (w : Output) → IsPlannedOutput w → HasWrittenParts w → (list : SectionHeader)
    → section_of_type SHT_DYNAMIC w.headers ≡ Some list → raw_entries (written_parts w) ≡ w.raw
raw_is w is has list there = by_type (read_facts w is) (type_at w is (read_facts w is) SHT_DYNAMIC refl)
  where
    by_type : (f : ReadFacts w) → TypeAt w f.parts SHT_DYNAMIC → raw_entries (written_parts w) ≡ w.raw
    by_type f (Nowhere _ none _) = absurd (none-some list (sym none ∙ there))
    by_type f (There i at type _ at_header _) =
        ap (λ (o : Option SectionHeader). unwrap_or
        (entries_at (length (written_bytes w)) w.image.form (section_memory (written_bytes w) o) 0) []) at_header
        ∙ ap (λ (o : Option (List EntryNumbers)). unwrap_or o []) (entries_here w is f i at type has)
