-- The dynamic list of a written file is that of the image in its final form.
use Rattle.std.proofs.Common.{◌≡◌, ◌≤◌, ℕ, true, false, cond, List, [], ◌∷◌, length, refl, sym, ap, ◌∙◌, subst, Option, Some, None}
use Rattle.std.specs.Prelude.{◌||◌, not}
use Rattle.std.specs.List.{AllByRecursion}
use Rattle.std.proofs.lemmas.Bool.{cond-false, cond-true, not-true, or_parts}
use Rattle.std.proofs.lemmas.Option.{none-some, same_Some}
use Rattle.patch_bytes.specs.Memory.{◌>>=◌, Keeps, Memory, memory_of, text_at}
use Rattle.patch_bytes.proofs.MemoryLaws.{bind_some, some_bind}
use Rattle.elf_format.specs.declared.constants.TheConstants.{SHT_DYNAMIC}
use Rattle.elf_format.specs.declared.records.EntryNumbers.{EntryNumbers}
use Rattle.elf_format.specs.declared.records.SectionHeader.{SectionHeader}
use Rattle.elf_format.specs.Dynamic.{Auto, Entry, Integer, Text, shown_entry, table_tags}
use Rattle.elf_format.specs.File.{section_of_type}
use Rattle.elf_format.specs.Image.{Image, entries_read}
use Rattle.elf_format.specs.Options.{each, is_one_of, list_at}
use Rattle.elf_format.specs.Rules.{file_of, linked_texts, raw_entries, text_users}
use Rattle.elf_image.specs.DynamicList.{IsListed, is_table_tag, is_text_tag}
use Rattle.elf_image.specs.Edited.{AreEntriesOf as AreEditedEntries}
use Rattle.elf_image.specs.Kept.{image_at_read}
use Rattle.elf_layout_plan.specs.Memory.{Resized}
use Rattle.elf_layout_plan.specs.Plan.{Plan, resized}
use Rattle.elf_write_spec.specs.ReadBack.{HasWrittenParts, written_parts}
use Rattle.elf_write_spec.specs.Contents.{AreEntriesOf, IsEntryOf}
use Rattle.elf_write_spec.specs.Final.{final}
use Rattle.elf_write_spec.specs.Output.{IsPlannedOutput, Output, written_bytes}
use Rattle.elf_write_spec.proofs.ContentsReadBack.{entries_content, linked_at, texts_fit}
use Rattle.elf_write_spec.proofs.FinalEntries.{written_none, written_some}
use Rattle.elf_write_spec.proofs.RawEntries.{raw_is}
use Rattle.elf_write_spec.proofs.StringsReadBack.{entries_shared, listed_all, texts_kept}
use Rattle.elf_write_spec.proofs.TextsRead.{text_read_back}
use Rattle.elf_write_spec.proofs.WholeEdits.{entries_written}
use Rattle.elf_write_spec.proofs.WholeFacts.{ReadFacts, SectionAt, There, Nowhere, read_facts, type_at}
use Rattle.elf_write_spec.proofs.WholeLists.{passes_one}

-- ## One by one

-- the tags of tables don't say where a text stands
no_text : (tag : ℕ) → is_table_tag tag ≡ true → is_text_tag tag ≡ false
no_text tag h = not-true (is_text_tag tag) (passes_one (λ t. not (is_text_tag t)) table_tags tag refl h)

module _ (r : Resized) (plan : Plan) (strings : List ℕ) (room : ℕ) (texts : Memory) (long : length strings ≤ room)
    (keeps : Keeps (memory_of strings) texts) where
  shown_is : (e : Entry) (x : EntryNumbers) → IsEntryOf r plan strings e x → IsListed e → shown_entry room texts x ≡ Some e
  unfolding shown_entry
  shown_is (Auto tag) x is listed =
      let text : Option Entry = text_at room texts x.d_value >>= λ t. Some (Text x.d_tag t) in
      cond-false (is_text_tag x.d_tag) text (cond (is_table_tag x.d_tag) (Some (Auto x.d_tag)) (Some (Integer x.d_tag x.d_value)))
      (ap is_text_tag is.tag ∙ no_text tag listed.of_its_tag)
      ∙ cond-true (is_table_tag x.d_tag) (Some (Auto x.d_tag)) (Some (Integer x.d_tag x.d_value))
      (ap is_table_tag is.tag ∙ listed.of_its_tag)
      ∙ ap (λ (t : ℕ). Some (Auto t)) is.tag
  shown_is (Integer tag number) x is listed =
      let text : Option Entry = text_at room texts x.d_value >>= λ t. Some (Text x.d_tag t) in
      let neither = or_parts (is_table_tag tag) (is_text_tag tag) (not-true (is_table_tag tag || is_text_tag tag) listed.of_its_tag) in
      cond-false (is_text_tag x.d_tag) text (cond (is_table_tag x.d_tag) (Some (Auto x.d_tag)) (Some (Integer x.d_tag x.d_value)))
      (ap is_text_tag is.tag ∙ neither.1)
      ∙ cond-false (is_table_tag x.d_tag) (Some (Auto x.d_tag)) (Some (Integer x.d_tag x.d_value)) (ap is_table_tag is.tag ∙ neither.0)
      ∙ ap (λ (t : ℕ). Some (Integer t x.d_value)) is.tag ∙ ap (λ (n : ℕ). Some (Integer tag n)) is.value
  shown_is (Text tag text) x is listed =
      let found : Option Entry = text_at room texts x.d_value >>= λ t. Some (Text x.d_tag t) in
      cond-true (is_text_tag x.d_tag) found (cond (is_table_tag x.d_tag) (Some (Auto x.d_tag)) (Some (Integer x.d_tag x.d_value)))
      (ap is_text_tag is.tag ∙ listed.of_its_tag)
      ∙ some_bind (text_at room texts x.d_value) (λ t. Some (Text x.d_tag t)) text
      (text_read_back strings x.d_value text is.value room long texts keeps)
      ∙ ap (λ (t : ℕ). Some (Text t text)) is.tag

  shown_all : (es : List Entry) (raw : List EntryNumbers) → AreEntriesOf r plan strings es raw → AllByRecursion IsListed es
      → each (shown_entry room texts) raw ≡ Some es
  unfolding each
  shown_all [] [] are listed = refl
  shown_all [] (x ∷ xs) are listed = absurd are
  shown_all (e ∷ es) [] are listed = absurd are
  shown_all (e ∷ es) (x ∷ xs) are listed =
      some_bind (shown_entry room texts x) (λ z. each (shown_entry room texts) xs >>= λ zs. Some (z ∷ zs)) e (shown_is e x are.0 listed.0)
      ∙ some_bind (each (shown_entry room texts) xs) (λ zs. Some (e ∷ zs)) es (shown_all es xs are.1 listed.1)

-- ## The list

-- there is a list where one was read, and only there
pub none_edited : (read now : Option (List Entry)) → AreEditedEntries read now → read ≡ None → now ≡ None
none_edited None None are h = refl
none_edited None (Some now) are h = absurd are
none_edited (Some read) now are h = absurd (none-some read (sym h))

some_edited : (read now : Option (List Entry)) (old : List Entry) → AreEditedEntries read now → read ≡ Some old
    → now ≡ Some (list_at (λ es. es) now)
some_edited None now old are h = absurd (none-some old h)
some_edited (Some read) None old are h = absurd are
some_edited (Some read) (Some now) old are h = refl

module _ (w : Output) (is : IsPlannedOutput w) (has : HasWrittenParts w) (f : ReadFacts w) where
  -- the entries, with their texts
  pub entries_shown : (j : ℕ) (list : SectionAt w f.parts j) → list.old.sh_type ≡ SHT_DYNAMIC
      → section_of_type SHT_DYNAMIC f.parts.sections ≡ Some list.old → section_of_type SHT_DYNAMIC w.headers ≡ Some list.header
      → each (shown_entry (length (written_bytes w)) (linked_texts (written_parts w) list.header)) (raw_entries (written_parts w))
      ≡ Some (list_at (λ es. es) (final (image_at_read w.image) w.image).entries)
  entries_shown j list e was now =
      let l = linked_at w is f j list (ap (is_one_of text_users) e) in
      let es : List Entry = list_at (λ es. es) (final (image_at_read w.image) w.image).entries in
      let texts : Memory = linked_texts (written_parts w) list.header in
      let are : AreEntriesOf (resized w.image) w.plan l.table.bytes es w.raw =
      subst (λ (xs : List ℕ). AreEntriesOf (resized w.image) w.plan xs es w.raw) l.are_strings (entries_content w is f j list e) in
      ap (each (shown_entry (length (written_bytes w)) texts)) (raw_is w is has list.header now)
      ∙ shown_all (resized w.image) w.plan l.table.bytes (length (written_bytes w)) texts (texts_fit w is has f j list l)
      (texts_kept w is has f j list l (entries_shared w is has f list.old was)) es w.raw are
      (listed_all w f)

  -- a list was read
  list_read : (old : SectionHeader) → section_of_type SHT_DYNAMIC f.parts.sections ≡ Some old
      → (es : List Entry) × ((image_at_read w.image).entries ≡ Some es)
  unfolding entries_read
  list_read old was =
      let of_section : entries_read f.parts (Some old) ≡ Some (image_at_read w.image).entries = ap (entries_read f.parts) (sym was)
      ∙ f.holds.entries in
      let (es, _, made) = bind_some (each (shown_entry (length (file_of f.parts)) (linked_texts f.parts old)) (raw_entries f.parts))
      (λ es. Some (Some es))
      (image_at_read w.image).entries of_section in
      (es, sym (same_Some (Some es) (image_at_read w.image).entries made))

  list_none : section_of_type SHT_DYNAMIC f.parts.sections ≡ None → (final (image_at_read w.image) w.image).entries ≡ None
  unfolding entries_read
  list_none was =
      let of_none : entries_read f.parts None ≡ Some (image_at_read w.image).entries = ap (entries_read f.parts) (sym was)
      ∙ f.holds.entries in
      entries_written (image_at_read w.image) w.image
      ∙ written_none (image_at_read w.image) w.image
      (none_edited (image_at_read w.image).entries w.image.entries f.edit.entries
      (sym (same_Some None (image_at_read w.image).entries of_none)))

  pub entries_there : (j : ℕ) (list : SectionAt w f.parts j) → list.old.sh_type ≡ SHT_DYNAMIC
      → section_of_type SHT_DYNAMIC f.parts.sections ≡ Some list.old → section_of_type SHT_DYNAMIC w.headers ≡ Some list.header
      → entries_read (written_parts w) (Some list.header) ≡ Some (final (image_at_read w.image) w.image).entries
  unfolding entries_read
  entries_there j list e was now =
      let (old, old_there) = list_read list.old was in
      let read : Image = image_at_read w.image in
      let last : Option (List Entry) = (final read w.image).entries in
      let there : w.image.entries ≡ Some (list_at (λ es. es) w.image.entries) =
      some_edited read.entries w.image.entries old f.edit.entries old_there in
      let some : last ≡ Some (list_at (λ es. es) last) =
      subst (λ (o : Option (List Entry)). o ≡ Some (list_at (λ es. es) o)) (sym (entries_written read w.image))
      (written_some read w.image (list_at (λ es. es) w.image.entries) there) in
      some_bind (each (shown_entry (length (written_bytes w)) (linked_texts (written_parts w) list.header)) (raw_entries (written_parts w)))
      (λ es. Some (Some es)) (list_at (λ es. es) last) (entries_shown j list e was now)
      ∙ ap (λ (o : Option (List Entry)). Some o) (sym some)

  pub entries_nowhere : section_of_type SHT_DYNAMIC f.parts.sections ≡ None
      → entries_read (written_parts w) None ≡ Some (final (image_at_read w.image) w.image).entries
  unfolding entries_read
  entries_nowhere was = ap (λ (o : Option (List Entry)). Some o) (sym (list_none was))

-- the dynamic list
pub entries_read_back : (w : Output) → IsPlannedOutput w → HasWrittenParts w
    → entries_read (written_parts w) (section_of_type SHT_DYNAMIC w.headers) ≡ Some (final (image_at_read w.image) w.image).entries
entries_read_back w is has =
    let f = read_facts w is in
    elim (type_at w is f SHT_DYNAMIC refl) [
      | Nowhere was now none ↦ ap (entries_read (written_parts w)) now ∙ entries_nowhere w is has f was
      | There j list e was now there ↦ ap (entries_read (written_parts w)) now ∙ entries_there w is has f j list e was now
    ]
