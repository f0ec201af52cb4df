-- Whether the numbers of the records that are written fit is known from the image and the plan.
use Rattle.std.proofs.Common.{◌≡◌, ◌≤◌, ◌<◌, ◌^◌, ℕ, ◌+◌, Bool, true, List, [], ◌∷◌, length, refl, sym, ap, ◌∙◌, Option, Some, None, arith}
use Rattle.std.specs.Prelude.{◌&&◌}
use Rattle.std.specs.List.{list_all}
use Rattle.std.proofs.lemmas.Bool.{lt-ltb}
use Rattle.patch_bytes.specs.declared.number.Wide.{Wide}
use Rattle.patch_bytes.specs.declared.number.Wide.TheVariants.{W32, W64}
use Rattle.patch_bytes.specs.Number.{word_size}
use Rattle.patch_bytes.specs.Memory.{◌>>=◌}
use Rattle.elf_format.specs.declared.constants.TheConstants.{SHT_DYNAMIC}
use Rattle.elf_format.specs.declared.records.EntryNumbers.{EntryNumbers}
use Rattle.elf_format.specs.declared.records.FileHeader.{FileHeader}
use Rattle.elf_format.specs.declared.records.SectionHeader.{SectionHeader}
use Rattle.elf_format.specs.Dynamic.{Auto, Entry, Integer, Text}
use Rattle.elf_format.specs.Image.{Image}
use Rattle.elf_format.specs.Options.{list_at}
use Rattle.elf_format.specs.Places.{Place}
use Rattle.elf_tables.specs.Fields.{do_fields_fit, does_field_fit}
use Rattle.elf_tables.specs.Spelled.{entry_fields, file_header_fields, section_fields, segment_fields}
use Rattle.elf_image.specs.Kept.{KeptSection, image_at_read, kept_of_type, kept_sections, link_of_type}
use Rattle.elf_layout_plan.specs.Memory.{Resized}
use Rattle.elf_layout_plan.specs.Plan.{Plan, resized}
use Rattle.elf_write_spec.specs.Contents.{AreEntriesOf, IsEntryOf}
use Rattle.elf_write_spec.specs.Final.{final}
use Rattle.elf_write_spec.specs.Headers.{Reads, written_header, written_section}
use Rattle.elf_write_spec.proofs.ForCallers.FinalEntries.{written_none}
use Rattle.elf_write_spec.proofs.ForCallers.TextsRead.{text_inside}
use Rattle.elf_write_symbol_tables.specs.Made.{Made}
use Rattle.elf_write_contents.specs.FitSteps.{do_unnamed_fit, unnamed}
use Rattle.elf_write_symbol_tables.specs.WrittenStrings.{AreStrings, strings_at}
use Rattle.elf_write_spec.specs.Ready.{IsEditedReady}
use Rattle.elf_write_contents.specs.Inner.{AreHeaders, AreRaw, IsPlanned}
use Rattle.elf_write_contents.specs.Numbers.{do_header_numbers_fit, do_sections_fit, does_entry_fit, entry_with}
use Rattle.elf_write_contents.proofs.FitsStrings.{strings_short, words_end}
use Rattle.elf_write_spec.proofs.ForCallers.WholeEdits.{entries_written, read_facts}
use Rattle.elf_write_symbol_tables.proofs.ForCallers.ReadTables.{ready_edit}
use Rattle.elf_write_symbol_tables.proofs.ForCallers.TextsShared.{no_entries_read, none_edited}

-- ## Section headers

module _ (r : Resized) (names : List ℕ) where
  sections_fit : (ks : List KeptSection) (ps : List Place) (hs : List SectionHeader) → AreHeaders r names ks ps hs
      → list_all (λ s. do_fields_fit (section_fields r.image.form (unnamed s))) hs ≡ do_sections_fit r ks ps
  sections_fit [] [] [] are = refl
  sections_fit [] [] (h ∷ hs) are = absurd are
  sections_fit [] (p ∷ ps) hs are = absurd are
  sections_fit (k ∷ ks) [] hs are = absurd are
  sections_fit (k ∷ ks) (p ∷ ps) [] are = absurd are
  sections_fit (k ∷ ks) (p ∷ ps) (h ∷ hs) are =
      ap (λ (s : SectionHeader). do_fields_fit (section_fields r.image.form (unnamed s))
      && list_all (λ s. do_fields_fit (section_fields r.image.form (unnamed s))) hs) are.0.fields
      ∙ ap (λ (b : Bool). do_fields_fit (section_fields r.image.form (written_section r k.section p 0)) && b) (sections_fit ks ps hs are.1)

-- ## The dynamic list

word_fits : (wide : Wide) (n : ℕ) → n < words_end wide → does_field_fit (word_size wide, n) ≡ true
word_fits W32 n less = lt-ltb n (256 ^ 4) less
word_fits W64 n less = lt-ltb n (256 ^ 8) less

some_words : (wide : Wide) → 0 < words_end wide
some_words W32 = omega arith
some_words W64 = omega arith

module _ (r : Resized) (plan : Plan) (strings : List ℕ) (short : length strings ≤ words_end r.image.form.wide) where
  fits : ℕ → Bool
  fits n = does_field_fit (word_size r.image.form.wide, n)

  both : ℕ → ℕ → Bool
  both tag value = do_fields_fit (entry_fields r.image.form (entry_with tag value))

  text_fits : (value : ℕ) (text : List ℕ) → Reads strings value text → fits value ≡ true
  unfolding fits
  text_fits value text reads =
      let inside : _ = text_inside (length text + 1) strings value text (reads (length text + 1) (omega arith)) in
      word_fits r.image.form.wide value (omega (arith, inside, short))

  entry_fit : (e : Entry) (x : EntryNumbers) → IsEntryOf r plan strings e x → do_fields_fit (entry_fields r.image.form x) ≡ does_entry_fit r plan e
  unfolding fits both
  entry_fit (Auto tag) x is = ap (λ (t : ℕ). both t x.d_value) is.tag ∙ ap (both tag) is.value
  entry_fit (Integer tag number) x is = ap (λ (t : ℕ). both t x.d_value) is.tag ∙ ap (both tag) is.value
  entry_fit (Text tag text) x is =
      ap (λ (t : ℕ). both t x.d_value) is.tag
      ∙ ap (λ (b : Bool). fits tag && (b && true))
      (text_fits x.d_value text is.value ∙ sym (word_fits r.image.form.wide 0 (some_words r.image.form.wide)))

  entries_fit : (es : List Entry) (raw : List EntryNumbers) → AreEntriesOf r plan strings es raw
      → list_all (λ x. do_fields_fit (entry_fields r.image.form x)) raw ≡ list_all (does_entry_fit r plan) es
  entries_fit [] [] are = refl
  entries_fit [] (x ∷ xs) are = absurd are
  entries_fit (e ∷ es) [] are = absurd are
  entries_fit (e ∷ es) (x ∷ xs) are =
      ap (λ (b : Bool). b && list_all (λ y. do_fields_fit (entry_fields r.image.form y)) xs) (entry_fit e x are.0)
      ∙ ap (λ (b : Bool). does_entry_fit r plan e && b) (entries_fit es xs are.1)

-- no entries without a dynamic section
no_entries : (read image : Image) → IsEditedReady read image → kept_of_type SHT_DYNAMIC image ≡ None
    → list_at (λ es. es) (final (image_at_read image) image).entries ≡ []
no_entries read image is none =
    let f = read_facts read image (ready_edit is) in
    let none_read : read.entries ≡ None =
    no_entries_read read image f (ap (λ (o : Option KeptSection). o >>= λ s. Some s.section.sh_link) none) in
    ap (λ (r : Image). list_at (λ es. es) (final r image).entries) (sym is.at_read)
    ∙ ap (list_at (λ es. es)) (entries_written read image)
    ∙ ap (list_at (λ es. es)) (written_none read image (none_edited read.entries image.entries f.edit.entries none_read))

module _ (read image : Image) (plan : Plan) (made : List Made) (raw : List EntryNumbers) where
  list_fits : IsEditedReady read image → AreStrings read image made → AreRaw (resized image) plan made raw → (o : Option KeptSection)
      → kept_of_type SHT_DYNAMIC image ≡ o
      → list_all (λ x. do_fields_fit (entry_fields image.form x)) raw
      ≡ list_all (does_entry_fit (resized image) plan) (list_at (λ es. es) (final (image_at_read image) image).entries)
  list_fits is strings are None o_is =
      ap (list_all (λ x. do_fields_fit (entry_fields image.form x))) (are.no_list o_is)
      ∙ sym (ap (list_all (does_entry_fit (resized image) plan)) (no_entries read image is o_is))
  list_fits is strings are (Some s) o_is =
      let linked : link_of_type SHT_DYNAMIC image ≡ Some s.section.sh_link =
      ap (λ (o : Option KeptSection). o >>= λ k. Some k.section.sh_link) o_is in
      entries_fit (resized image) plan (strings_at image made s.section.sh_link)
      (strings_short read image made is strings s.section.sh_link linked)
      (list_at (λ es. es) (final (image_at_read image) image).entries) raw (are.listed s o_is)

  -- ## All of it

  pub numbers_fit : (header : FileHeader) (sections : List SectionHeader) → IsPlanned read image plan → AreStrings read image made
      → header ≡ written_header image plan
      → AreHeaders (resized image) (strings_at image made image.header.e_shstrndx) (kept_sections image) plan.places sections
      → AreRaw (resized image) plan made raw
      → do_unnamed_fit image.form header plan.segments sections raw ≡ do_header_numbers_fit image plan
  unfolding do_unnamed_fit do_header_numbers_fit
  numbers_fit header sections is strings header_is headers are =
      let segments_fit : Bool = list_all (λ p. do_fields_fit (segment_fields image.form p)) plan.segments in
      ap (λ (h : FileHeader). do_fields_fit (file_header_fields image.form h) && segments_fit
      && list_all (λ s. do_fields_fit (section_fields image.form (unnamed s))) sections
      && list_all (λ x. do_fields_fit (entry_fields image.form x)) raw) header_is
      ∙ ap (λ (b : Bool). do_fields_fit (file_header_fields image.form (written_header image plan)) && segments_fit && b
      && list_all (λ x. do_fields_fit (entry_fields image.form x)) raw)
      (sections_fit (resized image) (strings_at image made image.header.e_shstrndx) (kept_sections image) plan.places sections headers)
      ∙ ap (λ (b : Bool). do_fields_fit (file_header_fields image.form (written_header image plan)) && segments_fit
      && do_sections_fit (resized image) (kept_sections image) plan.places && b)
      (list_fits is.ready strings are (kept_of_type SHT_DYNAMIC image) refl)
