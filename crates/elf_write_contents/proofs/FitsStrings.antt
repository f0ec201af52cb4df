-- The strings of the dynamic list are no longer than a word of the class can tell.
use Rattle.std.proofs.Common.{◌≡◌, ◌≤◌, ◌<◌, ◌^◌, ℕ, Bool, true, false, List, [], length, drop, refl, sym, ap, ◌∙◌, subst, Option, Some, None, arith, inl}
use Rattle.std.specs.Prelude.{◌==◌, if◌then◌else◌}
use Rattle.std.specs.List.{list_all}
use Rattle.std.proofs.lemmas.Bool.{and_parts, cond_both, ltb-true}
use Rattle.std.proofs.lemmas.List.{length-take}
use Rattle.std.proofs.lemmas.List.Folds.{list_all-map}
use Rattle.patch_bytes.specs.declared.number.Wide.{Wide}
use Rattle.patch_bytes.specs.declared.number.Wide.TheVariants.{W32, W64}
use Rattle.patch_bytes.specs.Number.{field}
use Rattle.elf_format.specs.declared.constants.TheConstants.{SHT_DYNAMIC, SHT_PROGBITS, SHT_STRTAB}
use Rattle.elf_format.specs.declared.records.SectionHeader.{SectionHeader}
use Rattle.elf_format.specs.File.{has_file_bytes, section_bytes}
use Rattle.elf_format.specs.Form.{by_class}
use Rattle.elf_format.specs.Image.{Image, ImageSection}
use Rattle.elf_format.specs.Rules.{file_of}
use Rattle.elf_image.specs.Kept.{KeptSection, dynamic_strings_number, interpreter_number, is_numbered, kept_sections, link_of_type}
use Rattle.elf_layout_plan.specs.Sizes.{fits_field, interpreter_size, new_size, new_sizes, strings_size, table_size}
use Rattle.elf_layout_plan.specs.Texts.{is_table_copied, texts_in_use}
use Rattle.elf_tables.specs.Strings.{table_length}
use Rattle.elf_write_symbol_tables.specs.Made.{Made}
use Rattle.elf_write_symbol_tables.specs.WrittenStrings.{AreStrings, content_read, made_of, strings_at}
use Rattle.elf_write_symbol_tables.proofs.ForCallers.VersionsShown.{strings_copied, strings_made}
use Rattle.elf_write_spec.specs.Ready.{IsEditedReady}
use Rattle.elf_write_symbol_tables.proofs.ForCallers.MadeShort.{all_at}
use Rattle.elf_write_symbol_tables.proofs.ForCallers.ReadTables.{ready_edit}
use Rattle.elf_write_symbol_tables.proofs.ForCallers.TablesThere.{content_at, dynamic_there}
use Rattle.elf_write_symbol_tables.proofs.ForCallers.TextsShared.{list_linked}
use Rattle.elf_write_spec.proofs.ForCallers.NumberedSections.{kept_as}
use Rattle.elf_write_spec.proofs.ForCallers.WholeEdits.{ReadFacts, SectionRead, not_interpreter, read_facts}

-- one past the greatest word of a class
abbrev pub words_end : Wide → ℕ
words_end wide = by_class wide (2 ^ 32) (2 ^ 64)

-- ## A string table that is copied

module _ (read image : Image) (is : IsEditedReady read image) (f : ReadFacts read image) (i : ℕ) (at : SectionRead read image f.parts i)
    (type : at.section.sh_type ≡ SHT_STRTAB) (copied : is_table_copied read image at.number ≡ true) where
  abbrev x : ImageSection
  x = at.section

  abbrev here : KeptSection
  here = kept_as i at.number at.section

  -- the string table isn't the interpreter's
  no_interpreter : is_numbered (interpreter_number read) here ≡ false
  no_interpreter = not_interpreter read image f i at (ap (λ (n : ℕ). n == SHT_PROGBITS) type)

  -- the string table keeps its size
  kept_size : new_size read image here ≡ x.sh_size
  unfolding new_size
  kept_size =
      ap (λ (b : Bool). if b then interpreter_size image x else table_size read image here) no_interpreter
      ∙ of_type x.sh_type (sym type)
      ∙ ap (λ (b : Bool). if b then x.sh_size else table_length (texts_in_use read image at.number)) copied
    where
      of_type : (n : ℕ) → SHT_STRTAB ≡ n
          → table_size read image (kept_as i at.number (record x { sh_type = n })) ≡ strings_size read image here
      of_type n same =
          subst (λ (m : ℕ). table_size read image (kept_as i at.number (record x { sh_type = m })) ≡ strings_size read image here) same refl

  -- the size of the string table fits
  pub copied_fits : x.sh_size < words_end image.form.wide
  unfolding new_sizes
  copied_fits =
      let sized : list_all (fits_field image.form) (new_sizes read image) ≡ true =
      ap (λ (r : Image). list_all (fits_field image.form) (new_sizes r image)) is.at_read ∙ (and_parts _ _ is.sized).0 in
      let each : list_all (λ s. fits_field image.form (new_size read image s)) (kept_sections image) ≡ true =
      sym (list_all-map (fits_field image.form) (new_size read image) (kept_sections image)) ∙ sized in
      let fits : fits_field image.form (new_size read image here) ≡ true =
      all_at (λ s. fits_field image.form (new_size read image s)) (kept_sections image) i here each at.is_kept in
      subst (λ (n : ℕ). n < words_end image.form.wide) kept_size (ltb-true (new_size read image here) (words_end image.form.wide) fits)

-- ## The strings of the dynamic list

-- a section has no more bytes than its header says
no_longer : (file : List ℕ) (s : SectionHeader) → length (section_bytes file s) ≤ s.sh_size
unfolding section_bytes
no_longer file s =
    cond_both (has_file_bytes s) (field s.sh_size s.sh_offset file) [] (λ bytes. length bytes ≤ s.sh_size)
    (λ _. omega (arith, length-take s.sh_size (drop s.sh_offset file)))
    (λ _. omega arith)

narrow_fits : (wide : Wide) (n : ℕ) → n ≤ 2 ^ 32 → n ≤ words_end wide
narrow_fits W32 n less = less
narrow_fits W64 n less = omega (arith, less)

copied_short : (read image : Image) (is : IsEditedReady read image) (number : ℕ) → dynamic_strings_number image ≡ Some number
    → is_table_copied read image number ≡ true → length (content_read image number) ≤ words_end image.form.wide
copied_short read image is number linked copied =
    let f = read_facts read image (ready_edit is) in
    let strings = dynamic_there read image f number linked in
    let x : ImageSection = strings.at.section in
    let old : SectionHeader = strings.at.old in
    let content : length (content_read image number) ≡ length (section_bytes (file_of f.parts) old) =
    ap (λ (n : ℕ). length (content_read image n)) (sym strings.is_number)
    ∙ ap length (content_at read image f strings.i strings.at ∙ ap (λ (s : ImageSection). s.content) strings.at.of_old.fields) in
    let size : x.sh_size ≡ old.sh_size = ap (λ (s : ImageSection). s.sh_size) strings.at.of_old.fields in
    let fits = copied_fits read image is f strings.i strings.at strings.type (ap (is_table_copied read image) strings.is_number ∙ copied) in
    let short = no_longer (file_of f.parts) old in
    bounded (length (content_read image number)) (length (section_bytes (file_of f.parts) old)) old.sh_size x.sh_size (words_end image.form.wide)
    content short size fits
  where
    bounded : (a b c d e : ℕ) → a ≡ b → b ≤ c → d ≡ c → d < e → a ≤ e
    bounded a b c d e ab bc dc de = omega (arith, ab, bc, dc, de)

pub strings_short : (read image : Image) (made : List Made) → IsEditedReady read image → AreStrings read image made → (number : ℕ)
    → link_of_type SHT_DYNAMIC image ≡ Some number → length (strings_at image made number) ≤ words_end image.form.wide
strings_short read image made is strings number linked = by_made (made_of made number) refl
  where
    by_made : (o : Option Made) → made_of made number ≡ o → length (strings_at image made number) ≤ words_end image.form.wide
    by_made None none =
        let here = list_linked image number linked in
        subst (λ (l : List ℕ). length l ≤ words_end image.form.wide) (strings_copied image made number none)
        (copied_short read image is number here (strings.as_read number (inl here) none).copied)
    by_made (Some m) found =
        subst (λ (l : List ℕ). length l ≤ words_end image.form.wide) (strings_made image made number m found)
        (narrow_fits image.form.wide (length m.table.bytes) (strings.told number m found).short)
