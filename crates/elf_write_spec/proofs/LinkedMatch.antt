-- The section headers of a written file match those that were read, one by one.
use Rattle.std.proofs.Common.{◌≡◌, ◌≤◌, ◌<◌, ℕ, Bool, true, false, not, ◌&&◌, ◌||◌, [], ◌∷◌, length, refl, sym, ap, ◌∙◌, subst, inl, inr, Some, None, arith}
use Rattle.std.specs.Prelude.{◌==◌}
use Rattle.std.proofs.lemmas.Bool.{and_parts, both_ways, eq-eqb, eqb-true, false≢true, ne_eqb, not-true, or_cases, or_parts}
use Rattle.elf_format.specs.declared.constants.TheConstants.{SHF_INFO_LINK, SHT_DYNSYM, SHT_GNU_VERDEF, SHT_GNU_VERNEED, SHT_NULL, SHT_REL, SHT_RELA, SHT_SYMTAB}
use Rattle.std.specs.List.{slice_get}
use Rattle.std.proofs.lemmas.Option.{slice_get_cases, slice_get_past}
use Rattle.elf_format.specs.declared.records.SectionHeader.{SectionHeader}
use Rattle.elf_format.specs.File.{Parts}
use Rattle.elf_format.specs.Image.{ImageSection}
use Rattle.elf_format.specs.Options.{is_one_of}
use Rattle.elf_format.specs.Places.{is_set}
use Rattle.elf_format.specs.Rules.{has_section_info}
use Rattle.elf_image.specs.Kept.{image_at_read}
use Rattle.elf_image.specs.Needed.{names_section}
use Rattle.elf_write_spec.specs.Final.{new_number}
use Rattle.elf_write_spec.proofs.NumberedSections.{new-gone}
use Rattle.elf_write_spec.proofs.WholeEdits.{none_there}
use Rattle.elf_format.proofs.ForCallers.Placed.{IsIn, IsIn-slice_get}
use Rattle.elf_write_spec.specs.ReadBack.{written_parts}
use Rattle.elf_write_spec.specs.Output.{IsPlannedOutput, Output}
use Rattle.elf_write_spec.proofs.WholeFacts.{ReadFacts, SectionAt, lengths, moved_to, section_at_header}
use Rattle.elf_format.proofs.ForCallers.Lengths.{length-sections}

-- ## One by one

-- the header that was read at a number, and the one at its new number, or neither
pub data LinkAt (w : Output) (p : Parts) (n : ℕ) : Type 0 where
  Neither : slice_get p.sections n ≡ None → slice_get w.headers (new_number w.image n) ≡ None → LinkAt w p n
  Both : (j : ℕ) → (to : SectionAt w p j) → slice_get p.sections n ≡ Some to.old → new_number w.image n ≡ j → to.number ≡ n → LinkAt w p n

-- a section has a section's number in sh_info by its type and its flags
abbrev pub info_by : ℕ → ℕ → Bool
info_by type flags =
    is_one_of (SHT_REL ∷ SHT_RELA ∷ []) type
    || is_set SHF_INFO_LINK flags && not (is_one_of (SHT_NULL ∷ SHT_SYMTAB ∷ SHT_DYNSYM ∷ SHT_GNU_VERDEF ∷ SHT_GNU_VERNEED ∷ []) type)

-- a section that isn't of SHT_NULL names those that its links tell
pub names_link : {w : Output} {p : Parts} {i : ℕ} (at : SectionAt w p i) → (at.old.sh_type == SHT_NULL) ≡ false
    → names_section at.section at.old.sh_link ≡ true
names_link at some =
    ap (λ (x : ImageSection). names_section x at.old.sh_link) at.of_old.fields
    ∙ ap (λ (b : Bool). not b && (at.old.sh_link == at.old.sh_link || has_section_info at.old && at.old.sh_link == at.old.sh_info)) some
    ∙ ap (λ (b : Bool). b || has_section_info at.old && at.old.sh_link == at.old.sh_info) (eq-eqb at.old.sh_link at.old.sh_link refl)

no_null : (type flags : ℕ) → info_by type flags ≡ true → (type == SHT_NULL) ≡ false
no_null type flags h = elim (or_cases (is_one_of (SHT_REL ∷ SHT_RELA ∷ []) type) _ h) [
  | inl relocations ↦ elim (or_cases (SHT_REL == type) (SHT_RELA == type || false) relocations) [
    | inl rel ↦ ap (λ n. n == SHT_NULL) (sym (eqb-true SHT_REL type rel))
    | inr more ↦ elim (or_cases (SHT_RELA == type) false more) [
      | inl rela ↦ ap (λ n. n == SHT_NULL) (sym (eqb-true SHT_RELA type rela))
      | inr none ↦ absurd (false≢true none)
    ]
  ]
  | inr flagged ↦
      let other = (and_parts (is_set SHF_INFO_LINK flags) _ flagged).1 in
      let first = (or_parts (SHT_NULL == type) _
      (not-true (is_one_of (SHT_NULL ∷ SHT_SYMTAB ∷ SHT_DYNSYM ∷ SHT_GNU_VERDEF ∷ SHT_GNU_VERNEED ∷ []) type) other)).0 in
      ne_eqb type SHT_NULL (λ e. both_ways (SHT_NULL == type) first (eq-eqb SHT_NULL type (sym e)))
]

pub names_info : {w : Output} {p : Parts} {i : ℕ} (at : SectionAt w p i) → has_section_info at.old ≡ true
    → names_section at.section at.old.sh_info ≡ true
names_info at has =
    ap (λ (x : ImageSection). names_section x at.old.sh_info) at.of_old.fields
    ∙ ap (λ (b : Bool). not b && (at.old.sh_info == at.old.sh_link || has_section_info at.old && at.old.sh_info == at.old.sh_info))
    (no_null at.old.sh_type at.old.sh_flags has)
    ∙ ap (λ (b : Bool). at.old.sh_info == at.old.sh_link || b && at.old.sh_info == at.old.sh_info) has
    ∙ ap (λ (b : Bool). at.old.sh_info == at.old.sh_link || b) (eq-eqb at.old.sh_info at.old.sh_info refl)
    ∙ either (at.old.sh_info == at.old.sh_link)
  where
    either : (b : Bool) → (b || true) ≡ true
    either true = refl
    either false = refl

module _ (w : Output) (is : IsPlannedOutput w) (f : ReadFacts w) where
  -- what holds of each pair
  pub each-header : (P : SectionHeader → Type 0) → ((i : ℕ) → (at : SectionAt w f.parts i) → P at.header)
      → (i : ℕ) (h : SectionHeader) → slice_get w.headers i ≡ Some h → P h
  each-header P each i h there = let found = section_at_header w is f i h there in subst P found.1 (each i found.0)

  -- the section that another names
  pub link_at : (i n : ℕ) → (at : SectionAt w f.parts i) → names_section at.section n ≡ true → LinkAt w f.parts n
  link_at i n at names = elim (slice_get_cases f.parts.sections n).1 [
    | inl inside ↦
        let (j, to, number, new) = moved_to w is f i n at inside.1 names in
        Both j to (ap (slice_get f.parts.sections) (sym number) ∙ to.is_old) new number
    | inr past ↦
        let counts = lengths w is f in
        let stays : new_number w.image n ≡ n = new-gone w.image n (none_there (image_at_read w.image) w.image f n past.0) in
        let behind : length w.headers ≤ n = omega (arith, past.0, counts.headers, counts.sections) in
        Neither past.1 (ap (slice_get w.headers) stays ∙ slice_get_past w.headers n behind)
  ]

  -- there are as many sections as headers
  pub count_now : (written_parts w).opened.header.e_shnum ≡ length w.headers
  count_now = (lengths w is f).places ∙ sym (lengths w is f).headers

  -- a number below the count of sections is that of one
  pub section_below : (n : ℕ) → n < f.parts.opened.header.e_shnum → n < length f.parts.sections
  section_below n less = omega (arith, less, length-sections f.parts.opened f.parts.sections f.are_parts.sections)

  -- the form and the machine are those that were read
  pub form_kept : w.image.form ≡ f.parts.opened.form
  form_kept = f.edit.form ∙ f.holds.form

  pub machine_kept : w.image.header.e_machine ≡ f.parts.opened.header.e_machine
  machine_kept = ap (λ h. h.e_machine) f.edit.header ∙ ap (λ h. h.e_machine) f.holds.header

  pub is_in : (i : ℕ) (at : SectionAt w f.parts i) → IsIn at.old f.parts.sections
  is_in i at = IsIn-slice_get f.parts.sections at.number at.old at.is_old
