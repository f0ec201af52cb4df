-- The bytes of sections that stay as they were read: they are as many as their places have.
use Rattle.std.proofs.Common.{◌≡◌, ℕ, Bool, true, false, eqb, [], length, refl, sym, ap, ◌∙◌}
use Rattle.std.specs.Prelude.{◌&&◌, not, if◌then◌else◌, ◌==◌}
use Rattle.std.proofs.lemmas.Bool.{cond-false, false≢true}
use Rattle.elf_format.specs.declared.constants.TheConstants.{SHT_DYNAMIC, SHT_DYNSYM, SHT_GNU_HASH, SHT_GNU_VERDEF, SHT_GNU_VERNEED, SHT_GNU_VERSYM, SHT_HASH, SHT_STRTAB, SHT_SYMTAB}
use Rattle.elf_format.specs.File.{has_file_bytes, section_bytes}
use Rattle.elf_format.specs.Image.{Image, ImageSection}
use Rattle.elf_format.specs.Places.{occupies_file}
use Rattle.elf_format.specs.Rules.{file_of}
use Rattle.elf_format.proofs.ForCallers.Placed.{IsIn, IsIn-slice_get}
use Rattle.elf_format.proofs.ForCallers.ViewsAgree.{length-bytes}
use Rattle.elf_image.specs.Kept.{interpreter_number, is_numbered}
use Rattle.elf_layout_plan.specs.Plan.{Plan}
use Rattle.elf_layout_plan.specs.Sizes.{interpreter_size, new_size, table_size}
use Rattle.elf_write_spec.proofs.ForCallers.NumberedSections.{kept_as}
use Rattle.elf_write_spec.proofs.ForCallers.WholeEdits.{ReadFacts}
use Rattle.elf_write_contents.proofs.ContentsMade.{IsOther, PlacedAt}

-- ## Sizes that were read

module _ (read image : Image) (plan : Plan) (f : ReadFacts read image) (i : ℕ) (at : PlacedAt read image plan f.parts i) where
  old_type : at.here.old.sh_type ≡ at.here.section.sh_type
  old_type = sym (ap (λ (x : ImageSection). x.sh_type) at.here.of_old.fields)

  old_size : at.here.old.sh_size ≡ at.here.section.sh_size
  old_size = sym (ap (λ (x : ImageSection). x.sh_size) at.here.of_old.fields)

  is_in : IsIn at.here.old f.parts.sections
  is_in = IsIn-slice_get f.parts.sections at.here.number at.here.old at.here.is_old

  content_is : at.here.section.content ≡ section_bytes (file_of f.parts) at.here.old
  content_is = ap (λ (x : ImageSection). x.content) at.here.of_old.fields

  -- a section with bytes in the file has as many as its header says
  pub content_long : (not (eqb at.here.section.sh_type 0) && not (eqb at.here.section.sh_type 8)) ≡ true → length at.here.section.content ≡ at.here.section.sh_size
  content_long h =
      ap length content_is ∙ length-bytes f.parts f.rules at.here.old is_in (ap (λ t. not (eqb t 0) && not (eqb t 8)) old_type ∙ h) ∙ old_size

  no_content : has_file_bytes at.here.old ≡ false → at.here.section.content ≡ []
  unfolding section_bytes
  no_content h = content_is ∙ cond-false (has_file_bytes at.here.old) _ [] h

  -- as many bytes as the section's place has, where that has its size
  pub content_sized : at.place.sh_size ≡ at.here.section.sh_size → length at.here.section.content ≡ (if occupies_file at.place then at.place.sh_size else 0)
  content_sized same = by_test (occupies_file at.place) refl
    where
      by_test : (b : Bool) → occupies_file at.place ≡ b → length at.here.section.content ≡ (if b then at.place.sh_size else 0)
      by_test true e = content_long (ap (λ t. not (eqb t 0) && not (eqb t 8)) (sym at.place_type) ∙ e) ∙ sym same
      by_test false e =
          ap length (no_content (ap (λ t. not (eqb t 0) && not (eqb t 8)) (old_type ∙ sym at.place_type) ∙ e))

  -- ## Any other section keeps its size

  pick : (b : Bool) (x y n : ℕ) → (b ≡ true → x ≡ n) → (b ≡ false → y ≡ n) → (if b then x else y) ≡ n
  pick true x y n passes fails = passes refl
  pick false x y n passes fails = fails refl

  never : (b : Bool) (n m : ℕ) → b ≡ false → b ≡ true → n ≡ m
  never b n m other h = absurd (false≢true (sym other ∙ h))

  table_same : IsOther at.here.section.sh_type → table_size read image (kept_as i at.here.number at.here.section) ≡ at.here.section.sh_size
  table_same other =
      let n : ℕ = at.here.section.sh_type in
      let old : ℕ = at.here.section.sh_size in
      pick (n == SHT_DYNAMIC) _ _ old (never (n == SHT_DYNAMIC) _ old other.dynamic) (λ _.
      pick (n == SHT_STRTAB) _ _ old (never (n == SHT_STRTAB) _ old other.strings) (λ _.
      pick (n == SHT_SYMTAB) _ _ old (never (n == SHT_SYMTAB) _ old other.static) (λ _.
      pick (n == SHT_DYNSYM) _ _ old (never (n == SHT_DYNSYM) _ old other.symbols) (λ _.
      pick (n == SHT_GNU_VERSYM) _ _ old (never (n == SHT_GNU_VERSYM) _ old other.versions) (λ _.
      pick (n == SHT_GNU_VERDEF) _ _ old (never (n == SHT_GNU_VERDEF) _ old other.definitions) (λ _.
      pick (n == SHT_GNU_VERNEED) _ _ old (never (n == SHT_GNU_VERNEED) _ old other.needs) (λ _.
      pick (n == SHT_HASH) _ _ old (never (n == SHT_HASH) _ old other.gabi) (λ _.
      pick (n == SHT_GNU_HASH) _ _ old (never (n == SHT_GNU_HASH) _ old other.gnu) (λ _. refl)))))))))

  pub copied_size : is_numbered (interpreter_number read) (kept_as i at.here.number at.here.section) ≡ false → IsOther at.here.section.sh_type
      → at.place.sh_size ≡ at.here.section.sh_size
  unfolding new_size
  copied_size apart other =
      at.place_size ∙ cond-false (is_numbered (interpreter_number read) (kept_as i at.here.number at.here.section)) (interpreter_size image at.here.section) _ apart
      ∙ table_same other
