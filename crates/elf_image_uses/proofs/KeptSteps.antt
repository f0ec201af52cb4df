-- The sections of an image one by one, with the numbers that they had at read.
use Rattle.std.proofs.Common.{◌≡◌, ℕ, ◌+◌, ◌<◌, List, [], ◌∷◌, Bool, true, false, Option, Some, length, map, get_or, refl, sym, ap, ◌∙◌, arith}
use Rattle.std.specs.Prelude.{◌==◌, find, if◌then◌else◌, slice_index}
use Rattle.std.specs.List.{slice_get}
use Rattle.std.specs.Option.{option_map}
use Rattle.std.proofs.lemmas.List.{length-map}
use Rattle.std.proofs.lemmas.Option.{get_or_from_slice_get, slice_get-get_or, slice_get-map, slice_get_read, slice_get_within}
use Rattle.elf_format.specs.Image.{Image, ImageSection}
use Rattle.elf_format.specs.Options.{is_none_or}
use Rattle.elf_image.specs.Section.{Section}
use Rattle.elf_image.specs.Edited.{IsEdited}
use Rattle.elf_image.specs.ImageModel.{section_model}
use Rattle.elf_image.specs.Kept.{KeptSection, kept_from, kept_of_type, kept_sections}
use Rattle.elf_image.proofs.ForCallers.KeptSections.{as_many, kept-at, length-kept}
use Rattle.elf_image_uses.specs.Steps.{kept_as}

module _ (image : Image) (edited : IsEdited image) where
  pub kept_long : length (kept_sections image) ≡ length image.sections
  kept_long = length-kept image (as_many image edited)

  -- as many sections are lent as the image has
  pub lent_long : (xs : List Section) → map section_model xs ≡ image.sections → length xs ≡ length (kept_sections image)
  lent_long xs are = sym (length-map xs section_model) ∙ ap length are ∙ sym kept_long

  -- one that is looked at is the image's
  pub lent_there : (xs : List Section) (i : ℕ) (x : Section) → map section_model xs ≡ image.sections → i < length image.sections → x ≡ get_or xs i x
      → slice_get image.sections i ≡ Some (section_model x)
  lent_there xs i x are within is =
      let long : length xs ≡ length image.sections = sym (length-map xs section_model) ∙ ap length are in
      let at : slice_get xs i ≡ Some x = slice_get_read xs (length xs) i x refl (omega arith) is in
      sym (ap (λ (ss : List ImageSection). slice_get ss i) are) ∙ slice_get-map section_model xs i ∙ ap (option_map section_model) at

  -- a section with its number
  pub kept_there : (i n : ℕ) (s : ImageSection) → slice_get image.sections i ≡ Some s → n ≡ slice_index image.section_numbers i
      → slice_get (kept_sections image) i ≡ Some (kept_as i n s)
  kept_there i n s at number =
      let inside : i < length image.sections = slice_get_within image.sections i s at in
      slice_get-get_or (kept_sections image) i (kept_as i n s) (omega (arith, kept_long))
      ∙ ap Some (kept-at image i (kept_as i n s) s (as_many image edited) inside
      ∙ ap (λ (x : ImageSection). kept_as i (slice_index image.section_numbers i) x) (get_or_from_slice_get image.sections i s s at)
      ∙ ap (λ m. kept_as i m s) (sym number))

-- ## The first section of a type

module _ (type : ℕ) (test : ImageSection → Bool) where
  either : (b : Bool) (k : KeptSection) (rest : Option KeptSection) (other : Option ImageSection) → is_none_or (λ s. test s.section) rest ≡ is_none_or test other
      → is_none_or (λ s. test s.section) (if b then Some k else rest) ≡ is_none_or test (if b then Some k.section else other)
  either true k rest other same = refl
  either false k rest other same = same

  first_same : (at : ℕ) (ns : List ℕ) (ss : List ImageSection) → length ns ≡ length ss
      → is_none_or (λ s. test s.section) (find (λ s. s.section.sh_type == type) (kept_from at ns ss)) ≡ is_none_or test (find (λ s. s.sh_type == type) ss)
  first_same at [] [] same = refl
  first_same at [] (s ∷ ss) same = absurd (omega arith)
  first_same at (n ∷ ns) [] same = absurd (omega arith)
  first_same at (n ∷ ns) (s ∷ ss) same =
      either (s.sh_type == type) (kept_as at n s) (find (λ k. k.section.sh_type == type) (kept_from (at + 1) ns ss)) (find (λ x. x.sh_type == type) ss)
      (first_same (at + 1) ns ss (omega arith))

  -- a test of the first section of a type looks at the section alone
  pub type_kept : (image : Image) → IsEdited image → is_none_or (λ s. test s.section) (kept_of_type type image) ≡ is_none_or test (find (λ s. s.sh_type == type) image.sections)
  type_kept image edited = first_same 0 image.section_numbers image.sections (as_many image edited)

  -- by what a search in the sections that are lent finds
  pub type_lent : (image : Image) → IsEdited image → (xs : List Section) (found : Option ImageSection) → map section_model xs ≡ image.sections
      → found ≡ find (λ s. s.sh_type == type) (map section_model xs) → is_none_or test found ≡ is_none_or (λ s. test s.section) (kept_of_type type image)
  type_lent image edited xs found are is =
      ap (is_none_or test) (is ∙ ap (find (λ s. s.sh_type == type)) are) ∙ sym (type_kept image edited)
