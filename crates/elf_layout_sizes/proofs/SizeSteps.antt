-- The sizes of sections, each with its number at read.
use Rattle.std.proofs.Common.{◌≡◌, ℕ, ◌+◌, ◌<◌, ◌≤◌, ◌^◌, ◌∙◌, List, [], ◌∷◌, ◌++◌, Bool, true, false, Some, length, map, drop, get_or, refl, sym, ap, arith, append_assoc}
use Rattle.std.specs.Prelude.{nat_le, not, slice_index, ◌&&◌, ◌||◌, ◌==◌, if◌then◌else◌}
use Rattle.std.specs.Prelude.{Result, Ok, Err, MatchResult}
use Rattle.std.specs.Option.{option_map}
use Rattle.std.specs.List.{list_all, slice_get}
use Rattle.std.proofs.lemmas.Bool.{eqb-true}
use Rattle.std.proofs.lemmas.List.{append-nil, drop_all, drop_more, length-map}
use Rattle.std.proofs.lemmas.Option.{get_or_from_slice_get, slice_get-map, slice_get_read}
use Rattle.elf_format.specs.declared.constants.TheConstants.{SHT_DYNAMIC, SHT_STRTAB}
use Rattle.elf_format.specs.Image.{Image, ImageSection}
use Rattle.elf_image.specs.declared.section.Section.{Section}
use Rattle.elf_image.specs.Edited.{IsEdited}
use Rattle.elf_image.specs.ImageModel.{section_model}
use Rattle.elf_image.specs.Kept.{KeptSection, interpreter_number, is_numbered, kept_from}
use Rattle.elf_layout_plan.specs.Sizes.{do_sizes_fit, do_texts_fit, fits_field, interpreter_size, new_size, new_sizes, table_size}
use Rattle.elf_layout_plan.specs.Texts.{is_table_copied}
use Rattle.elf_layout_sizes.specs.Inner.{Edit, do_all_fit, do_strings_fit, does_size_fit, fits_class, lists_size, size_by, sizes_by, strings_length}
use Rattle.elf_layout_plan.proofs.ForCallers.KeptSections.{as_many}

-- ## One section

-- two tests of which one passes at most may be made in either order
either_order : (b c : Bool) (x y rest : ℕ) → (b ≡ true → c ≡ true → ⊥) → (if b then x else (if c then y else rest)) ≡ (if c then y else (if b then x else rest))
either_order true true x y rest apart = absurd (apart refl refl)
either_order true false x y rest apart = refl
either_order false true x y rest apart = refl
either_order false false x y rest apart = refl

apart_types : (type : ℕ) → (type == SHT_DYNAMIC) ≡ true → (type == SHT_STRTAB) ≡ true → ⊥
apart_types type dynamic strings =
    let one : type ≡ SHT_DYNAMIC = eqb-true type SHT_DYNAMIC dynamic in
    let other : type ≡ SHT_STRTAB = eqb-true type SHT_STRTAB strings in
    omega arith

regroup : (a b c d : Bool) → ((a && b) && (c && d)) ≡ ((a && c) && (b && d))
regroup true true true d = refl
regroup true true false d = refl
regroup true false true d = refl
regroup true false false d = refl
regroup false b c d = refl

module _ (read image : Image) where
  table_is : (k : KeptSection) → table_size read image k ≡ (if k.section.sh_type == SHT_STRTAB then strings_length read image k.number k.section.sh_size else lists_size read image k.section)
  table_is k = either_order (k.section.sh_type == SHT_DYNAMIC) (k.section.sh_type == SHT_STRTAB) _ _ _ (apart_types k.section.sh_type)

  size_is : (k : KeptSection) → new_size read image k ≡ size_by read image k.number k.section
  unfolding new_size
  size_is k = ap (λ n. if is_numbered (interpreter_number read) k then interpreter_size image k.section else n) (table_is k)

  texts_fit_by : (k : KeptSection) (b : Bool) → (k.section.sh_type == SHT_STRTAB) ≡ b → do_texts_fit read image k ≡ do_strings_fit read image k.number k.section
  texts_fit_by k true is =
      ap (λ n. not (k.section.sh_type == SHT_STRTAB) || is_table_copied read image k.number || nat_le n (2 ^ 32))
      (table_is k ∙ ap (λ (b : Bool). if b then strings_length read image k.number k.section.sh_size else lists_size read image k.section) is)
  texts_fit_by k false is =
      ap (λ (b : Bool). not b || is_table_copied read image k.number || nat_le (table_size read image k) (2 ^ 32)) is
      ∙ sym (ap (λ (b : Bool). not b || is_table_copied read image k.number || nat_le (strings_length read image k.number k.section.sh_size) (2 ^ 32)) is)

  texts_fit : (k : KeptSection) → do_texts_fit read image k ≡ do_strings_fit read image k.number k.section
  texts_fit k = texts_fit_by k (k.section.sh_type == SHT_STRTAB) refl

  -- ## All of them

  sizes_kept : (at : ℕ) (numbers : List ℕ) (sections : List ImageSection) → map (new_size read image) (kept_from at numbers sections) ≡ sizes_by read image numbers sections
  unfolding sizes_by
  sizes_kept at [] sections = refl
  sizes_kept at (n ∷ ns) [] = refl
  sizes_kept at (n ∷ ns) (s ∷ ss) =
      let k : KeptSection = record { position = at; number = n; section = s } in
      ap (λ size. size ∷ map (new_size read image) (kept_from (at + 1) ns ss)) (size_is k) ∙ ap (λ l. size_by read image n s ∷ l) (sizes_kept (at + 1) ns ss)

  pub sizes_of_all : new_sizes read image ≡ sizes_by read image image.section_numbers image.sections
  unfolding new_sizes
  sizes_of_all = sizes_kept 0 image.section_numbers image.sections

  fit_kept : (at : ℕ) (numbers : List ℕ) (sections : List ImageSection)
      → (list_all (fits_field image.form) (map (new_size read image) (kept_from at numbers sections)) && list_all (do_texts_fit read image) (kept_from at numbers sections))
      ≡ do_all_fit read image numbers sections
  unfolding do_all_fit
  fit_kept at [] sections = refl
  fit_kept at (n ∷ ns) [] = refl
  fit_kept at (n ∷ ns) (s ∷ ss) =
      let k : KeptSection = record { position = at; number = n; section = s } in
      let sizes : Bool = list_all (fits_field image.form) (map (new_size read image) (kept_from (at + 1) ns ss)) in
      let texts : Bool = list_all (do_texts_fit read image) (kept_from (at + 1) ns ss) in
      regroup (fits_field image.form (new_size read image k)) sizes (do_texts_fit read image k) texts
      ∙ ap (λ size. (fits_field image.form size && do_texts_fit read image k) && (sizes && texts)) (size_is k)
      ∙ ap (λ (b : Bool). (fits_class image.form.wide (size_by read image n s) && b) && (sizes && texts)) (texts_fit k)
      ∙ ap (λ (b : Bool). does_size_fit read image n s && b) (fit_kept (at + 1) ns ss)

  pub fit_all : do_sizes_fit read image ≡ do_all_fit read image image.section_numbers image.sections
  unfolding new_sizes
  fit_all = fit_kept 0 image.section_numbers image.sections

-- ## The walk over them

-- the sizes so far, with those of the sections that are left, are all of them, and those so far fit
pub record AreSizedTo (read image : Image) (sizes : List ℕ) (i : ℕ) : Type 0 where
  pub sizes_are : sizes ++ sizes_by read image (drop i image.section_numbers) (drop i image.sections) ≡ sizes_by read image image.section_numbers image.sections
  pub fit_where : do_all_fit read image (drop i image.section_numbers) (drop i image.sections) ≡ do_all_fit read image image.section_numbers image.sections

module _ (read image : Image) (is : IsEdited image) (i : ℕ) (s : ImageSection) (within : i < length image.sections) (at : slice_get image.sections i ≡ Some s) where
  numbers_on : drop i image.section_numbers ≡ slice_index image.section_numbers i ∷ drop (i + 1) image.section_numbers
  numbers_on = drop_more image.section_numbers i 0 (omega (arith, as_many image is))

  sections_on : drop i image.sections ≡ s ∷ drop (i + 1) image.sections
  sections_on = drop_more image.sections i s within ∙ ap (λ x. x ∷ drop (i + 1) image.sections) (get_or_from_slice_get image.sections i s s at)

  sizes_on : sizes_by read image (drop i image.section_numbers) (drop i image.sections)
      ≡ size_by read image (slice_index image.section_numbers i) s ∷ sizes_by read image (drop (i + 1) image.section_numbers) (drop (i + 1) image.sections)
  unfolding sizes_by
  sizes_on = ap (λ l. sizes_by read image l (drop i image.sections)) numbers_on
      ∙ ap (λ (l : List ImageSection). sizes_by read image (slice_index image.section_numbers i ∷ drop (i + 1) image.section_numbers) l) sections_on

  fit_on : do_all_fit read image (drop i image.section_numbers) (drop i image.sections)
      ≡ (does_size_fit read image (slice_index image.section_numbers i) s && do_all_fit read image (drop (i + 1) image.section_numbers) (drop (i + 1) image.sections))
  unfolding do_all_fit
  fit_on = ap (λ l. do_all_fit read image l (drop i image.sections)) numbers_on
      ∙ ap (λ (l : List ImageSection). do_all_fit read image (slice_index image.section_numbers i ∷ drop (i + 1) image.section_numbers) l) sections_on

  pub sized_more : (sizes more : List ℕ) (size : ℕ) → AreSizedTo read image sizes i → size ≡ size_by read image (slice_index image.section_numbers i) s
      → does_size_fit read image (slice_index image.section_numbers i) s ≡ true → more ≡ sizes ++ size ∷ [] → AreSizedTo read image more (i + 1)
  sized_more sizes more size so_far size_here fits pushed =
      let rest : List ℕ = sizes_by read image (drop (i + 1) image.section_numbers) (drop (i + 1) image.sections) in
      record {
        sizes_are = ap (λ l. l ++ rest) pushed ∙ append_assoc sizes (size ∷ []) rest ∙ ap (λ n. sizes ++ (n ∷ rest)) size_here ∙ ap (λ l. sizes ++ l) (sym sizes_on) ∙ so_far.sizes_are;
        fit_where = sym (fit_on ∙ ap (λ (b : Bool). b && do_all_fit read image (drop (i + 1) image.section_numbers) (drop (i + 1) image.sections)) fits) ∙ so_far.fit_where;
      }

  pub sized_refused : (sizes : List ℕ) → AreSizedTo read image sizes i → does_size_fit read image (slice_index image.section_numbers i) s ≡ false
      → do_all_fit read image image.section_numbers image.sections ≡ false
  sized_refused sizes so_far refused =
      sym so_far.fit_where ∙ fit_on ∙ ap (λ (b : Bool). b && do_all_fit read image (drop (i + 1) image.section_numbers) (drop (i + 1) image.sections)) refused

pub sized_all : (read image : Image) (sizes : List ℕ) (i : ℕ) → IsEdited image → length image.sections ≤ i → AreSizedTo read image sizes i
    → (sizes ≡ sizes_by read image image.section_numbers image.sections) × (do_all_fit read image image.section_numbers image.sections ≡ true)
unfolding sizes_by do_all_fit
sized_all read image sizes i is past so_far =
    let none : drop i image.section_numbers ≡ [] = drop_all i image.section_numbers (omega (arith, as_many image is)) in (
      sym (ap (λ l. sizes ++ sizes_by read image l (drop i image.sections)) none ∙ append-nil sizes) ∙ so_far.sizes_are,
      sym so_far.fit_where ∙ ap (λ l. do_all_fit read image l (drop i image.sections)) none,
    )

-- the section that stands at a place
pub section_at : (held : List Section) (sections : List ImageSection) (i : ℕ) (x : Section) → map section_model held ≡ sections → i < length held → x ≡ get_or held i x
    → slice_get sections i ≡ Some (section_model x)
section_at held sections i x are within is =
    ap (λ (l : List ImageSection). slice_get l i) (sym are) ∙ slice_get-map section_model held i ∙ ap (option_map section_model) (slice_get_read held (length held) i x refl within is)

pub long_sections : (held : List Section) (sections : List ImageSection) → map section_model held ≡ sections → length sections ≡ length held
long_sections held sections are = ap length (sym are) ∙ length-map held section_model

-- ## Answers

-- an answer by the sections and their numbers is one about the new sizes
pub same_answer : {V F : Type 0} (items : V → List ℕ) (is_large : F → Type 0) (read image : Image) (e : Edit) → e ≡ record { read = read; image = image } → (answer : Result V F)
    → MatchResult answer (λ sizes. (items sizes ≡ sizes_by e.read e.image e.image.section_numbers e.image.sections) × (do_all_fit e.read e.image e.image.section_numbers e.image.sections ≡ true))
    (λ fault. is_large fault → do_all_fit e.read e.image e.image.section_numbers e.image.sections ≡ false)
    → MatchResult answer (λ sizes. (items sizes ≡ new_sizes read image) × (do_sizes_fit read image ≡ true)) (λ fault. is_large fault → do_sizes_fit read image ≡ false)
same_answer items is_large read image e is (Ok sizes) h = (
  h.0 ∙ ap (λ (f : Edit). sizes_by f.read f.image f.image.section_numbers f.image.sections) is ∙ sym (sizes_of_all read image),
  fit_all read image ∙ sym (ap (λ (f : Edit). do_all_fit f.read f.image f.image.section_numbers f.image.sections) is) ∙ h.1,
)
same_answer items is_large read image e is (Err fault) h =
    λ large. fit_all read image ∙ sym (ap (λ (f : Edit). do_all_fit f.read f.image f.image.section_numbers f.image.sections) is) ∙ h large
