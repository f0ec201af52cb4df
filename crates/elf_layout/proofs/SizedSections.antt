-- The sections of an image with their new sizes, by their positions.
use Rattle.std.proofs.Common.{◌≡◌, ℕ, ◌+◌, ◌≤◌, List, [], ◌∷◌, Option, Some, None, length, map, zero, suc, refl, sym, ap, ◌∙◌, subst, arith}
use Rattle.std.specs.Prelude.{option_map, slice_get}
use Rattle.std.proofs.lemmas.List.{length-map}
use Rattle.std.proofs.lemmas.Option.{same_Some, slice_get-map, slice_get_past}
use Rattle.elf_image.specs.declared.section.Section.{Section}
use Rattle.elf_image.specs.ImageModel.{section_model}
use Rattle.elf_format.specs.Image.{ImageSection}
use Rattle.elf_image.specs.Edited.{IsEdited}
use Rattle.elf_image.specs.Kept.{kept_from, kept_sections}
use Rattle.elf_layout_plan.specs.Memory.{Resized, SizedSection, sized_from, sized_sections}
use Rattle.elf_layout_plan.specs.Sizes.{new_sizes}
use Rattle.elf_layout.specs.declared.sized.SectionNumbers.{SectionNumbers}
use Rattle.elf_layout_segments.specs.Inner.{IsResized}
use Rattle.elf_layout.specs.Numbers.{numbers_of}
use Rattle.elf_image.proofs.ForCallers.KeptSections.{as_many, length-kept}

-- the numbers of a section at a position and its size, where both are there
abbrev pub both : ℕ → Option ImageSection → Option ℕ → Option SectionNumbers
both p None size = None
both p (Some s) None = None
both p (Some s) (Some size) = Some (numbers_of (record { kept = record { position = p; number = 0; section = s }; size = size }))

both_none : (p : ℕ) (s : Option ImageSection) → both p s None ≡ None
both_none p None = refl
both_none p (Some s) = refl

-- what stands at a position
pub sized_get : (p : ℕ) (ns : List ℕ) (ss : List ImageSection) (sizes : List ℕ) (i : ℕ) → length ns ≡ length ss
    → option_map numbers_of (slice_get (sized_from (kept_from p ns ss) sizes) i) ≡ both (p + i) (slice_get ss i) (slice_get sizes i)
sized_get p [] [] sizes i same = refl
sized_get p [] (s ∷ ss) sizes i same = let no : ⊥ = omega arith in absurd no
sized_get p (n ∷ ns) [] sizes i same = refl
sized_get p (n ∷ ns) (s ∷ ss) [] i same = sym (both_none (p + i) (slice_get (s ∷ ss) i))
sized_get p (n ∷ ns) (s ∷ ss) (size ∷ sizes) zero same =
    let at : p ≡ p + 0 = omega arith in
    ap (λ (q : ℕ). both q (Some s) (Some size)) at
sized_get p (n ∷ ns) (s ∷ ss) (size ∷ sizes) (suc i) same =
    let at : p + 1 + i ≡ p + suc i = omega arith in
    sized_get (p + 1) ns ss sizes i (omega arith) ∙ ap (λ (q : ℕ). both q (slice_get ss i) (slice_get sizes i)) at

pub sized_length : (p : ℕ) (ns : List ℕ) (ss : List ImageSection) (sizes : List ℕ) → length ns ≡ length ss → length sizes ≡ length ss
    → length (sized_from (kept_from p ns ss) sizes) ≡ length ss
sized_length p [] [] sizes a b = refl
sized_length p [] (s ∷ ss) sizes a b = let no : ⊥ = omega arith in absurd no
sized_length p (n ∷ ns) [] sizes a b = let no : ⊥ = omega arith in absurd no
sized_length p (n ∷ ns) (s ∷ ss) [] a b = let no : ⊥ = omega arith in absurd no
sized_length p (n ∷ ns) (s ∷ ss) (size ∷ sizes) a b = ap suc (sized_length (p + 1) ns ss sizes (omega arith) (omega arith))

-- as many sizes as sections
pub sizes_length : (r : Resized) → IsResized r → IsEdited r.image → length r.sizes ≡ length r.image.sections
unfolding new_sizes
sizes_length r is e =
    ap length is.sizes ∙ length-map (kept_sections r.image) _ ∙ length-kept r.image (as_many r.image e)

pub count_sized : (r : Resized) → IsResized r → IsEdited r.image → length (sized_sections r) ≡ length r.image.sections
count_sized r is e = sized_length 0 r.image.section_numbers r.image.sections r.sizes (as_many r.image e) (sizes_length r is e)

-- each section has its own position
pub position_at : (p : ℕ) (ns : List ℕ) (ss : List ImageSection) (sizes : List ℕ) (i : ℕ) (s : SizedSection)
    → slice_get (sized_from (kept_from p ns ss) sizes) i ≡ Some s → s.kept.position ≡ p + i
position_at p [] ss sizes i s found = let no : ⊥ = cc found in absurd no
position_at p (n ∷ ns) [] sizes i s found = let no : ⊥ = cc found in absurd no
position_at p (n ∷ ns) (x ∷ ss) [] i s found = let no : ⊥ = cc found in absurd no
position_at p (n ∷ ns) (x ∷ ss) (size ∷ sizes) zero s found =
    let there : SizedSection = record { kept = record { position = p; number = n; section = x }; size = size } in
    let same : there ≡ s = same_Some there s found in
    subst (λ (t : SizedSection). t.kept.position ≡ p + 0) same (omega arith)
position_at p (n ∷ ns) (x ∷ ss) (size ∷ sizes) (suc i) s found =
    let next : s.kept.position ≡ p + 1 + i = position_at (p + 1) ns ss sizes i s found in
    omega arith

-- ## What is found in the lists of the code

module _ (r : Resized) (e : IsEdited r.image) (found : List Section) (seen : map section_model found ≡ r.image.sections) (i : ℕ) where
  here : option_map numbers_of (slice_get (sized_sections r) i) ≡ both i (option_map section_model (slice_get found i)) (slice_get r.sizes i)
  here =
      let at : 0 + i ≡ i = omega arith in
      sized_get 0 r.image.section_numbers r.image.sections r.sizes i (as_many r.image e)
      ∙ ap (λ (q : ℕ). both q (slice_get r.image.sections i) (slice_get r.sizes i)) at
      ∙ ap (λ (o : Option ImageSection). both i o (slice_get r.sizes i))
      (ap (λ (l : List ImageSection). slice_get l i) (sym seen) ∙ slice_get-map section_model found i)

  pub none_found : length found ≤ i → None ≡ option_map numbers_of (slice_get (sized_sections r) i)
  none_found past =
      sym (here ∙ ap (λ (o : Option Section). both i (option_map section_model o) (slice_get r.sizes i)) (slice_get_past found i past))

  pub none_has_size : length r.sizes ≤ i → None ≡ option_map numbers_of (slice_get (sized_sections r) i)
  none_has_size past =
      sym (here ∙ ap (λ (o : Option ℕ). both i (option_map section_model (slice_get found i)) o) (slice_get_past r.sizes i past)
      ∙ both_none i (option_map section_model (slice_get found i)))

  pub some_found : (x : Section) (size : ℕ) → slice_get found i ≡ Some x → slice_get r.sizes i ≡ Some size
      → both i (Some (section_model x)) (Some size) ≡ option_map numbers_of (slice_get (sized_sections r) i)
  some_found x size at_section at_size =
      sym (here ∙ ap (λ (o : Option Section). both i (option_map section_model o) (slice_get r.sizes i)) at_section
      ∙ ap (λ (o : Option ℕ). both i (Some (section_model x)) o) at_size)
