-- Parts of sections, one behind the other.
use Rattle.std.proofs.Common.{◌≡◌, ℕ, zero, suc, ◌+◌, ◌<◌, ◌⊎◌, List, [], ◌∷◌, ◌++◌, get_or, length, sym, ap, ◌∙◌, inl, inr, Some, arith, take}
use Rattle.std.specs.Prelude.{map, option_map, slice_get, slice_index, unwrap_or}
use Rattle.std.proofs.Math.Seq.{get_or-append_seam}
use Rattle.std.proofs.lemmas.List.{get_or_append_left, length-append, map_more, map_push}
use Rattle.std.proofs.lemmas.Option.{same_Some, slice_get-get_or, slice_get-map}
use Rattle.elf_format.specs.Image.{Image, ImageSection}
use Rattle.test_slow_layout.specs.declared.plain.Part.{Part}
use Rattle.test_slow_layout.specs.Plain.{part_at, part_with}

before_or_last : (j i : ℕ) → j < i + 1 → (j < i) ⊎ (j ≡ i)
before_or_last zero zero low = inr (omega arith)
before_or_last zero (suc i) low = inl (omega arith)
before_or_last (suc j) zero low = absurd (omega (arith, low))
before_or_last (suc j) (suc i) low = elim (before_or_last j i (omega (arith, low))) [
  | inl before ↦ inl (omega (arith, before))
  | inr last ↦ inr (ap suc last)
]

-- what is told of the first parts, and of one more, is told of all
pub parts_more : {A : Type 0} (kept : A → ImageSection) (image : Image) (sizes : List ℕ) (sections : List A) (old new : List Part) (i number size : ℕ) (x : A) (p : Part)
    → length old ≡ i → i < length sections → x ≡ get_or sections i x → p ≡ part_with (kept x) i number size → number ≡ slice_index image.section_numbers i
    → size ≡ unwrap_or (slice_get sizes i) (kept x).sh_size → new ≡ old ++ p ∷ []
    → ((j : ℕ) (s : ImageSection) → j < i → slice_get (map kept sections) j ≡ Some s → slice_get old j ≡ Some (part_at image sizes j s))
    → (j : ℕ) (s : ImageSection) → j < i + 1 → slice_get (map kept sections) j ≡ Some s → slice_get new j ≡ Some (part_at image sizes j s)
parts_more {A} kept image sizes sections old new i number size x p many within is part numbered sized grown before j s low at =
    elim (before_or_last j i low) [
      | inl first ↦
          let inside : j < length old = omega (arith, first, many) in
          ap (λ (l : List Part). slice_get l j) grown
          ∙ slice_get-get_or (old ++ p ∷ []) j p (omega (arith, inside, length-append old (p ∷ [])))
          ∙ ap Some (get_or_append_left old (p ∷ []) p j inside)
          ∙ sym (slice_get-get_or old j p inside)
          ∙ before j s first at
      | inr last ↦
          let here : j ≡ length old = omega (arith, last, many) in
          let own : s ≡ kept x =
          same_Some s (kept x) (sym at ∙ ap (slice_get (map kept sections)) last ∙ slice_get-map kept sections i
          ∙ ap (option_map kept) (slice_get-get_or sections i x within ∙ ap Some (sym is))) in
          ap (λ (l : List Part). slice_get l j) grown
          ∙ slice_get-get_or (old ++ p ∷ []) j p (omega (arith, here, length-append old (p ∷ [])))
          ∙ ap (λ (n : ℕ). Some (get_or (old ++ p ∷ []) n p)) here
          ∙ ap Some (get_or-append_seam old p [] p ∙ part)
          ∙ ap (λ (n : ℕ). Some (part_with (kept x) i n size)) numbered
          ∙ ap (λ (n : ℕ). Some (part_with (kept x) i (slice_index image.section_numbers i) n)) sized
          ∙ ap (λ (n : ℕ). Some (part_at image sizes n (kept x))) (sym last)
          ∙ ap (λ (t : ImageSection). Some (part_at image sizes j t)) (sym own)
    ]

-- what is told of the first values in two steps, and of one more, is told of all
pub pieces_more : {A B C : Type 0} (f : B → C) (g : A → B) (xs : List A) (i : ℕ) (d : A) (old new : List C) (p : C)
    → i < length xs → old ≡ map f (map g (take i xs)) → p ≡ f (g (get_or xs i d)) → new ≡ old ++ p ∷ [] → new ≡ map f (map g (take (i + 1) xs))
pieces_more {A} {B} {C} f g xs i d old new p within before is grown =
    grown
    ∙ ap (λ (l : List C). l ++ p ∷ []) before
    ∙ ap (λ (q : C). map f (map g (take i xs)) ++ q ∷ []) is
    ∙ sym (map_push f (map g (take i xs)) (g (get_or xs i d)))
    ∙ ap (λ (l : List B). map f l) (sym (map_more g xs i d within))
