-- Two lists of which each two elements meet alike have the same marks.
use Rattle.std.proofs.Common.{◌≡◌, ℕ, zero, suc, ◌<◌, List, [], ◌∷◌, Bool, true, length, refl, ap, ◌∙◌, arith}
use Rattle.std.specs.Prelude.{Some, slice_get, if◌then◌else◌}
use Rattle.elf_layout_plan.specs.Marks.{marks, marks_behind}

abbrev Marked : Type 0
Marked = Bool × List Bool

-- one block more, by how it meets the last one
abbrev one_more : Bool → Bool → Marked → Marked → Marked
one_more later earlier over on = if later then (over.0, true ∷ over.1) else (earlier, on.0 ∷ on.1)

module _ {A B : Type 0} (e l : A → A → Bool) (f m : B → B → Bool) where
  -- two elements meet as two of another list do
  abbrev pub Meet : A → A → B → B → Type 0
  Meet a c b d = (e a c ≡ f b d) × (l a c ≡ m b d)

  -- each two elements of a list meet as those at their places in another one do
  abbrev pub AllMeet : List A → List B → Type 0
  AllMeet xs bs = (i j : ℕ) (a c : A) (b d : B) → i < j → slice_get xs i ≡ Some a → slice_get xs j ≡ Some c → slice_get bs i ≡ Some b → slice_get bs j ≡ Some d → Meet a c b d

  same_behind : (a : A) (xs : List A) (b : B) (bs : List B) → length xs ≡ length bs
      → ((j : ℕ) (c : A) (d : B) → slice_get xs j ≡ Some c → slice_get bs j ≡ Some d → Meet a c b d) → AllMeet xs bs → marks_behind e l a xs ≡ marks_behind f m b bs
  unfolding marks_behind
  same_behind a [] b [] many ahead all = refl
  same_behind a [] b (d ∷ bs) many ahead all = absurd (omega (arith, many))
  same_behind a (c ∷ xs) b [] many ahead all = absurd (omega (arith, many))
  same_behind a (c ∷ xs) b (d ∷ bs) many ahead all =
      let here = ahead zero c d refl refl in
      let rest : AllMeet xs bs = λ i j x y u v less p q s t. all (suc i) (suc j) x y u v (omega (arith, less)) p q s t in
      let over = same_behind a xs b bs (omega (arith, many)) (λ j x y p q. ahead (suc j) x y p q) rest in
      let on = same_behind c xs d bs (omega (arith, many)) (λ j x y p q. all zero (suc j) c x d y (omega arith) refl p refl q) rest in
      ap (λ (t : Bool). one_more t (e a c) (marks_behind e l a xs) (marks_behind e l c xs)) here.1
      ∙ ap (λ (t : Bool). one_more (m b d) t (marks_behind e l a xs) (marks_behind e l c xs)) here.0
      ∙ ap (λ (x : Marked). one_more (m b d) (f b d) x (marks_behind e l c xs)) over
      ∙ ap (λ (x : Marked). one_more (m b d) (f b d) (marks_behind f m b bs) x) on

  pub same_marks : (xs : List A) (bs : List B) → length xs ≡ length bs → AllMeet xs bs → marks e l xs ≡ marks f m bs
  same_marks [] [] many all = refl
  same_marks [] (b ∷ bs) many all = absurd (omega (arith, many))
  same_marks (a ∷ xs) [] many all = absurd (omega (arith, many))
  same_marks (a ∷ xs) (b ∷ bs) many all =
      ap (λ (x : Marked). x.0 ∷ x.1)
      (same_behind a xs b bs (omega (arith, many)) (λ j c d p q. all zero (suc j) a c b d (omega arith) refl p refl q)
      (λ i j x y u v less p q s t. all (suc i) (suc j) x y u v (omega (arith, less)) p q s t))
