-- The sets of flags that sections need, each once.
use Rattle.std.proofs.Common.{◌≡◌, ◌≢◌, ℕ, ◌+◌, ◌<◌, ◌≤◌, inl, inr, List, [], ◌∷◌, ◌++◌, Bool, true, false, not, ◌||◌, cond, Option, Some, None, length, map, take, get_or, refl, sym, ap, ◌∙◌}
use Rattle.std.specs.Prelude.{◌==◌, filter, option_map, slice_get}
use Rattle.std.specs.List.{cons_option, list_any}
use Rattle.std.proofs.lemmas.Bool.{cases_eq, eq-eqb, ne_eqb}
use Rattle.std.proofs.lemmas.List.{append-nil, map-append, take_all, take_more}
use Rattle.std.proofs.lemmas.List.Elements.{filter-append, filter_map-append}
use Rattle.elf_layout_plan.specs.Memory.{Resized, SizedSection, sized_sections}
use Rattle.elf_layout_plan.specs.Rounds.{added_flags, each_once, flags_for, sections_at}
use Rattle.elf_layout.specs.Slots.{with_flag}

abbrev pub without_number : ℕ → List ℕ → List ℕ
without_number m ns = filter (λ n. not (n == m)) ns

abbrev pub has : ℕ → List ℕ → Bool
has n ns = list_any (λ x. x == n) ns

-- another number is there as before, once a number is left out
has_still : (m n : ℕ) (ns : List ℕ) → m ≢ n → has n (without_number m ns) ≡ has n ns
has_still m n [] apart = refl
has_still m n (k ∷ ns) apart = elim (cases_eq k m) [
  | inl same ↦
      let left_out : without_number m (k ∷ ns) ≡ without_number m ns = rw (eq-eqb k m same) refl in
      let no : (k == n) ≡ false = ne_eqb k n (λ e. apart (sym same ∙ e)) in
      ap (λ (l : List ℕ). has n l) left_out ∙ has_still m n ns apart ∙ sym (rw no refl)
  | inr other ↦
      let kept : without_number m (k ∷ ns) ≡ k ∷ without_number m ns = rw (ne_eqb k m other) refl in
      ap (λ (l : List ℕ). has n l) kept ∙ ap (λ (b : Bool). (k == n) || b) (has_still m n ns apart)
]

-- one number of a list
others_one : (m n : ℕ) → m ≢ n → without_number m (n ∷ []) ≡ n ∷ []
others_one m n apart = rw (ne_eqb n m (λ e. apart (sym e))) refl

others_none : (m n : ℕ) → m ≡ n → without_number m (n ∷ []) ≡ []
others_none m n same = rw (eq-eqb n m (sym same)) refl

-- leaving out the number that is added
others_same : (m n : ℕ) (ns : List ℕ) (b : Bool) → m ≡ n → without_number m (cond b ns (ns ++ n ∷ [])) ≡ without_number m ns
others_same m n ns true same = refl
others_same m n ns false same =
    filter-append (λ (k : ℕ). not (k == m)) ns (n ∷ []) ∙ ap (λ (l : List ℕ). without_number m ns ++ l) (others_none m n same)
    ∙ append-nil (without_number m ns)

-- leaving out another
others_apart : (m n : ℕ) (ns : List ℕ) (b : Bool) → m ≢ n
    → without_number m (cond b ns (ns ++ n ∷ [])) ≡ cond b (without_number m ns) (without_number m ns ++ n ∷ [])
others_apart m n ns true apart = refl
others_apart m n ns false apart =
    filter-append (λ (k : ℕ). not (k == m)) ns (n ∷ []) ∙ ap (λ (l : List ℕ). without_number m ns ++ l) (others_one m n apart)

cons_cond : (m n : ℕ) (ns : List ℕ) (b : Bool) → m ∷ cond b ns (ns ++ n ∷ []) ≡ cond b (m ∷ ns) ((m ∷ ns) ++ n ∷ [])
cons_cond m n ns true = refl
cons_cond m n ns false = refl

-- one number more
each_once-push : (ns : List ℕ) (n : ℕ) → each_once (ns ++ n ∷ []) ≡ with_flag (each_once ns) (Some n)
unfolding each_once
each_once-push [] n = refl
each_once-push (m ∷ ns) n =
    let made : List ℕ = each_once ns in
    let before : m ∷ without_number m (each_once (ns ++ n ∷ [])) ≡ m ∷ without_number m (cond (has n made) made (made ++ n ∷ [])) =
    ap (λ (l : List ℕ). m ∷ without_number m l) (each_once-push ns n) in
    elim (cases_eq m n) [
      | inl same ↦
          let there : has n (m ∷ without_number m made) ≡ true = rw (eq-eqb m n same) refl in
          let goal : cond (has n (m ∷ without_number m made)) (m ∷ without_number m made) ((m ∷ without_number m made) ++ n ∷ []) ≡ m ∷ without_number m made =
          ap (λ (b : Bool). cond b (m ∷ without_number m made) ((m ∷ without_number m made) ++ n ∷ [])) there in
          before ∙ ap (λ (l : List ℕ). m ∷ l) (others_same m n made (has n made) same) ∙ sym goal
      | inr apart ↦
          let there : has n (m ∷ without_number m made) ≡ has n made = ap (λ (b : Bool). b || has n (without_number m made)) (ne_eqb m n apart)
          ∙ has_still m n made apart in
          before ∙ ap (λ (l : List ℕ). m ∷ l) (others_apart m n made (has n made) apart) ∙ cons_cond m n (without_number m made) (has n made)
          ∙ ap (λ (b : Bool). cond b (m ∷ without_number m made) ((m ∷ without_number m made) ++ n ∷ [])) (sym there)
    ]

-- the flags of the sections at positions
abbrev pub flags_of_all : Resized → List ℕ → List ℕ
flags_of_all r positions = map (λ s. flags_for r.image.moves_dynamic s.kept.section) (sections_at r positions)

push_found : (leave : Bool) (ns : List ℕ) (o : Option SizedSection)
    → each_once (ns ++ map (λ s. flags_for leave s.kept.section) (cons_option o []))
    ≡ with_flag (each_once ns) (option_map (λ s. flags_for leave s.kept.section) o)
push_found leave ns None = ap each_once (append-nil ns)
push_found leave ns (Some s) = each_once-push ns (flags_for leave s.kept.section)

-- one position more
pub flags_more : (r : Resized) (moved : List ℕ) (i : ℕ) → i < length moved
    → each_once (flags_of_all r (take (i + 1) moved))
    ≡ with_flag (each_once (flags_of_all r (take i moved)))
    (option_map (λ s. flags_for r.image.moves_dynamic s.kept.section) (slice_get (sized_sections r) (get_or moved i 0)))
flags_more r moved i within =
    ap (λ (l : List ℕ). each_once (flags_of_all r l)) (take_more moved i 0 within)
    ∙ ap (λ (l : List SizedSection). each_once (map (λ s. flags_for r.image.moves_dynamic s.kept.section) l))
    (filter_map-append (λ position. slice_get (sized_sections r) position) (take i moved) (get_or moved i 0 ∷ []))
    ∙ ap each_once (map-append (λ (s : SizedSection). flags_for r.image.moves_dynamic s.kept.section) (sections_at r (take i moved))
    (sections_at r (get_or moved i 0 ∷ [])))
    ∙ push_found r.image.moves_dynamic (flags_of_all r (take i moved)) (slice_get (sized_sections r) (get_or moved i 0))

pub flags_end : (r : Resized) (moved : List ℕ) (i : ℕ) → length moved ≤ i → each_once (flags_of_all r (take i moved)) ≡ added_flags r moved
flags_end r moved i all = ap (λ (l : List ℕ). each_once (flags_of_all r l)) (take_all i moved all)

pub flags_start : (r : Resized) → [] ≡ each_once (flags_of_all r [])
unfolding each_once
flags_start r = refl
