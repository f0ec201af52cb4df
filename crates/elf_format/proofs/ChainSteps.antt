-- The steps of reading a chain of version records.
use Rattle.std.proofs.Common.{◌≡◌, ◌≤◌, ◌<◌, ◌⊎◌, ℕ, zero, suc, ◌+◌, ◌-◌, Bool, true, false, cond, eqb, List, [], ◌∷◌, ◌++◌, length, refl, sym, ap, ◌∙◌, inl, inr, Option, Some, None, arith}
use Rattle.std.specs.Prelude.{◌&&◌, ◌||◌, not}
use Rattle.std.specs.List.{list_all}
use Rattle.std.proofs.lemmas.List.{append-nil}
use Rattle.std.proofs.lemmas.Option.{cond_some, none-some}
use Rattle.std.proofs.lemmas.Bool.{cases_eq, eq-eqb, eqb-false, eqb-true, ne_eqb}
use Rattle.patch_bytes.specs.Memory.{◌>>=◌, Memory, bytes_at}
use Rattle.elf_format.specs.declared.view_fault.ViewFault.{ViewFault}
use Rattle.elf_format.specs.declared.view_fault.ViewFault.TheVariants as faults
use Rattle.elf_format.specs.Form.{Form, fixed_field}
use Rattle.elf_format.specs.Answers.{Fails, chain, whole_step}
use Rattle.elf_format.specs.Versions.{DefinitionNumbers, NeedNameNumbers, NeedNumbers, Step, definition_at, definition_name_at, need_at, need_name_at, is_whole_walk, values_of, chain_steps}
use Rattle.elf_format.specs.Views.{whole_chain}
use Rattle.elf_format.proofs.ReadingSteps.{with_front, with_front-cons}

pub eqb-suc : (m n : ℕ) → eqb (suc m) (suc n) ≡ eqb m n
eqb-suc m n = elim (cases_eq m n) [
  | inl e ↦ eq-eqb (suc m) (suc n) (ap suc e) ∙ sym (eq-eqb m n e)
  | inr ne ↦ ne_eqb (suc m) (suc n) (λ e. ne (omega arith)) ∙ sym (ne_eqb m n ne)
]

abbrev pub from_whole : {A : Type 0} → ℕ → List (Step A) → Option (List A)
from_whole n steps = cond (is_whole_walk n steps) (Some (values_of steps)) None

-- one step of a walk, by whether it is whole and whether it has no next
rest_by : {A : Type 0} → List (Step A) → Bool → Bool → List (Step A)
rest_by rest w z = elim (w && not z) [ true ↦ rest | _ ↦ [] ]

walk_by : {A : Type 0} → ℕ → Step A → List (Step A) → Bool → Bool → Option (List A)
unfolding rest_by
walk_by n s rest w z = cond (eqb (suc (length (rest_by rest w z))) (suc n) && (w && list_all (λ t. t.is_whole) (rest_by rest w z))) (Some (s.value ∷ values_of (rest_by rest w z))) None

chain_by : {A : Type 0} → ℕ → Step A → Option (List A) → Bool → Bool → Option (List A)
chain_by n s tail w z = cond w (elim (eqb n 0 || not z) [ true ↦ tail >>= (λ xs. Some (s.value ∷ xs)) | _ ↦ None ]) None

cons_cond : {A : Type 0} → (x : A) (xs : List A) (b : Bool) → cond b (Some (x ∷ xs)) None ≡ (cond b (Some xs) None >>= (λ ys. Some (x ∷ ys)))
cons_cond x xs true = refl
cons_cond x xs false = refl

and_false : (b : Bool) → (b && false) ≡ false
and_false true = refl
and_false false = refl

by_flags : {A : Type 0} → (n : ℕ) (s : Step A) (rest : List (Step A)) (tail : Option (List A)) → from_whole n rest ≡ tail → (n ≡ 0 → tail ≡ Some []) → (w z : Bool) → walk_by n s rest w z ≡ chain_by n s tail w z
unfolding walk_by chain_by rest_by
by_flags n s rest tail same empty false z = ap (λ b. cond b (Some (s.value ∷ [])) None) (and_false (eqb 1 (suc n)))
by_flags {A} n s rest tail same empty true false =
    ap (λ b. cond (b && list_all (λ t. t.is_whole) rest) (Some (s.value ∷ values_of rest)) None) (eqb-suc (length rest) n)
    ∙ cons_cond s.value (values_of rest) (eqb (length rest) n && list_all (λ t. t.is_whole) rest)
    ∙ ap (λ o. o >>= (λ xs. Some (s.value ∷ xs))) same
    ∙ sym (ap (λ (b : Bool). elim b as (λ _. Option (List A)) [ true ↦ tail >>= (λ xs. Some (s.value ∷ xs)) | _ ↦ None ]) (or_true (eqb n 0)))
  where
    or_true : (b : Bool) → (b || true) ≡ true
    or_true true = refl
    or_true false = refl
by_flags zero s rest tail same empty true true = sym (ap (λ o. o >>= (λ xs. Some (s.value ∷ xs))) (empty refl))
by_flags {A} (suc n) s rest tail same empty true true =
    ap (λ b. cond (b && true) (Some (s.value ∷ [])) None) (ne_eqb 1 (suc (suc n)) (λ e. omega arith))
    ∙ sym (ap (λ (b : Bool). elim (b || false) as (λ _. Option (List A)) [ true ↦ tail >>= (λ xs. Some (s.value ∷ xs)) | _ ↦ None ]) (ne_eqb (suc n) 0 (λ e. omega arith)))

none_left : {A : Type 0} → (read : ℕ → Option (Step A)) (n a : ℕ) → n ≡ 0 → chain read n a ≡ Some []
unfolding chain
none_left read zero a e = refl
none_left read (suc n) a e = absurd (omega arith)

cond_bind : {A B : Type 0} → (w : Bool) (s : A) (f : A → Option B) → cond w (f s) None ≡ (cond w (Some s) None >>= f)
cond_bind true s f = refl
cond_bind false s f = refl

-- what is left of a chain behind a whole step
behind : {A : Type 0} → ℕ → (ℕ → Option (List A)) → ℕ → Step A → Option (List A)
behind n tail a s = elim (eqb n 0 || not (eqb s.next 0)) [ true ↦ tail (a + s.next) >>= (λ xs. Some (s.value ∷ xs)) | _ ↦ None ]

walk_from : {A : Type 0} → (ℕ → Option (Step A)) → ℕ → ℕ → Option (Step A) → List (Step A)
walk_from read n a o = elim o [ None ↦ [] | Some step ↦ step ∷ (elim (step.is_whole && not (eqb step.next 0)) [ true ↦ chain_steps read n (a + step.next) | _ ↦ [] ]) ]

by_step : {A : Type 0} → (read : ℕ → Option (Step A)) (n a : ℕ) → ((b : ℕ) → from_whole n (chain_steps read n b) ≡ chain read n b) → (o : Option (Step A))
    → from_whole (suc n) (walk_from read n a o) ≡ (whole_step o >>= (behind n (chain read n) a))
unfolding walk_from walk_by chain_by rest_by behind
by_step read n a same None = ap (λ b. cond (b && true) (Some []) None) (ne_eqb 0 (suc n) (λ e. omega arith))
by_step read n a same (Some s) =
    by_flags n s (chain_steps read n (a + s.next)) (chain read n (a + s.next)) (same (a + s.next)) (λ e. none_left read n (a + s.next) e) s.is_whole (eqb s.next 0)
    ∙ cond_bind s.is_whole s (λ t. elim (eqb n 0 || not (eqb t.next 0)) [ true ↦ chain read n (a + t.next) >>= (λ xs. Some (t.value ∷ xs)) | _ ↦ None ])

pub walked-chain : {A : Type 0} → (read : ℕ → Option (Step A)) (n a : ℕ) → from_whole n (chain_steps read n a) ≡ chain read n a
unfolding chain_steps chain walk_from behind
walked-chain read zero a = refl
walked-chain read (suc n) a = by_step read n a (walked-chain read n) (read a)

-- a whole chain is read record by record
pub whole_chain-chain : {A : Type 0} → (read : ℕ → Option (Step A)) (n : ℕ) → whole_chain read n ≡ chain read n 0
unfolding whole_chain
whole_chain-chain read n = walked-chain read n 0

-- ## The steps of a loop

module _ {A : Type 0} (read : ℕ → Option (Step A)) where
  one_step : (n a : ℕ) (o : Option (Step A)) → whole_step (read a) ≡ o → chain read (suc n) a ≡ (o >>= (behind n (chain read n) a))
  unfolding chain behind
  one_step n a o e = ap (λ v. v >>= (behind n (chain read n) a)) e

  -- on to the next record, or none is left
  next_step : (n a p : ℕ) (s : Step A) → (n ≡ 0) ⊎ ((s.next ≡ 0 → ⊥) × (p ≡ a + s.next)) → behind n (chain read n) a s ≡ (chain read n p >>= (λ xs. Some (s.value ∷ xs)))
  unfolding behind chain
  next_step zero a p s h = refl
  next_step (suc n) a p s (inl e) = absurd (omega arith)
  next_step (suc n) a p s (inr h) =
      ap (λ b. behind_by (eqb (suc n) 0 || not b) (chain read (suc n) (a + s.next)) s) (ne_eqb s.next 0 h.0)
      ∙ ap (λ b. behind_by (b || true) (chain read (suc n) (a + s.next)) s) (ne_eqb (suc n) 0 (λ e. omega arith))
      ∙ ap (λ q. chain read (suc n) q >>= (λ xs. Some (s.value ∷ xs))) (sym h.1)
    where
      behind_by : Bool → Option (List A) → Step A → Option (List A)
      behind_by b tail t = elim b [ true ↦ tail >>= (λ xs. Some (t.value ∷ xs)) | _ ↦ None ]

  pub chain_goes : (made : List A) (count i a p : ℕ) (s : Step A) (whole : Option (List A)) → i < count → whole_step (read a) ≡ Some s
      → (count - (i + 1) ≡ 0) ⊎ ((s.next ≡ 0 → ⊥) × (p ≡ a + s.next)) → with_front made (chain read (count - i) a) ≡ whole
      → with_front (made ++ s.value ∷ []) (chain read (count - (i + 1)) p) ≡ whole
  chain_goes made count i a p s whole less here next so_far =
      let n : ℕ = count - (i + 1) in
      let k : count - i ≡ suc n = omega arith in
      sym (with_front-cons made s.value (chain read n p))
      ∙ sym (ap (with_front made) (ap (λ m. chain read m a) k ∙ one_step n a (Some s) here ∙ next_step n a p s next)) ∙ so_far

  pub chain_ends : (fault : ViewFault) (made : List A) (count i a : ℕ) (whole : Option (List A)) → i < count → Fails fault (whole_step (read a))
      → with_front made (chain read (count - i) a) ≡ whole → Fails fault whole
  unfolding behind
  chain_ends faults.Absent made count i a whole less here so_far =
      let n : ℕ = count - (i + 1) in
      let k : count - i ≡ suc n = omega arith in
      sym so_far ∙ ap (with_front made) (ap (λ m. chain read m a) k ∙ one_step n a None here)
  chain_ends faults.Memory made count i a whole less here so_far = tt

  pub chain_broken : (made : List A) (count i a : ℕ) (s : Step A) (whole : Option (List A)) → i < count → whole_step (read a) ≡ Some s → (count - (i + 1) ≡ 0 → ⊥)
      → (s.next ≡ 0) ⊎ (whole_step (read (a + s.next)) ≡ None) → with_front made (chain read (count - i) a) ≡ whole → whole ≡ None
  unfolding behind
  chain_broken made count i a s whole less here more broken so_far =
      let n : ℕ = count - (i + 1) in
      let k : count - i ≡ suc n = omega arith in
      sym so_far ∙ ap (with_front made) (ap (λ m. chain read m a) k ∙ one_step n a (Some s) here ∙ none_behind n a s more broken)
    where
      stop_by : Bool → Option (List A) → Step A → Option (List A)
      stop_by b tail t = elim b [ true ↦ tail >>= (λ xs. Some (t.value ∷ xs)) | _ ↦ None ]

      nothing : (b : Bool) (t : Step A) → stop_by b None t ≡ None
      nothing true t = refl
      nothing false t = refl

      none_behind : (n b : ℕ) (t : Step A) → (n ≡ 0 → ⊥) → (t.next ≡ 0) ⊎ (whole_step (read (b + t.next)) ≡ None) → behind n (chain read n) b t ≡ None
      none_behind zero b t more h = absurd (more refl)
      none_behind (suc n) b t more (inl e) =
          ap (λ z. stop_by (eqb (suc n) 0 || not z) (chain read (suc n) (b + t.next)) t) (eq-eqb t.next 0 e)
          ∙ ap (λ z. stop_by (z || false) (chain read (suc n) (b + t.next)) t) (ne_eqb (suc n) 0 (λ z. omega arith))
      none_behind (suc n) b t more (inr e) =
          ap (λ o. stop_by (eqb (suc n) 0 || not (eqb t.next 0)) o t) (one_step n (b + t.next) None e) ∙ nothing (eqb (suc n) 0 || not (eqb t.next 0)) t

  pub chain_done : (made : List A) (count i a : ℕ) (whole : Option (List A)) → count ≤ i → with_front made (chain read (count - i) a) ≡ whole → whole ≡ Some made
  unfolding chain
  chain_done made count i a whole past so_far =
      let k : count - i ≡ 0 = omega arith in
      sym so_far ∙ ap (λ m. with_front made (chain read m a)) k ∙ ap Some (append-nil made)

-- what a step of a loop says of the next place, by what is left
pub next_of : (count i next place p : ℕ) → (eqb (i + 1) count ≡ true) ⊎ ((next ≡ 0 → ⊥) × (p ≡ place + next)) → (count - (i + 1) ≡ 0) ⊎ ((next ≡ 0 → ⊥) × (p ≡ place + next))
next_of count i next place p (inl e) = inl (omega (arith, eqb-true (i + 1) count e))
next_of count i next place p (inr h) = inr h

pub more_left : (count i : ℕ) → i < count → eqb (i + 1) count ≡ false → count - (i + 1) ≡ 0 → ⊥
more_left count i less e z = eqb-false (i + 1) count e (omega arith)

-- a walk whose chain is there is whole, and has its values
walk_is : {A : Type 0} → (read : ℕ → Option (Step A)) (n a : ℕ) (xs : List A) → chain read n a ≡ Some xs → (is_whole_walk n (chain_steps read n a) ≡ true) × (values_of (chain_steps read n a) ≡ xs)
walk_is read n a xs e = cond_some (is_whole_walk n (chain_steps read n a)) (values_of (chain_steps read n a)) xs (walked-chain read n a ∙ e)

walk_is_not : {A : Type 0} → (read : ℕ → Option (Step A)) (n a : ℕ) → chain read n a ≡ None → is_whole_walk n (chain_steps read n a) ≡ false
walk_is_not read n a e = no_value (is_whole_walk n (chain_steps read n a)) (values_of (chain_steps read n a)) (walked-chain read n a ∙ e)
  where
    no_value : {A : Type 0} → (b : Bool) (xs : List A) → cond b (Some xs) None ≡ None → b ≡ false
    no_value true xs h = absurd (none-some xs (sym h))
    no_value false xs h = refl

-- ## Records with a chain of their own

definition_by : Form → List ℕ → Bool → List ℕ → Step DefinitionNumbers
definition_by form b w names = record {
  value = record { index = fixed_field form (4, 2) b; flags = fixed_field form (2, 2) b; names = names };
  is_whole = w;
  next = fixed_field form (16, 4) b;
}

module _ (form : Form) (f : Memory) (a : ℕ) where
  definition_from : (b : List ℕ) → bytes_at 20 f a ≡ Some b
      → whole_step (definition_at form f a) ≡ whole_step (Some (definition_by form b (is_whole_walk (fixed_field form (6, 2) b) (chain_steps (definition_name_at form f) (fixed_field form (6, 2) b) (a + fixed_field form (12, 4) b)))
      (values_of (chain_steps (definition_name_at form f) (fixed_field form (6, 2) b) (a + fixed_field form (12, 4) b)))))
  unfolding definition_at definition_by
  definition_from b here = ap (λ o. whole_step (o >>= (λ c. Some (definition_by form c (is_whole_walk (fixed_field form (6, 2) c) (chain_steps (definition_name_at form f) (fixed_field form (6, 2) c) (a + fixed_field form (12, 4) c)))
      (values_of (chain_steps (definition_name_at form f) (fixed_field form (6, 2) c) (a + fixed_field form (12, 4) c))))))) here

  pub definition_whole : (b names : List ℕ) → bytes_at 20 f a ≡ Some b → chain (definition_name_at form f) (fixed_field form (6, 2) b) (a + fixed_field form (12, 4) b) ≡ Some names
      → whole_step (definition_at form f a) ≡ Some (record { value = record { index = fixed_field form (4, 2) b; flags = fixed_field form (2, 2) b; names = names }; is_whole = true; next = fixed_field form (16, 4) b })
  unfolding definition_by
  definition_whole b names here chained =
      let is = walk_is (definition_name_at form f) (fixed_field form (6, 2) b) (a + fixed_field form (12, 4) b) names chained in
      let steps = chain_steps (definition_name_at form f) (fixed_field form (6, 2) b) (a + fixed_field form (12, 4) b) in
      definition_from b here ∙ ap (λ w. whole_step (Some (definition_by form b w (values_of steps)))) is.0 ∙ ap (λ ns. Some (definition_by form b true ns)) is.1

  pub definition_none : (b : List ℕ) → bytes_at 20 f a ≡ Some b → chain (definition_name_at form f) (fixed_field form (6, 2) b) (a + fixed_field form (12, 4) b) ≡ None → whole_step (definition_at form f a) ≡ None
  unfolding definition_by
  definition_none b here chained =
      let steps = chain_steps (definition_name_at form f) (fixed_field form (6, 2) b) (a + fixed_field form (12, 4) b) in
      definition_from b here ∙ ap (λ w. whole_step (Some (definition_by form b w (values_of steps)))) (walk_is_not (definition_name_at form f) (fixed_field form (6, 2) b) (a + fixed_field form (12, 4) b) chained)

  pub definition_absent : bytes_at 20 f a ≡ None → whole_step (definition_at form f a) ≡ None
  unfolding definition_at definition_by
  definition_absent here = ap (λ o. whole_step (o >>= (λ c. Some (definition_by form c (is_whole_walk (fixed_field form (6, 2) c) (chain_steps (definition_name_at form f) (fixed_field form (6, 2) c) (a + fixed_field form (12, 4) c)))
      (values_of (chain_steps (definition_name_at form f) (fixed_field form (6, 2) c) (a + fixed_field form (12, 4) c))))))) here

need_by : Form → List ℕ → Bool → List NeedNameNumbers → Step NeedNumbers
need_by form b w names = record {
  value = record { file = fixed_field form (4, 4) b; versions = names };
  is_whole = w;
  next = fixed_field form (12, 4) b;
}

module _ (form : Form) (f : Memory) (a : ℕ) where
  need_from : (b : List ℕ) → bytes_at 16 f a ≡ Some b
      → whole_step (need_at form f a) ≡ whole_step (Some (need_by form b (is_whole_walk (fixed_field form (2, 2) b) (chain_steps (need_name_at form f) (fixed_field form (2, 2) b) (a + fixed_field form (8, 4) b)))
      (values_of (chain_steps (need_name_at form f) (fixed_field form (2, 2) b) (a + fixed_field form (8, 4) b)))))
  unfolding need_at need_by
  need_from b here = ap (λ o. whole_step (o >>= (λ c. Some (need_by form c (is_whole_walk (fixed_field form (2, 2) c) (chain_steps (need_name_at form f) (fixed_field form (2, 2) c) (a + fixed_field form (8, 4) c)))
      (values_of (chain_steps (need_name_at form f) (fixed_field form (2, 2) c) (a + fixed_field form (8, 4) c))))))) here

  pub need_whole : (b : List ℕ) (names : List NeedNameNumbers) → bytes_at 16 f a ≡ Some b → chain (need_name_at form f) (fixed_field form (2, 2) b) (a + fixed_field form (8, 4) b) ≡ Some names
      → whole_step (need_at form f a) ≡ Some (record { value = record { file = fixed_field form (4, 4) b; versions = names }; is_whole = true; next = fixed_field form (12, 4) b })
  unfolding need_by
  need_whole b names here chained =
      let is = walk_is (need_name_at form f) (fixed_field form (2, 2) b) (a + fixed_field form (8, 4) b) names chained in
      let steps = chain_steps (need_name_at form f) (fixed_field form (2, 2) b) (a + fixed_field form (8, 4) b) in
      need_from b here ∙ ap (λ w. whole_step (Some (need_by form b w (values_of steps)))) is.0 ∙ ap (λ ns. Some (need_by form b true ns)) is.1

  pub need_none : (b : List ℕ) → bytes_at 16 f a ≡ Some b → chain (need_name_at form f) (fixed_field form (2, 2) b) (a + fixed_field form (8, 4) b) ≡ None → whole_step (need_at form f a) ≡ None
  unfolding need_by
  need_none b here chained =
      let steps = chain_steps (need_name_at form f) (fixed_field form (2, 2) b) (a + fixed_field form (8, 4) b) in
      need_from b here ∙ ap (λ w. whole_step (Some (need_by form b w (values_of steps)))) (walk_is_not (need_name_at form f) (fixed_field form (2, 2) b) (a + fixed_field form (8, 4) b) chained)

  pub need_absent : bytes_at 16 f a ≡ None → whole_step (need_at form f a) ≡ None
  unfolding need_at need_by
  need_absent here = ap (λ o. whole_step (o >>= (λ c. Some (need_by form c (is_whole_walk (fixed_field form (2, 2) c) (chain_steps (need_name_at form f) (fixed_field form (2, 2) c) (a + fixed_field form (8, 4) c)))
      (values_of (chain_steps (need_name_at form f) (fixed_field form (2, 2) c) (a + fixed_field form (8, 4) c))))))) here

-- ## What the reader of a record with a chain answers

made_definition : List ℕ → ℕ → ℕ → ℕ → Option (Step DefinitionNumbers)
made_definition names index flags next = Some (record { value = record { index = index; flags = flags; names = names }; is_whole = true; next = next })

module _ (form : Form) (f : Memory) (a : ℕ) where
  pub definition_fails : (fault : ViewFault) → Fails fault (bytes_at 20 f a) → Fails fault (whole_step (definition_at form f a))
  definition_fails faults.Absent h = definition_absent form f a h
  definition_fails faults.Memory h = tt

  pub definition_fails_names : (fault : ViewFault) (b : List ℕ) (n d : ℕ) → bytes_at 20 f a ≡ Some b → n ≡ fixed_field form (6, 2) b → d ≡ fixed_field form (12, 4) b
      → Fails fault (chain (definition_name_at form f) n (a + d)) → Fails fault (whole_step (definition_at form f a))
  definition_fails_names faults.Absent b n d here is_n is_d h =
      definition_none form f a b here (ap (λ k. chain (definition_name_at form f) k (a + fixed_field form (12, 4) b)) (sym is_n) ∙ ap (λ k. chain (definition_name_at form f) n (a + k)) (sym is_d) ∙ h)
  definition_fails_names faults.Memory b n d here is_n is_d h = tt

  pub definition_read : (b names : List ℕ) (n d index flags next : ℕ) → bytes_at 20 f a ≡ Some b → n ≡ fixed_field form (6, 2) b → d ≡ fixed_field form (12, 4) b
      → chain (definition_name_at form f) n (a + d) ≡ Some names → index ≡ fixed_field form (4, 2) b → flags ≡ fixed_field form (2, 2) b → next ≡ fixed_field form (16, 4) b
      → whole_step (definition_at form f a) ≡ Some (record { value = record { index = index; flags = flags; names = names }; is_whole = true; next = next })
  unfolding made_definition
  definition_read b names n d index flags next here is_n is_d h is_index is_flags is_next =
      definition_whole form f a b names here (ap (λ k. chain (definition_name_at form f) k (a + fixed_field form (12, 4) b)) (sym is_n) ∙ ap (λ k. chain (definition_name_at form f) n (a + k)) (sym is_d) ∙ h)
      ∙ sym (ap (λ k. made_definition names k flags next) is_index ∙ ap (λ k. made_definition names (fixed_field form (4, 2) b) k next) is_flags
      ∙ ap (made_definition names (fixed_field form (4, 2) b) (fixed_field form (2, 2) b)) is_next)

made_need : List NeedNameNumbers → ℕ → ℕ → Option (Step NeedNumbers)
made_need names file next = Some (record { value = record { file = file; versions = names }; is_whole = true; next = next })

module _ (form : Form) (f : Memory) (a : ℕ) where
  pub need_fails : (fault : ViewFault) → Fails fault (bytes_at 16 f a) → Fails fault (whole_step (need_at form f a))
  need_fails faults.Absent h = need_absent form f a h
  need_fails faults.Memory h = tt

  pub need_fails_names : (fault : ViewFault) (b : List ℕ) (n d : ℕ) → bytes_at 16 f a ≡ Some b → n ≡ fixed_field form (2, 2) b → d ≡ fixed_field form (8, 4) b
      → Fails fault (chain (need_name_at form f) n (a + d)) → Fails fault (whole_step (need_at form f a))
  need_fails_names faults.Absent b n d here is_n is_d h =
      need_none form f a b here (ap (λ k. chain (need_name_at form f) k (a + fixed_field form (8, 4) b)) (sym is_n) ∙ ap (λ k. chain (need_name_at form f) n (a + k)) (sym is_d) ∙ h)
  need_fails_names faults.Memory b n d here is_n is_d h = tt

  pub need_read : (b : List ℕ) (names : List NeedNameNumbers) (n d file next : ℕ) → bytes_at 16 f a ≡ Some b → n ≡ fixed_field form (2, 2) b → d ≡ fixed_field form (8, 4) b
      → chain (need_name_at form f) n (a + d) ≡ Some names → file ≡ fixed_field form (4, 4) b → next ≡ fixed_field form (12, 4) b
      → whole_step (need_at form f a) ≡ Some (record { value = record { file = file; versions = names }; is_whole = true; next = next })
  unfolding made_need
  need_read b names n d file next here is_n is_d h is_file is_next =
      need_whole form f a b names here (ap (λ k. chain (need_name_at form f) k (a + fixed_field form (8, 4) b)) (sym is_n) ∙ ap (λ k. chain (need_name_at form f) n (a + k)) (sym is_d) ∙ h)
      ∙ sym (ap (λ k. made_need names k next) is_file ∙ ap (made_need names (fixed_field form (4, 4) b)) is_next)
