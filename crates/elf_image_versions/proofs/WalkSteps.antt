-- The steps of walking version records, as far as that goes.
use Rattle.std.proofs.Common.{◌≡◌, ◌≤◌, ◌<◌, ◌⊎◌, ℕ, zero, suc, ◌+◌, ◌-◌, Bool, true, false, eqb, List, [], ◌∷◌, ◌++◌, length, refl, sym, ap, ◌∙◌, inl, inr, Option, Some, None, Result, Ok, Err, arith}
use Rattle.std.specs.Prelude.{◌&&◌, not}
use Rattle.std.specs.List.{list_all}
use Rattle.std.proofs.lemmas.List.{append-nil, append_assoc}
use Rattle.std.proofs.lemmas.Bool.{cases_lt, eq-eqb, ne_eqb}
use Rattle.std.proofs.lemmas.Option.{none-some}
use Rattle.patch_bytes.specs.Memory.{◌>>=◌, Memory, bytes_at, memory_of}
use Rattle.elf_format.specs.declared.view_fault.ViewFault.{ViewFault}
use Rattle.elf_format.specs.declared.view_fault.ViewFault.TheVariants as faults
use Rattle.elf_format.specs.declared.form.Form.{Form}
use Rattle.elf_format.specs.Form.{fixed_field}
use Rattle.elf_format.specs.Answers.{Gives}
use Rattle.elf_format.specs.declared.records.NeedNameNumbers.{NeedNameNumbers}
use Rattle.elf_format.specs.Versions.{DefinitionNumbers, NeedNumbers, Step, definition_at, definition_name_at, need_at, need_name_at, is_whole_walk, values_of, chain_steps}
use Rattle.elf_image_versions.specs.WalkSteps.{IsFound, IsWalk}
use Rattle.elf_format.proofs.ForCallers.ChainSteps.{eqb-suc}
use Rattle.elf_format.proofs.ForCallers.TableSteps.{bytes_at-past}

-- ## What is found

-- what was read shows what is there, or that it isn't
pub found_there : {X Y : Type 0} → (view : X → Y) (read : Result X ViewFault) (shown : Option Y) (o : Option X) (x : X) → Gives view read shown → IsFound read (Ok o) → o ≡ Some x → shown ≡ Some (view x)
found_there view (Ok y) shown o x given is e = given ∙ ap (λ z. Some (view z)) (cc)
found_there view (Err faults.Absent) shown o x given is e = absurd (cc)
found_there view (Err faults.Memory) shown o x given is e = absurd (cc)

pub found_none : {X Y : Type 0} → (view : X → Y) (read : Result X ViewFault) (shown : Option Y) (o : Option X) → Gives view read shown → IsFound read (Ok o) → o ≡ None → shown ≡ None
found_none view (Ok y) shown o given is e = absurd (cc)
found_none view (Err faults.Absent) shown o given is e = given
found_none view (Err faults.Memory) shown o given is e = absurd (cc)

-- ## One step of a walk

short : {A : Type 0} → (n : ℕ) (s : Step A) → (n ≡ 0 → ⊥) → is_whole_walk (suc n) (s ∷ []) ≡ false
short n s more = ap (λ b. b && (s.is_whole && true)) (ne_eqb 1 (suc n) (λ e. more (omega arith)))

and_false : (a b : Bool) → b ≡ false → (a && (b && true)) ≡ false
and_false true b e = ap (λ c. c && true) e
and_false false b e = refl

module _ {A : Type 0} (read : ℕ → Option (Step A)) where
  -- the walk behind a step, by whether it goes on
  behind_by : ℕ → ℕ → Bool → List (Step A)
  behind_by n p goes = elim goes [ true ↦ chain_steps read n p | _ ↦ [] ]

  absent : (n a : ℕ) → read a ≡ None → chain_steps read n a ≡ []
  unfolding chain_steps
  absent zero a e = refl
  absent (suc n) a e = ap (λ (o : Option (Step A)). elim o as (λ _. List (Step A)) [ None ↦ [] | Some step ↦ step ∷ (elim (step.is_whole && not (eqb step.next 0)) [ true ↦ chain_steps read n (a + step.next) | _ ↦ [] ]) ]) e

  there : (n a : ℕ) (s : Step A) → read a ≡ Some s → chain_steps read (suc n) a ≡ s ∷ behind_by n (a + s.next) (s.is_whole && not (eqb s.next 0))
  unfolding chain_steps behind_by
  there n a s e = ap (λ (o : Option (Step A)). elim o as (λ _. List (Step A)) [ None ↦ [] | Some step ↦ step ∷ (elim (step.is_whole && not (eqb step.next 0)) [ true ↦ chain_steps read n (a + step.next) | _ ↦ [] ]) ]) e

  -- the walk goes on, or no record is left
  goes_on : (n a p : ℕ) (s : Step A) → read a ≡ Some s → s.is_whole ≡ true → (n ≡ 0) ⊎ ((s.next ≡ 0 → ⊥) × (p ≡ a + s.next)) → chain_steps read (suc n) a ≡ s ∷ chain_steps read n p
  unfolding chain_steps behind_by
  goes_on n a p s here whole next = there n a s here ∙ ap (λ l. s ∷ l) (onwards next)
    where
      nothing : (q : ℕ) (b : Bool) → behind_by 0 q b ≡ []
      nothing q true = refl
      nothing q false = refl

      none : (q : ℕ) → chain_steps read 0 q ≡ []
      none q = refl

      onwards : (n ≡ 0) ⊎ ((s.next ≡ 0 → ⊥) × (p ≡ a + s.next)) → behind_by n (a + s.next) (s.is_whole && not (eqb s.next 0)) ≡ chain_steps read n p
      onwards (inl e) =
          ap (λ m. behind_by m (a + s.next) (s.is_whole && not (eqb s.next 0))) e ∙ nothing (a + s.next) (s.is_whole && not (eqb s.next 0))
          ∙ sym (ap (λ m. chain_steps read m p) e ∙ none p)
      onwards (inr h) =
          ap (λ w. behind_by n (a + s.next) (w && not (eqb s.next 0))) whole ∙ ap (λ z. behind_by n (a + s.next) (not z)) (ne_eqb s.next 0 h.0)
          ∙ ap (chain_steps read n) (sym h.1)

  -- the walk stops behind a record
  stops : (n a : ℕ) (s : Step A) → read a ≡ Some s → (s.is_whole ≡ false) ⊎ (s.next ≡ 0) → chain_steps read (suc n) a ≡ s ∷ []
  unfolding behind_by
  stops n a s here stop = there n a s here ∙ ap (λ l. s ∷ l) (nowhere stop)
    where
      and_not : (b : Bool) → (b && false) ≡ false
      and_not true = refl
      and_not false = refl

      nowhere : (s.is_whole ≡ false) ⊎ (s.next ≡ 0) → behind_by n (a + s.next) (s.is_whole && not (eqb s.next 0)) ≡ []
      nowhere (inl e) = ap (λ w. behind_by n (a + s.next) (w && not (eqb s.next 0))) e
      nowhere (inr e) = ap (λ z. behind_by n (a + s.next) (s.is_whole && not z)) (eq-eqb s.next 0 e) ∙ ap (behind_by n (a + s.next)) (and_not s.is_whole)

-- ## The steps of a loop

-- what was walked so far and what is left make up the whole walk
pub record WalkLeft {A : Type 0} (read : ℕ → Option (Step A)) (count start : ℕ) (made : List A) (n a : ℕ) : Type 0 where
  pub values : made ++ values_of (chain_steps read n a) ≡ values_of (chain_steps read count start)
  pub whole : is_whole_walk n (chain_steps read n a) ≡ is_whole_walk count (chain_steps read count start)

module _ {A : Type 0} (read : ℕ → Option (Step A)) (count start : ℕ) where
  pub walk_starts : WalkLeft read count start [] (count - 0) start
  walk_starts =
      let e : count - 0 ≡ count = omega arith in
      record { values = ap (λ n. values_of (chain_steps read n start)) e; whole = ap (λ n. is_whole_walk n (chain_steps read n start)) e }

  pub walk_goes : (made : List A) (i a p : ℕ) (s : Step A) → i < count → read a ≡ Some s → s.is_whole ≡ true → (count - (i + 1) ≡ 0) ⊎ ((s.next ≡ 0 → ⊥) × (p ≡ a + s.next))
      → WalkLeft read count start made (count - i) a → WalkLeft read count start (made ++ s.value ∷ []) (count - (i + 1)) p
  walk_goes made i a p s less here whole next left =
      let n : ℕ = count - (i + 1) in
      let k : count - i ≡ suc n = omega arith in
      let on : chain_steps read (count - i) a ≡ s ∷ chain_steps read n p = ap (λ m. chain_steps read m a) k ∙ goes_on read n a p s here whole next in
      record {
        values = append_assoc made (s.value ∷ []) (values_of (chain_steps read n p)) ∙ sym (ap (λ l. made ++ values_of l) on) ∙ left.values;
        whole =
            sym (ap (λ m. is_whole_walk m (chain_steps read (count - i) a)) k ∙ ap (is_whole_walk (suc n)) on
            ∙ ap (λ w. eqb (suc (length (chain_steps read n p))) (suc n) && (w && list_all (λ t. t.is_whole) (chain_steps read n p))) whole
            ∙ ap (λ b. b && list_all (λ t. t.is_whole) (chain_steps read n p)) (eqb-suc (length (chain_steps read n p)) n)) ∙ left.whole;
      }

  pub walk_ends : (made : List A) (i a : ℕ) → i < count → read a ≡ None → WalkLeft read count start made (count - i) a → IsWalk read count start made false
  walk_ends made i a less none left =
      let n : ℕ = count - (i + 1) in
      let k : count - i ≡ suc n = omega arith in
      let e : chain_steps read (count - i) a ≡ [] = absent read (count - i) a none in
      record {
        all = sym (append-nil made) ∙ sym (ap (λ l. made ++ values_of l) e) ∙ left.values;
        whole = sym (ap (is_whole_walk (count - i)) e ∙ ap (λ m. is_whole_walk {A = A} m []) k ∙ ap (λ b. b && true) (ne_eqb 0 (suc n) (λ z. omega arith))) ∙ left.whole;
      }

  -- one record is kept, and the walk isn't whole
  stopped : (made : List A) (i a : ℕ) (s : Step A) → i < count → chain_steps read (suc (count - (i + 1))) a ≡ s ∷ [] → is_whole_walk (suc (count - (i + 1))) (s ∷ []) ≡ false
      → WalkLeft read count start made (count - i) a → IsWalk read count start (made ++ s.value ∷ []) false
  stopped made i a s less one broken left =
      let n : ℕ = count - (i + 1) in
      let k : count - i ≡ suc n = omega arith in
      let e : chain_steps read (count - i) a ≡ s ∷ [] = ap (λ m. chain_steps read m a) k ∙ one in
      record {
        all = sym (ap (λ l. made ++ values_of l) e) ∙ left.values;
        whole = sym (ap (is_whole_walk (count - i)) e ∙ ap (λ m. is_whole_walk m (s ∷ [])) k ∙ broken) ∙ left.whole;
      }

  pub walk_stops : (made : List A) (i a : ℕ) (s : Step A) → i < count → read a ≡ Some s → (count - (i + 1) ≡ 0 → ⊥) → s.next ≡ 0
      → WalkLeft read count start made (count - i) a → IsWalk read count start (made ++ s.value ∷ []) false
  walk_stops made i a s less here more stop left =
      stopped made i a s less (stops read (count - (i + 1)) a s here (inr stop)) (short (count - (i + 1)) s more) left

  pub walk_breaks : (made : List A) (i a : ℕ) (s : Step A) → i < count → read a ≡ Some s → s.is_whole ≡ false
      → WalkLeft read count start made (count - i) a → IsWalk read count start (made ++ s.value ∷ []) false
  walk_breaks made i a s less here broken left =
      let n : ℕ = count - (i + 1) in
      stopped made i a s less (stops read n a s here (inl broken)) (and_false (eqb 1 (suc n)) s.is_whole broken) left

  pub walk_done : (made : List A) (i a : ℕ) → count ≤ i → WalkLeft read count start made (count - i) a → IsWalk read count start made true
  unfolding chain_steps
  walk_done made i a past left =
      let k : count - i ≡ 0 = omega arith in
      record {
        all = sym (append-nil made) ∙ sym (ap (λ m. made ++ values_of (chain_steps read m a)) k) ∙ left.values;
        whole = sym (ap (λ m. is_whole_walk m (chain_steps read m a)) k) ∙ left.whole;
      }

-- ## Records

module _ (form : Form) (f : Memory) (a : ℕ) where
  -- a name is there where its bytes are
  definition_name_by : List ℕ → Option (Step ℕ)
  definition_name_by b = Some (record { value = fixed_field form (0, 4) b; is_whole = true; next = fixed_field form (4, 4) b })

  made_name : {A : Type 0} → A → ℕ → Option (Step A)
  made_name value next = Some (record { value = value; is_whole = true; next = next })

  pub definition_name_there : (b : List ℕ) (value next : ℕ) → bytes_at 8 f a ≡ Some b → value ≡ fixed_field form (0, 4) b → next ≡ fixed_field form (4, 4) b
      → Some (record { value = value; is_whole = true; next = next }) ≡ definition_name_at form f a
  unfolding definition_name_at definition_name_by made_name
  definition_name_there b value next here is_value is_next =
      ap (λ k. made_name k next) is_value ∙ ap (made_name (fixed_field form (0, 4) b)) is_next ∙ sym (ap (λ o. o >>= definition_name_by) here)

  pub definition_name_missing : bytes_at 8 f a ≡ None → definition_name_at form f a ≡ None
  unfolding definition_name_at definition_name_by
  definition_name_missing here = ap (λ o. o >>= definition_name_by) here

  need_name_by : List ℕ → Option (Step NeedNameNumbers)
  need_name_by b = Some (record {
    value = record { index = fixed_field form (6, 2) b; name = fixed_field form (8, 4) b; flags = fixed_field form (4, 2) b };
    is_whole = true;
    next = fixed_field form (12, 4) b;
  })

  made_need_name : ℕ → ℕ → ℕ → ℕ → Option (Step NeedNameNumbers)
  made_need_name index name flags next = Some (record { value = record { index = index; name = name; flags = flags }; is_whole = true; next = next })

  pub need_name_there : (b : List ℕ) (index name flags next : ℕ) → bytes_at 16 f a ≡ Some b → index ≡ fixed_field form (6, 2) b → name ≡ fixed_field form (8, 4) b
      → flags ≡ fixed_field form (4, 2) b → next ≡ fixed_field form (12, 4) b
      → Some (record { value = record { index = index; name = name; flags = flags }; is_whole = true; next = next }) ≡ need_name_at form f a
  unfolding need_name_at need_name_by made_need_name
  need_name_there b index name flags next here is_index is_name is_flags is_next =
      ap (λ k. made_need_name k name flags next) is_index ∙ ap (λ k. made_need_name (fixed_field form (6, 2) b) k flags next) is_name
      ∙ ap (λ k. made_need_name (fixed_field form (6, 2) b) (fixed_field form (8, 4) b) k next) is_flags
      ∙ ap (made_need_name (fixed_field form (6, 2) b) (fixed_field form (8, 4) b) (fixed_field form (4, 2) b)) is_next ∙ sym (ap (λ o. o >>= need_name_by) here)

  pub need_name_missing : bytes_at 16 f a ≡ None → need_name_at form f a ≡ None
  unfolding need_name_at need_name_by
  need_name_missing here = ap (λ o. o >>= need_name_by) here

  -- what a record with names shows, by the walk of its names
  definition_by : List ℕ → List (Step ℕ) → Option (Step DefinitionNumbers)
  definition_by b names = Some (record {
    value = record { index = fixed_field form (4, 2) b; flags = fixed_field form (2, 2) b; names = values_of names };
    is_whole = is_whole_walk (fixed_field form (6, 2) b) names;
    next = fixed_field form (16, 4) b;
  })

  made_definition : ℕ → ℕ → List ℕ → Bool → ℕ → Option (Step DefinitionNumbers)
  made_definition index flags names w next = Some (record { value = record { index = index; flags = flags; names = names }; is_whole = w; next = next })

  pub definition_there : (b names : List ℕ) (w : Bool) (n d index flags next : ℕ) → bytes_at 20 f a ≡ Some b → n ≡ fixed_field form (6, 2) b → d ≡ fixed_field form (12, 4) b
      → IsWalk (definition_name_at form f) n (a + d) names w → index ≡ fixed_field form (4, 2) b → flags ≡ fixed_field form (2, 2) b → next ≡ fixed_field form (16, 4) b
      → Some (record { value = record { index = index; flags = flags; names = names }; is_whole = w; next = next }) ≡ definition_at form f a
  unfolding definition_at definition_by made_definition
  definition_there b names w n d index flags next here is_n is_d walk is_index is_flags is_next =
      let read : ℕ → Option (Step ℕ) = definition_name_at form f in
      let count : ℕ = fixed_field form (6, 2) b in
      let steps : List (Step ℕ) = chain_steps read count (a + fixed_field form (12, 4) b) in
      let same : chain_steps read n (a + d) ≡ steps = ap (λ k. chain_steps read k (a + d)) is_n ∙ ap (λ k. chain_steps read count (a + k)) is_d in
      ap (λ k. made_definition k flags names w next) is_index ∙ ap (λ k. made_definition (fixed_field form (4, 2) b) k names w next) is_flags
      ∙ ap (λ k. made_definition (fixed_field form (4, 2) b) (fixed_field form (2, 2) b) names w k) is_next
      ∙ ap (λ l. made_definition (fixed_field form (4, 2) b) (fixed_field form (2, 2) b) l w (fixed_field form (16, 4) b)) (walk.all ∙ ap values_of same)
      ∙ ap (λ v. made_definition (fixed_field form (4, 2) b) (fixed_field form (2, 2) b) (values_of steps) v (fixed_field form (16, 4) b)) (walk.whole ∙ ap (is_whole_walk n) same ∙ ap (λ k. is_whole_walk k steps) is_n)
      ∙ sym (ap (λ o. o >>= (λ c. definition_by c (chain_steps read (fixed_field form (6, 2) c) (a + fixed_field form (12, 4) c)))) here)

  pub definition_missing : bytes_at 20 f a ≡ None → definition_at form f a ≡ None
  unfolding definition_at definition_by
  definition_missing here = ap (λ o. o >>= (λ c. definition_by c (chain_steps (definition_name_at form f) (fixed_field form (6, 2) c) (a + fixed_field form (12, 4) c)))) here

  need_by : List ℕ → List (Step NeedNameNumbers) → Option (Step NeedNumbers)
  need_by b names = Some (record {
    value = record { file = fixed_field form (4, 4) b; versions = values_of names };
    is_whole = is_whole_walk (fixed_field form (2, 2) b) names;
    next = fixed_field form (12, 4) b;
  })

  made_need : ℕ → List NeedNameNumbers → Bool → ℕ → Option (Step NeedNumbers)
  made_need file names w next = Some (record { value = record { file = file; versions = names }; is_whole = w; next = next })

  pub need_there : (b : List ℕ) (names : List NeedNameNumbers) (w : Bool) (n d file next : ℕ) → bytes_at 16 f a ≡ Some b → n ≡ fixed_field form (2, 2) b → d ≡ fixed_field form (8, 4) b
      → IsWalk (need_name_at form f) n (a + d) names w → file ≡ fixed_field form (4, 4) b → next ≡ fixed_field form (12, 4) b
      → Some (record { value = record { file = file; versions = names }; is_whole = w; next = next }) ≡ need_at form f a
  unfolding need_at need_by made_need
  need_there b names w n d file next here is_n is_d walk is_file is_next =
      let read : ℕ → Option (Step NeedNameNumbers) = need_name_at form f in
      let count : ℕ = fixed_field form (2, 2) b in
      let steps : List (Step NeedNameNumbers) = chain_steps read count (a + fixed_field form (8, 4) b) in
      let same : chain_steps read n (a + d) ≡ steps = ap (λ k. chain_steps read k (a + d)) is_n ∙ ap (λ k. chain_steps read count (a + k)) is_d in
      ap (λ k. made_need k names w next) is_file ∙ ap (λ k. made_need (fixed_field form (4, 4) b) names w k) is_next
      ∙ ap (λ l. made_need (fixed_field form (4, 4) b) l w (fixed_field form (12, 4) b)) (walk.all ∙ ap values_of same)
      ∙ ap (λ v. made_need (fixed_field form (4, 4) b) (values_of steps) v (fixed_field form (12, 4) b)) (walk.whole ∙ ap (is_whole_walk n) same ∙ ap (λ k. is_whole_walk k steps) is_n)
      ∙ sym (ap (λ o. o >>= (λ c. need_by c (chain_steps read (fixed_field form (2, 2) c) (a + fixed_field form (8, 4) c)))) here)

  pub need_missing : bytes_at 16 f a ≡ None → need_at form f a ≡ None
  unfolding need_at need_by
  need_missing here = ap (λ o. o >>= (λ c. need_by c (chain_steps (need_name_at form f) (fixed_field form (2, 2) c) (a + fixed_field form (8, 4) c)))) here

-- a record that is there begins within the bytes
pub begins_within : (n a : ℕ) (xs b : List ℕ) → 0 < n → bytes_at n (memory_of xs) a ≡ Some b → a ≤ length xs
begins_within n a xs b pos here = elim (cases_lt (length xs) a) [
  | inl past ↦ absurd (none-some b (sym (bytes_at-past n a xs pos (omega (arith, past))) ∙ here))
  | inr within ↦ within
]
