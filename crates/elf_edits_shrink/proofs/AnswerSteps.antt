-- Steps of gathering answers: one more of them.
use Rattle.std.proofs.Common.{◌≡◌, ℕ, ◌+◌, ◌<◌, Bool, true, false, cond, ◌&&◌, List, [], ◌∷◌, ◌++◌, length, take, get_or, map, refl, sym, ap, ◌∙◌, Option, Some, None, is_some, option_map, Bor}
use Rattle.std.specs.Prelude.{if◌then◌else◌}
use Rattle.std.specs.List.{find}
use Rattle.std.specs.Map.{lookup}
use Rattle.std.specs.Str.{bytes_eq}
use Rattle.std.proofs.lemmas.Bool.{and_parts, cond-true, cond-false, true≢false}
use Rattle.std.proofs.lemmas.List.{map-append}
use Rattle.std.proofs.lemmas.Slice.Eq.{bytes_eq-Decides}
use Rattle.elf_image.specs.Options.{first_there}
use Rattle.elf_edits_shrink.specs.declared.probe.ProbeAnswer.{ProbeAnswer}
use Rattle.elf_edits_shrink.specs.ShrinkModel.{answer_model}
use Rattle.elf_edits.specs.Edit.{Answer}
use Rattle.elf_edits.specs.Shrunk.{is_answer_for}
use Rattle.elf_edits_shrink.specs.ShrinkModel.{is_pair}
use Rattle.elf_edits.proofs.ForCallers.{by_test, one_more, other_way, there_or_none}

abbrev pub Found : Type 0
Found = List ((Bor (List ℕ) × Bor (List ℕ)) × Option ℕ)

-- one element more to be looked through
find_push : {A : Type 0} (p : A → Bool) (xs : List A) (a : A) → find p (xs ++ a ∷ []) ≡ first_there (find p xs) (if p a then Some a else None)
find_push p [] a = refl
find_push p (x ∷ xs) a = by_test (p x)
    (λ holds. cond-true (p x) (Some x) (find p (xs ++ a ∷ [])) holds ∙ sym (ap (λ o. first_there o (if p a then Some a else None)) (cond-true (p x) (Some x) (find p xs) holds)))
    (λ fails. cond-false (p x) (Some x) (find p (xs ++ a ∷ [])) fails ∙ find_push p xs a ∙ sym (ap (λ o. first_there o (if p a then Some a else None)) (cond-false (p x) (Some x) (find p xs) fails)))

there_first : {A : Type 0} (o p : Option A) → is_some o ≡ true → first_there o p ≡ o
there_first None p h = absurd (true≢false (sym h))
there_first (Some x) p h = refl

none_first : {A : Type 0} (o p : Option A) → is_some o ≡ false → first_there o p ≡ p
none_first None p h = refl
none_first (Some x) p h = absurd (true≢false h)

is_some-map : {A B : Type 0} (f : A → B) (o : Option A) → is_some (option_map f o) ≡ is_some o
is_some-map f None = refl
is_some-map f (Some x) = refl

-- the machine of the first answer, where there is one
pub told : List Answer → List ℕ → List ℕ → Option (Option ℕ)
told xs d n = option_map (λ (a : Answer). a.machine) (find (is_answer_for d n) xs)

module _ (xs : List Answer) (a : Answer) (old : Found) (so_far : (d n : List ℕ) → lookup (is_pair d n) old ≡ option_map (λ (b : Answer). b.machine) (find (is_answer_for d n) xs))
    (d0 n0 : List ℕ) (e0 : d0 ≡ a.directory) (e1 : n0 ≡ a.needed) where
  -- the answer is for this pair, which is the one that was looked for
  its_pair : (d n : List ℕ) → is_answer_for d n a ≡ true → (d ≡ d0) × (n ≡ n0)
  its_pair d n h =
      let parts = and_parts (bytes_eq d a.directory) (bytes_eq n a.needed) h in
      ((bytes_eq-Decides d a.directory).0 parts.0 ∙ sym e0, (bytes_eq-Decides n a.needed).0 parts.1 ∙ sym e1)

  found_there : (b : Bool) → is_some (lookup (is_pair d0 n0) old) ≡ b → (d n : List ℕ) → is_answer_for d n a ≡ true → is_some (find (is_answer_for d n) xs) ≡ b
  found_there b known d n h =
      let same = its_pair d n h in
      sym (ap is_some (so_far d n) ∙ is_some-map (λ (x : Answer). x.machine) (find (is_answer_for d n) xs))
      ∙ ap (λ k. is_some (lookup (is_pair k n) old)) same.0 ∙ ap (λ k. is_some (lookup (is_pair d0 k) old)) same.1 ∙ known

  -- an answer for a pair that has one counts for nothing
  pub second_answer : is_some (lookup (is_pair d0 n0) old) ≡ true → (d n : List ℕ) → lookup (is_pair d n) old ≡ told (xs ++ a ∷ []) d n
  unfolding told
  second_answer known d n = so_far d n ∙ ap (option_map (λ (b : Answer). b.machine)) (sym (find_push (is_answer_for d n) xs a ∙ by_test (is_answer_for d n a)
      (λ holds. there_first (find (is_answer_for d n) xs) (if is_answer_for d n a then Some a else None) (found_there true known d n holds))
      (λ fails. ap (first_there (find (is_answer_for d n) xs)) (cond-false (is_answer_for d n a) (Some a) None fails) ∙ there_or_none (find (is_answer_for d n) xs))))

  -- the first answer for a pair is what is told of it
  pub first_answer : (new : Found) → is_some (lookup (is_pair d0 n0) old) ≡ false
      → ((d n : List ℕ) → lookup (is_pair d n) new ≡ cond (bytes_eq d0 d && bytes_eq n0 n) (Some a.machine) (lookup (is_pair d n) old))
      → (d n : List ℕ) → lookup (is_pair d n) new ≡ told (xs ++ a ∷ []) d n
  unfolding told
  first_answer new known put d n = put d n ∙ by_test (is_answer_for d n a)
      (λ holds. cond-true (bytes_eq d0 d && bytes_eq n0 n) (Some a.machine) (lookup (is_pair d n) old) (turned d n ∙ holds)
      ∙ ap (option_map (λ (b : Answer). b.machine)) (sym (find_push (is_answer_for d n) xs a
      ∙ none_first (find (is_answer_for d n) xs) (if is_answer_for d n a then Some a else None) (found_there false known d n holds)
      ∙ cond-true (is_answer_for d n a) (Some a) None holds)))
      (λ fails. cond-false (bytes_eq d0 d && bytes_eq n0 n) (Some a.machine) (lookup (is_pair d n) old) (turned d n ∙ fails)
      ∙ so_far d n ∙ ap (option_map (λ (b : Answer). b.machine)) (sym (find_push (is_answer_for d n) xs a
      ∙ ap (first_there (find (is_answer_for d n) xs)) (cond-false (is_answer_for d n a) (Some a) None fails) ∙ there_or_none (find (is_answer_for d n) xs))))
    where
      turned : (k m : List ℕ) → (bytes_eq d0 k && bytes_eq n0 m) ≡ is_answer_for k m a
      turned k m = ap (λ b. b && bytes_eq n0 m) (other_way d0 k ∙ ap (bytes_eq k) e0) ∙ ap (λ b. bytes_eq k a.directory && b) (other_way n0 m ∙ ap (bytes_eq m) e1)

-- the answers so far, with one more
pub told_more : (answers : List ProbeAnswer) (i : ℕ) (x : ProbeAnswer) → i < length answers → x ≡ get_or answers i x → (d n : List ℕ)
    → told (map answer_model (take i answers) ++ answer_model x ∷ []) d n ≡ option_map (λ (a : Answer). a.machine) (find (is_answer_for d n) (map answer_model (take (i + 1) answers)))
unfolding told
told_more answers i x here is d n =
    ap (λ (l : List Answer). option_map (λ (a : Answer). a.machine) (find (is_answer_for d n) l))
    (sym (ap (λ (l : List ProbeAnswer). map answer_model l) (one_more answers i x here is) ∙ map-append answer_model (take i answers) (x ∷ [])))
