-- Numbers that stand end to end, and chains of records, are read back from their own bytes.
use Rattle.std.proofs.Common.{◌≡◌, ℕ, zero, suc, ◌+◌, ◌-◌, ◌^◌, ◌<◌, ◌≤◌, Bool, true, cond, List, [], ◌∷◌, ◌++◌, length, drop, take, map, refl, sym, ap, ◌∙◌, Option, Some, None, arith}
use Rattle.std.specs.Prelude.{◌&&◌, ◌==◌, not, sum_by}
use Rattle.std.specs.List.{AllByRecursion, list_all}
use Rattle.std.proofs.lemmas.Bool.{and_from, cond-true, eq-eqb, ne_eqb}
use Rattle.std.proofs.lemmas.List.{append_assoc, append-nil, drop-drop, drop_at, length-append, length-drop, take_at}
use Rattle.std.proofs.lemmas.List.Sums.{sum_by-cons}
use Rattle.patch_bytes.specs.declared.number.ByteOrder2.{ByteOrder2}
use Rattle.patch_bytes.specs.declared.number.Wide.{Wide}
use Rattle.patch_bytes.specs.declared.number.Wide.TheVariants.{W32, W64}
use Rattle.patch_bytes.specs.Memory.{bytes_at, memory_of}
use Rattle.patch_bytes.specs.Number.{bytes_of, number_at}
use Rattle.patch_bytes.proofs.MemoryLaws.{bytes_at-memory_of}
use Rattle.patch_bytes.proofs.NumberLaws.{length-bytes_of, number_at-append_right, number_at-bytes_of}
use Rattle.elf_format.specs.declared.form.Form.{Form}
use Rattle.elf_format.specs.Form.{by_class, fixed_field}
use Rattle.elf_format.specs.Versions.{Step, is_whole_walk, values_of, chain_steps}
use Rattle.elf_format.specs.Views.{whole_chain}
use Rattle.elf_tables.specs.Fields.{fields, widths}
use Rattle.elf_tables.specs.VersionRecords.{chained, next_behind}

-- ## Numbers end to end

-- the number behind others is read back
pub number_at-fields : (order : ByteOrder2) (fs gs : List (ℕ × ℕ)) (n x : ℕ) → x < 256 ^ n → number_at order n (widths fs) (fields order (fs ++ (n, x) ∷ gs)) ≡ x
number_at-fields order [] gs n x fits = number_at-bytes_of order n x (fields order gs) fits
number_at-fields order (f ∷ fs) gs n x fits =
    number_at-append_right order n f.0 (widths fs) (bytes_of order f.0 f.1) (fields order (fs ++ (n, x) ∷ gs)) (length-bytes_of order f.0 f.1) ∙ number_at-fields order fs gs n x fits

-- a field that stands at one place in files of both classes
one_place : (wide : Wide) (p : ℕ × ℕ) → by_class wide p p ≡ p
one_place W32 p = refl
one_place W64 p = refl

pub fixed_field-number : (form : Form) (p : ℕ × ℕ) (bytes : List ℕ) → fixed_field form p bytes ≡ number_at form.order p.1 p.0 bytes
fixed_field-number form p bytes = ap (λ q. number_at form.order q.1 q.0 bytes) (one_place form.wide p)

-- ## Bytes at a place

pub bytes_at-front : (bytes front rest : List ℕ) (a n : ℕ) → length front ≡ n → drop a bytes ≡ front ++ rest → bytes_at n (memory_of bytes) a ≡ Some front
unfolding bytes_at
bytes_at-front bytes [] rest a zero long at = refl
bytes_at-front bytes [] rest a (suc n) long at = absurd (omega arith)
bytes_at-front bytes (x ∷ front) rest a n long at =
    let whole : length bytes - a ≡ length (x ∷ front) + length rest = sym (length-drop a bytes) ∙ ap length at ∙ length-append (x ∷ front) rest in
    let within : a + n ≤ length bytes = omega arith in
    bytes_at-memory_of n a bytes within ∙ ap Some (ap (take n) at ∙ take_at (x ∷ front) rest n long)

pub drop-front : (bytes front rest : List ℕ) (a n : ℕ) → length front ≡ n → drop a bytes ≡ front ++ rest → drop (a + n) bytes ≡ rest
drop-front bytes front rest a n long at = sym (drop-drop n a bytes) ∙ ap (drop n) at ∙ drop_at front rest n long

-- ## Chains of records

-- a walk after what it met at a place
on_step : {A : Type 0} → (ℕ → Option (Step A)) → ℕ → ℕ → Option (Step A) → List (Step A)
on_step {A} read count a o = elim o [ None ↦ [] | Some step ↦ step ∷ (elim (step.is_whole && not (step.next == 0)) [ true ↦ chain_steps read count (a + step.next) | _ ↦ [] ]) ]

walked-more : {A : Type 0} → (read : ℕ → Option (Step A)) (count a : ℕ) → chain_steps read (suc count) a ≡ on_step read count a (read a)
unfolding chain_steps on_step
walked-more read count a = refl

-- a record that has a next one
step_on : {A : Type 0} → (read : ℕ → Option (Step A)) (count a n : ℕ) (value : A) → 0 < n → on_step read count a (Some (record { value = value; is_whole = true; next = n })) ≡ record { value = value; is_whole = true; next = n } ∷ chain_steps read count (a + n)
unfolding on_step
step_on {A} read count a n value some =
    let on : not (n == 0) ≡ true = ap not (ne_eqb n 0 (λ none. absurd (omega arith))) in
    ap (λ (b : Bool). record { value = value; is_whole = true; next = n } ∷ (elim b as (λ _. List (Step A)) [ true ↦ chain_steps read count (a + n) | _ ↦ [] ])) on

step_last : {A : Type 0} → (read : ℕ → Option (Step A)) (count a : ℕ) (value : A) → on_step read count a (Some (record { value = value; is_whole = true; next = 0 })) ≡ record { value = value; is_whole = true; next = 0 } ∷ []
unfolding on_step
step_last read count a value = refl

module _ {A X : Type 0} (spell : X → ℕ → List ℕ) (size : X → ℕ) (value : X → A) where
  -- what a walk meets
  pub steps_of : List X → List (Step A)
  steps_of [] = []
  steps_of (x ∷ xs) = record { value = value x; is_whole = true; next = next_behind xs (size x) } ∷ steps_of xs

  pub values_of-steps : (xs : List X) → values_of (steps_of xs) ≡ map value xs
  unfolding steps_of
  values_of-steps [] = refl
  values_of-steps (x ∷ xs) = ap (λ l. value x ∷ l) (values_of-steps xs)

  length-steps : (xs : List X) → length (steps_of xs) ≡ length xs
  unfolding steps_of
  length-steps [] = refl
  length-steps (x ∷ xs) = ap suc (length-steps xs)

  all_whole : (xs : List X) → list_all (λ (s : Step A). s.is_whole) (steps_of xs) ≡ true
  unfolding steps_of
  all_whole [] = refl
  all_whole (x ∷ xs) = all_whole xs

  pub whole_steps : (xs : List X) → is_whole_walk (length xs) (steps_of xs) ≡ true
  whole_steps xs = and_from (length (steps_of xs) == length xs) (list_all (λ (s : Step A). s.is_whole) (steps_of xs)) (eq-eqb (length (steps_of xs)) (length xs) (length-steps xs)) (all_whole xs)

  -- a record is read from its own bytes
  abbrev pub ReadsBack : (ℕ → Option (Step A)) → List ℕ → X → Type 0
  ReadsBack read bytes x = (a n : ℕ) (rest : List ℕ) → n ≤ size x → drop a bytes ≡ spell x n ++ rest → read a ≡ Some (record { value = value x; is_whole = true; next = n })

  pub walked-chained : (read : ℕ → Option (Step A)) (bytes : List ℕ) (xs : List X) (a : ℕ) (rest : List ℕ)
      → ((x : X) (n : ℕ) → length (spell x n) ≡ size x) → ((x : X) → 0 < size x) → AllByRecursion (ReadsBack read bytes) xs → drop a bytes ≡ chained spell size xs ++ rest
      → chain_steps read (length xs) a ≡ steps_of xs
  unfolding steps_of chained chain_steps
  walked-chained read bytes [] a rest long positive back at = refl
  walked-chained read bytes (x ∷ []) a rest long positive back at =
      let here : read a ≡ Some (record { value = value x; is_whole = true; next = 0 }) = back.0 a 0 ([] ++ rest) (omega arith) (at ∙ append_assoc (spell x 0) [] rest) in
      walked-more read 0 a ∙ ap (on_step read 0 a) here ∙ step_last read 0 a (value x)
  walked-chained read bytes (x ∷ y ∷ ys) a rest long positive back at =
      let cut : drop a bytes ≡ spell x (size x) ++ (chained spell size (y ∷ ys) ++ rest) = at ∙ append_assoc (spell x (size x)) (chained spell size (y ∷ ys)) rest in
      let here : read a ≡ Some (record { value = value x; is_whole = true; next = size x }) = back.0 a (size x) (chained spell size (y ∷ ys) ++ rest) (omega arith) cut in
      walked-more read (length (y ∷ ys)) a ∙ ap (on_step read (length (y ∷ ys)) a) here ∙ step_on read (length (y ∷ ys)) a (size x) (value x) (positive x)
      ∙ ap (λ l. record { value = value x; is_whole = true; next = size x } ∷ l)
      (walked-chained read bytes (y ∷ ys) (a + size x) rest long positive back.1 (drop-front bytes (spell x (size x)) (chained spell size (y ∷ ys) ++ rest) a (size x) (long x (size x)) cut))

  -- the whole chain, from the front of its bytes
  pub whole_chain-chained : (read : ℕ → Option (Step A)) (bytes : List ℕ) (xs : List X)
      → ((x : X) (n : ℕ) → length (spell x n) ≡ size x) → ((x : X) → 0 < size x) → AllByRecursion (ReadsBack read bytes) xs → bytes ≡ chained spell size xs
      → whole_chain read (length xs) ≡ Some (map value xs)
  unfolding whole_chain
  whole_chain-chained read bytes xs long positive back is =
      let met : chain_steps read (length xs) 0 ≡ steps_of xs = walked-chained read bytes xs 0 [] long positive back (is ∙ sym (append-nil (chained spell size xs))) in
      ap (λ (steps : List (Step A)). cond (is_whole_walk (length xs) steps) (Some (values_of steps)) None) met
      ∙ cond-true (is_whole_walk (length xs) (steps_of xs)) (Some (values_of (steps_of xs))) None (whole_steps xs)
      ∙ ap Some (values_of-steps xs)

  -- the bytes of the chain
  pub length-chained : (xs : List X) → ((x : X) (n : ℕ) → length (spell x n) ≡ size x) → length (chained spell size xs) ≡ sum_by size xs
  unfolding chained
  length-chained [] long = refl
  length-chained (x ∷ xs) long =
      length-append (spell x (next_behind xs (size x))) (chained spell size xs) ∙ omega (arith, long x (next_behind xs (size x)), length-chained xs long, sum_by-cons size x xs)
