-- The steps of a search among records that stand end to end.
use Rattle.std.proofs.Common.{◌≡◌, ◌≤◌, ◌<◌, ℕ, suc, ◌-◌, ◌/◌, List, length, take, drop, sym, ap, ◌∙◌, Bool, true, false, add-one}
use Rattle.std.specs.Prelude.{◌||◌}
use Rattle.std.specs.List.{list_any}
use Rattle.std.proofs.Math.Nat.{div-eq-sub-div, div-eq_of_lt}
use Rattle.std.proofs.lemmas.List.{length-drop}
use Rattle.elf_format.specs.Form.{records}

-- one record fewer lies whole in the rest
one_fewer : (size : ℕ) (rest : List ℕ) → 0 < size → size ≤ length rest → length rest / size ≡ suc (length (drop size rest) / size)
one_fewer size rest pos fits = div-eq-sub-div pos fits ∙ add-one ((length rest - size) / size) ∙ ap (λ n. suc (n / size)) (sym (length-drop size rest))

module _ {A : Type 0} (test : A → Bool) (decode : List ℕ → A) (size : ℕ) where
  -- some record that lies whole in the rest passes
  abbrev pub any_record : List ℕ → Bool
  any_record rest = list_any test (records decode size (length rest / size) rest)

  first_record : (n m : ℕ) (rest head : List ℕ) (answer : Bool) → n ≡ suc m → head ≡ take size rest → answer ≡ test (decode head)
      → list_any test (records decode size n rest) ≡ (answer || list_any test (records decode size m (drop size rest)))
  unfolding records
  first_record n m rest head answer e front is =
      ap (λ k. list_any test (records decode size k rest)) e
      ∙ ap (λ b. b || list_any test (records decode size m (drop size rest))) (sym (ap (λ r. test (decode r)) front) ∙ sym is)

  here : (rest head : List ℕ) (answer : Bool) → 0 < size → size ≤ length rest → head ≡ take size rest → answer ≡ test (decode head)
      → any_record rest ≡ (answer || any_record (drop size rest))
  here rest head answer pos fits front is = first_record (length rest / size) (length (drop size rest) / size) rest head answer (one_fewer size rest pos fits) front is

  pub record_goes : (rest head after : List ℕ) (answer whole : Bool) → 0 < size → size ≤ length rest → head ≡ take size rest → after ≡ drop size rest
      → answer ≡ test (decode head) → answer ≡ false → any_record rest ≡ whole → any_record after ≡ whole
  record_goes rest head after answer whole pos fits front back is fails so_far =
      ap any_record back ∙ sym (ap (λ b. b || any_record (drop size rest)) fails) ∙ sym (here rest head answer pos fits front is) ∙ so_far

  pub record_ends : (rest head : List ℕ) (answer whole : Bool) → 0 < size → size ≤ length rest → head ≡ take size rest
      → answer ≡ test (decode head) → answer ≡ true → any_record rest ≡ whole → true ≡ whole
  record_ends rest head answer whole pos fits front is holds so_far =
      sym (ap (λ b. b || any_record (drop size rest)) holds) ∙ sym (here rest head answer pos fits front is) ∙ so_far

  no_record : (n : ℕ) (rest : List ℕ) → n ≡ 0 → list_any test (records decode size n rest) ≡ false
  unfolding records
  no_record n rest e = ap (λ k. list_any test (records decode size k rest)) e

  pub record_done : (rest : List ℕ) (whole : Bool) → length rest < size → any_record rest ≡ whole → false ≡ whole
  record_done rest whole short so_far = sym (no_record (length rest / size) rest (div-eq_of_lt short)) ∙ so_far
