-- An interpreter's bytes as they are stored.
use Rattle.std.proofs.Common.{◌≡◌, ℕ, ◌-◌, Bool, true, false, ◌||◌, List, [], ◌∷◌, ◌++◌, length, take, drop, sym, ap, subst, ◌∙◌, arith, length-append, length-drop}
use Rattle.std.specs.Prelude.{◌==◌, nat_eq}
use Rattle.std.specs.List.{ends_with}
use Rattle.std.proofs.lemmas.Bool.{cond-true, cond-false, eqb-false, eqb-true, or_parts}
use Rattle.std.proofs.lemmas.List.{take-append-drop, take_at}
use Rattle.std.proofs.lemmas.List.Folds.{list_any-append}
use lib.Pointwise.{pointwise}
use Rattle.elf_edits.specs.Abi.{with_nul}
use Rattle.elf_edits.specs.Edit.{all_but_last}
use Rattle.elf_edits.specs.Texts.{holds_nul}
use Rattle.elf_edits.proofs.ListLaws.{by_test}

-- one byte that isn't NUL
not_nul : (rest : List ℕ) → length rest ≡ 1 → pointwise nat_eq (0 ∷ []) rest ≡ false → holds_nul rest ≡ false
not_nul [] one h = absurd (omega arith)
not_nul (x ∷ []) one h = by_test (x == 0)
    (λ holds. let bad : true ≡ false = subst (λ (n : ℕ). pointwise nat_eq (0 ∷ []) (n ∷ []) ≡ false) (eqb-true x 0 holds) h in absurd (cc))
    (λ fails. ap (λ b. b || false) fails)
not_nul (x ∷ y ∷ rest) one h = absurd (omega arith)

both_none : (a b : Bool) → a ≡ false → b ≡ false → (a || b) ≡ false
both_none a b h k = ap (λ x. x || b) h ∙ k

-- a NUL stands last in them, or nowhere
pub stored_whole : (bytes : List ℕ) → holds_nul (all_but_last bytes) ≡ false → holds_nul (all_but_last (with_nul bytes)) ≡ false
stored_whole bytes whole = by_test (length bytes == 0 || ends_with nat_eq bytes (0 ∷ []))
    (λ holds. ap (λ (l : List ℕ). holds_nul (all_but_last l)) (cond-true (length bytes == 0 || ends_with nat_eq bytes (0 ∷ [])) bytes (bytes ++ 0 ∷ []) holds) ∙ whole)
    (λ fails.
    let parts = or_parts (length bytes == 0) (ends_with nat_eq bytes (0 ∷ [])) fails in
    let some : length bytes ≡ 0 → ⊥ = eqb-false (length bytes) 0 parts.0 in
    let front : List ℕ = take (length bytes - 1) bytes in
    let rest : List ℕ = drop (length bytes - 1) bytes in
    let one : length rest ≡ 1 = omega (arith, length-drop (length bytes - 1) bytes) in
    let cut : take (length (bytes ++ 0 ∷ []) - 1) (bytes ++ 0 ∷ []) ≡ bytes = take_at bytes (0 ∷ []) (length (bytes ++ 0 ∷ []) - 1) (omega (arith, length-append bytes (0 ∷ []))) in
    ap (λ (l : List ℕ). holds_nul (all_but_last l)) (cond-false (length bytes == 0 || ends_with nat_eq bytes (0 ∷ [])) bytes (bytes ++ 0 ∷ []) fails)
    ∙ ap holds_nul cut
    ∙ sym (ap holds_nul (take-append-drop (length bytes - 1) bytes))
    ∙ list_any-append (λ byte. byte == 0) front rest
    ∙ both_none (holds_nul front) (holds_nul rest) whole (not_nul rest one parts.1))
