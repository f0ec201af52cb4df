-- Steps of looking for the NUL of a text.
use Rattle.std.proofs.Common.{◌≡◌, ◌<◌, ◌≤◌, ◌+◌, ℕ, List, [], ◌∷◌, ◌++◌, length, take, drop, get_or, sym, ap, ◌∙◌}
use Rattle.std.proofs.lemmas.List.{append_assoc, append-nil, drop_all, drop_more, take_all, take_more}
use Rattle.std.proofs.lemmas.Bool.{ne_eqb}
use Rattle.std.specs.Prelude.{if◌then◌else◌}
use Rattle.arwen_elf.specs.Prints.{before_nul}

-- a byte that is no NUL
before_nul-cons : (b : ℕ) (bs : List ℕ) → (b ≡ 0 → ⊥) → before_nul (b ∷ bs) ≡ b ∷ before_nul bs
unfolding before_nul
before_nul-cons b bs nonzero = ap (λ t. if t then [] else b ∷ before_nul bs) (ne_eqb b 0 nonzero)

-- The loop has looked at the first bytes, none of which is the NUL.
module _ (xs : List ℕ) (i : ℕ) where
  pub nul_not_here : i < length xs → (get_or xs i 0 ≡ 0 → ⊥) → (whole : List ℕ) → take i xs ++ before_nul (drop i xs) ≡ whole → take (i + 1) xs ++ before_nul (drop (i + 1) xs) ≡ whole
  nul_not_here less nonzero whole so_far =
      let b : ℕ = get_or xs i 0 in
      let rest : List ℕ = drop (i + 1) xs in
      ap (λ l. l ++ before_nul rest) (take_more xs i 0 less)
      ∙ append_assoc (take i xs) (b ∷ []) (before_nul rest)
      ∙ sym (ap (λ l. take i xs ++ l) (ap before_nul (drop_more xs i 0 less) ∙ before_nul-cons b rest nonzero)) ∙ so_far

  pub nul_here : i < length xs → get_or xs i 0 ≡ 0 → (whole : List ℕ) → take i xs ++ before_nul (drop i xs) ≡ whole → take i xs ≡ whole
  unfolding before_nul
  nul_here less e whole so_far =
      sym (append-nil (take i xs)) ∙ sym (ap (λ l. take i xs ++ before_nul l) (drop_more xs i 0 less ∙ ap (λ c. c ∷ drop (i + 1) xs) e)) ∙ so_far

  pub no_nul : length xs ≤ i → (whole : List ℕ) → take i xs ++ before_nul (drop i xs) ≡ whole → xs ≡ whole
  unfolding before_nul
  no_nul past whole so_far =
      sym (append-nil xs) ∙ sym (ap (λ l. l ++ before_nul []) (take_all i xs past)) ∙ sym (ap (λ l. take i xs ++ before_nul l) (drop_all i xs past)) ∙ so_far
