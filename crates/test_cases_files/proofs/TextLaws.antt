-- Bytes as texts, one after the other.
use Rattle.std.proofs.Common.{List, ℕ, [], ◌∷◌, ◌++◌, subst, sym}
use Rattle.std.proofs.lemmas.List.{append_assoc}
use Rattle.test_cases_files.specs.Words.{AreTextsOf, IsTextOf}

-- texts so far are those of all bytes, with any texts of what is left behind them
abbrev pub AreTextsSoFar : List (List ℕ) → List (List ℕ) → List (List ℕ) → Type 0
AreTextsSoFar all left texts = (rest : List (List ℕ)) → AreTextsOf left rest → AreTextsOf all (texts ++ rest)

-- with the text of the next bytes they are
pub next_text : (all left : List (List ℕ)) (bytes : List ℕ) (texts : List (List ℕ)) (text : List ℕ)
    → IsTextOf bytes text → AreTextsSoFar all (bytes ∷ left) texts → AreTextsSoFar all left (texts ++ text ∷ [])
next_text all left bytes texts text is so_far rest those =
    let P : List (List ℕ) → Type 0 = AreTextsOf all in
    subst P (sym (append_assoc texts (text ∷ []) rest)) (so_far (text ∷ rest) (is, those))
