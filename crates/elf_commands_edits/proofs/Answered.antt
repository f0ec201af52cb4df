-- Answers that are given one after another.
use Rattle.std.proofs.Common.{◌≡◌, ◌∙◌, ℕ, zero, suc, ◌+◌, ◌<◌, All, List, [], ◌∷◌, ◌++◌, length, take, get_or, map, sym, ap, subst, arith, Bor}
use Rattle.std.proofs.lemmas.List.{map-append, take_more}
use Rattle.std.proofs.lemmas.List.Elements.{All-append}
use Rattle.elf_edits.specs.Edit.{Answer}
use Rattle.elf_edits_shrink.specs.ShrinkModel.{answer_model, pair_lent}
use Rattle.elf_edits_shrink.specs.declared.probe.ProbeAnswer.{ProbeAnswer}
use Rattle.command_words.specs.Rows.{Text}
use Rattle.elf_commands_edits.specs.Shrinking.{asked_of}

all_of_one : {A : Type 0} (P : A → Type 0) (x : A) → P x → All P (x ∷ [])
all_of_one P x holds zero d less = holds
all_of_one P x holds (suc k) d less = absurd (omega (arith, less))

module _ (pairs : List (Bor Text × Bor Text)) (i : ℕ) (pair : Bor Text × Bor Text) (given made : List ProbeAnswer) (answer : ProbeAnswer) (pushed : made ≡ given ++ answer ∷ []) where
  all_made : map answer_model made ≡ map answer_model given ++ answer_model answer ∷ []
  all_made = ap (λ (l : List ProbeAnswer). map answer_model l) pushed ∙ map-append answer_model given (answer ∷ [])

  -- the answers are for one more pair
  pub asked_more : i < length pairs → pair ≡ get_or pairs i pair → map asked_of (map answer_model given) ≡ map pair_lent (take i pairs) → asked_of (answer_model answer) ≡ pair_lent pair
      → map asked_of (map answer_model made) ≡ map pair_lent (take (i + 1) pairs)
  asked_more here is so_far asked =
      ap (λ (l : List Answer). map asked_of l) all_made
      ∙ map-append asked_of (map answer_model given) (answer_model answer ∷ [])
      ∙ ap (λ (l : List (Text × Text)). l ++ asked_of (answer_model answer) ∷ []) so_far
      ∙ ap (λ (p : Text × Text). map pair_lent (take i pairs) ++ p ∷ []) asked
      ∙ sym (ap (λ (l : List (Bor Text × Bor Text)). map pair_lent l) (take_more pairs i pair here ∙ ap (λ (p : Bor Text × Bor Text). take i pairs ++ p ∷ []) (sym is))
      ∙ map-append pair_lent (take i pairs) (pair ∷ []))

  -- each answer is one that may be found
  pub found_more : (P : Answer → Type 0) → All P (map answer_model given) → P (answer_model answer) → All P (map answer_model made)
  found_more P so_far found = subst (All P) (sym all_made) (All-append P (map answer_model given) (answer_model answer ∷ []) so_far (all_of_one P (answer_model answer) found))
