-- What goes from a run path that shrinks is told.
use Rattle.std.proofs.Common.{◌≡◌, ℕ, not, List, [], ◌∷◌, map, filter, refl, sym, ap, ◌∙◌, Some, None}
use Rattle.std.specs.List.{filter_map, cons_option}
use Rattle.std.proofs.lemmas.Bool.{cond-true, cond-false}
use Rattle.elf_edits.specs.Shrunk.{Removal, Search, reason_of, stays}
use Rattle.elf_edits.specs.Texts.{directories_in}
use Rattle.elf_edits.proofs.ForCallers.{by_test, none_gone}
use Rattle.elf_edits_shrink.specs.Laws.{ShrinkingTells}
use Rattle.elf_edits_shrink.specs.ShrinkModel.{removal_if}

module _ (s : Search) where
  told : (ds : List (List ℕ)) → map (λ r. r.directory) (filter_map (removal_if s) ds) ≡ filter (λ d. not (stays s d)) ds
  told [] = refl
  told (d ∷ ds) = by_test (stays s d)
      (λ holds. ap (λ o. map (λ (r : Removal). r.directory) (cons_option o (filter_map (removal_if s) ds))) (cond-true (stays s d) None (Some (record { directory = d; reason = reason_of s d })) holds)
      ∙ told ds ∙ sym (cond-false (not (stays s d)) (d ∷ filter (λ e. not (stays s e)) ds) (filter (λ e. not (stays s e)) ds) (ap not holds)))
      (λ fails. ap (λ o. map (λ (r : Removal). r.directory) (cons_option o (filter_map (removal_if s) ds))) (cond-false (stays s d) None (Some (record { directory = d; reason = reason_of s d })) fails)
      ∙ ap (λ l. d ∷ l) (told ds) ∙ sym (cond-true (not (stays s d)) (d ∷ filter (λ e. not (stays s e)) ds) (filter (λ e. not (stays s e)) ds) (ap not fails)))

pub shrinking_tells : ShrinkingTells
shrinking_tells = record {
  told = λ s text. told s (directories_in text);
  none_gone = λ s text none. none_gone s text none;
}
