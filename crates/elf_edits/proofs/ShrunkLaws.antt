-- A run path that shrinks: where no directory goes, it is as it was.
use Rattle.std.proofs.Common.{◌≡◌, ℕ, List, [], ◌∷◌, filter, refl, sym, ap, ◌∙◌, Option, Some, None}
use Rattle.std.specs.Prelude.{if◌then◌else◌}
use Rattle.std.specs.List.{filter_map, cons_option}
use Rattle.std.proofs.lemmas.Bool.{cond-true, cond-false}
use Rattle.std.proofs.lemmas.List.Splits.{join_with_byte-slice_split}
use Rattle.elf_edits.specs.declared.constants.TheConstants.{COLON}
use Rattle.elf_edits.specs.Shrunk.{Removal, Search, reason_of, removed_from, shrunk_text, stays}
use Rattle.elf_edits.specs.Texts.{directories_in, joined_by_colons}
use Rattle.elf_edits.proofs.ListLaws.{by_test}

module _ (s : Search) where
  going : List ℕ → Option Removal
  going directory = if stays s directory then None else Some (record { directory = directory; reason = reason_of s directory })

  all_stay : (ds : List (List ℕ)) → filter_map going ds ≡ [] → filter (stays s) ds ≡ ds
  unfolding going
  all_stay [] none = refl
  all_stay (d ∷ ds) none = by_test (stays s d)
      (λ holds. cond-true (stays s d) (d ∷ filter (stays s) ds) (filter (stays s) ds) holds
      ∙ ap (λ l. d ∷ l) (all_stay ds (sym (ap (λ o. cons_option o (filter_map going ds)) (cond-true (stays s d) None (Some (record { directory = d; reason = reason_of s d })) holds)) ∙ none)))
      (λ fails.
      let some : record { directory = d; reason = reason_of s d } ∷ filter_map going ds ≡ [] = sym (ap (λ o. cons_option o (filter_map going ds)) (cond-false (stays s d) None (Some (record { directory = d; reason = reason_of s d })) fails)) ∙ none in
      cc)

  pub none_gone : (text : List ℕ) → removed_from s text ≡ [] → shrunk_text s text ≡ text
  unfolding going
  none_gone text none = ap joined_by_colons (all_stay (directories_in text) none) ∙ join_with_byte-slice_split COLON text
