use Rattle.std.proofs.Common.{◌∙◌, ◌<◌, List, ap, rules, subst, sym}
use Rattle.std.specs.List.{All}
use Rattle.std.specs.List.Sorted.{IsNonDecreasingBy}
use Rattle.std.proofs.lemmas.List.Sorted.{All-permutation, IsNonDecreasingBy-from_sort_by_key}
use Rattle.macho_signatures.specs.declared.blobs.Blob.{Blob}
use Rattle.macho_signatures.specs.Blobs.{some_overlap}
use Rattle.macho_signatures.proofs.OverlapLaws.{some_overlap-IsPermutation}
use Rattle.macho_signatures.proofs.blobs.some_overlap.Goals as goal

pub neighbours_overlap-requires-clause-filled : goal.neighbours_overlap-requires-clause-filled
neighbours_overlap-requires-clause-filled c =
    let P : List Blob → Type 0 = λ xs. All (λ b. 0 < b.size) xs in
    subst P (sym c.deref.ensures.value) (All-permutation (λ b. 0 < b.size) _ _ c.sort_unstable_by_key.ensures.permutation (subst P (sym c.in_ok-sorted.ensures.items) c.requires))

pub neighbours_overlap-requires-clause-rising : goal.neighbours_overlap-requires-clause-rising
neighbours_overlap-requires-clause-rising c =
    let P : List Blob → Type 0 = λ xs. IsNonDecreasingBy (λ a. a.offset) xs in
    subst P (sym c.deref.ensures.value) (IsNonDecreasingBy-from_sort_by_key (λ a. a.offset) _ c.sort_unstable_by_key.ensures.sorted (λ a r q k. search rules))

pub returns : goal.returns
returns c =
    c.neighbours_overlap.ensures ∙ ap some_overlap c.deref.ensures.value
    ∙ some_overlap-IsPermutation _ _ c.sort_unstable_by_key.ensures.permutation ∙ ap some_overlap c.in_ok-sorted.ensures.items
