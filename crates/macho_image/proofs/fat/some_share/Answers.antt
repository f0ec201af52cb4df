use Rattle.std.proofs.Common.{◌∙◌, ◌<◌, List, ap, rules, subst, sym}
use Rattle.std.specs.List.{All}
use Rattle.std.specs.List.Sorted.{IsNonDecreasingBy}
use Rattle.std.proofs.lemmas.List.Sorted.{IsNonDecreasingBy-from_sort_by_key}
use Rattle.macho_image.specs.declared.fat.FatArch.{FatArch}
use Rattle.macho_image.specs.Fat.{some_share}
use Rattle.macho_image.proofs.FatSteps.{filled_after, some_share-after}
use Rattle.macho_image.proofs.fat.some_share.Goals as goal

pub neighbours_share-requires-clause-filled : goal.neighbours_share-requires-clause-filled
neighbours_share-requires-clause-filled c =
    let P : List FatArch → Type 0 = λ xs. All (λ a. 0 < a.size) xs in
    subst P (sym c.deref.ensures.value) (filled_after c.args.archs.now _ _ c.in_ok-slices.ensures c.sort_unstable_by_key.ensures.permutation)

pub neighbours_share-requires-clause-rising : goal.neighbours_share-requires-clause-rising
neighbours_share-requires-clause-rising c =
    let P : List FatArch → Type 0 = λ xs. IsNonDecreasingBy (λ a. a.offset) xs in
    subst P (sym c.deref.ensures.value) (IsNonDecreasingBy-from_sort_by_key (λ a. a.offset) _ c.sort_unstable_by_key.ensures.sorted (λ a r q k. search rules))

pub returns : goal.returns
returns c =
    c.neighbours_share.ensures ∙ ap some_share c.deref.ensures.value ∙ some_share-after c.args.archs.now _ _ c.in_ok-slices.ensures c.sort_unstable_by_key.ensures.permutation
