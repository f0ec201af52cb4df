use Rattle.std.proofs.Common.{◌∙◌, rules}
use Rattle.std.proofs.lemmas.List.Sorted.{IsNonDecreasingBy-from_sort_by_key}
use Rattle.elf_image_placement.proofs.PlacementSteps.{sorted_apart}
use Rattle.elf_image_placement.proofs.placement.all_apart.Goals as goal

pub returns : goal.returns
returns c = record {
  value = c.neighbours_apart.ensures
      ∙ sorted_apart c.args.ranges.now c.sort_unstable_by_key.new.self c.sort_unstable_by_key.ensures.permutation
      (IsNonDecreasingBy-from_sort_by_key (λ e. e.start) _ c.sort_unstable_by_key.ensures.sorted (λ a r q k. search rules));
}
