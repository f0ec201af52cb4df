use Rattle.std.proofs.Common.{rules}
use Rattle.std.proofs.lemmas.List.Sorted.{IsNonDecreasingBy-from_sort_by_key}
use Rattle.elf_image_placement.proofs.PlacementHeld.{loads_in_turn}
use Rattle.elf_image_placement.proofs.placement.loads_by_offset.Goals as goal

pub returns : goal.returns
returns c =
    loads_in_turn c.args.segments.now c.in_ok-loads.loads.items c.sort_unstable_by_key.new.self.items c.requires c.in_ok-loads.ensures c.sort_unstable_by_key.ensures.permutation
    (IsNonDecreasingBy-from_sort_by_key (λ p. p.p_offset) _ c.sort_unstable_by_key.ensures.sorted (λ a r q k. search rules))
