use Rattle.std.proofs.Common.{List, subst, ℕ}
use Rattle.std.specs.List.Sorted.{IsPermutation}
use Rattle.std.proofs.lemmas.List.Sorted.{IsNonDecreasingBy-from_sort}
use Rattle.elf_image_placement.proofs.placement.sorted_file_ends.Goals as goal

pub returns : goal.returns
returns c =
    let sorted : List ℕ = c.sort_unstable.new.self.items in
    record {
      in_order = IsNonDecreasingBy-from_sort (λ e. e) sorted c.sort_unstable.ensures.sorted;
      same = subst (λ es. IsPermutation es sorted) c.in_ok-ends.ensures c.sort_unstable.ensures.permutation;
    }
