use Rattle.std.proofs.Common.{◌≡◌, ◌++◌, length, take}
use Rattle.std.specs.List.{flat_map}
use Rattle.elf_hashes.specs.Steps.{walk}
use Rattle.elf_hashes.proofs.order.push_chains.Given as goal

abbrev pub invariant-loop-first : goal.invariant-loop-first
invariant-loop-first l =
    l.order.items ≡ l.initial.order.items ++ flat_map (walk l.chained.nexts.items (length l.chained.nexts.items)) (take l.first-index l.chained.firsts.items)
