use Rattle.std.proofs.Common.{◌≡◌, ◌<◌, ◌-◌, ◌++◌, length}
use Rattle.elf_hashes.specs.Steps.{walk}
use Rattle.elf_hashes.proofs.order.push_chain.Given as goal

abbrev pub invariant-loop : goal.invariant-loop
invariant-loop l = record {
  inside : l.symbol < length l.nexts;
  rest : l.order.items ++ walk l.nexts (length l.nexts - l.counter) l.symbol ≡ l.initial.order.items ++ walk l.nexts (length l.nexts) l.first;
}
