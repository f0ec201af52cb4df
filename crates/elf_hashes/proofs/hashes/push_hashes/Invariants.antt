use Rattle.std.proofs.Common.{◌≡◌, ◌++◌, take}
use Rattle.std.specs.Prelude.{slice_get}
use Rattle.std.specs.List.{filter_map}
use Rattle.elf_hashes.proofs.hashes.push_hashes.Given as goal

abbrev pub invariant-loop-i : goal.invariant-loop-i
invariant-loop-i l = l.hashes.items ≡ l.initial.hashes.items ++ filter_map (λ i. slice_get l.found i) (take l.i-index l.order)
