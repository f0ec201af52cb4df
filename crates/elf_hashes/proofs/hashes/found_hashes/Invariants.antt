use Rattle.std.proofs.Common.{◌≡◌, map, take}
use Rattle.std.specs.Prelude.{option_map}
use Rattle.elf_image_symbols.specs.Loan.{symbols_now}
use Rattle.elf_hashes.specs.Found.{found_name}
use Rattle.elf_hashes.specs.Steps.{hash_by}
use Rattle.elf_hashes.proofs.hashes.found_hashes.Given as goal

abbrev pub invariant-loop-i : goal.invariant-loop-i
invariant-loop-i l = l.hashes.items ≡ take l.i (map (λ y. option_map (hash_by l.hashing) (found_name y)) (symbols_now l.symbols))
