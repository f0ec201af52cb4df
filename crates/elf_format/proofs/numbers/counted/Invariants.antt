use Rattle.std.proofs.Common.{◌≡◌}
use Rattle.elf_format.specs.Image.{counted}
use Rattle.elf_format.proofs.numbers.counted.Given as goal

abbrev pub invariant-loop-i : goal.invariant-loop-i
invariant-loop-i l = l.made.items ≡ counted l.i
