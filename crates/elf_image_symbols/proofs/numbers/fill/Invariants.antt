use Rattle.std.proofs.Common.{◌≡◌, vec_capacity}
use Rattle.elf_format.specs.Image.{counted}
use Rattle.elf_image_symbols.proofs.numbers.fill.Given as goal

abbrev pub invariant-loop-number : goal.invariant-loop-number
invariant-loop-number l = record {
  listed : l.numbers.items ≡ counted l.number;
  room : vec_capacity l.numbers ≡ vec_capacity l.fn.numbers;
}
