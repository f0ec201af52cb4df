use Rattle.std.proofs.Common.{◌≡◌, filter, vec_capacity}
use Rattle.elf_format.specs.Image.{counted}
use Rattle.elf_image_symbols.specs.EditedList.{stays}
use Rattle.elf_image_symbols.proofs.numbers.fill_others.Given as goal

abbrev pub invariant-loop-number : goal.invariant-loop-number
invariant-loop-number l = record {
  listed : l.numbers.items ≡ filter (stays l.gone) (counted l.number);
  room : vec_capacity l.numbers ≡ vec_capacity l.fn.numbers;
}
