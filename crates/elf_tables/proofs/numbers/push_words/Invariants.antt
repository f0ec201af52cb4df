use Rattle.std.proofs.Common.{◌≡◌, ◌++◌, take}
use Rattle.elf_tables.specs.Fields.{fields, words}
use Rattle.elf_tables.proofs.numbers.push_words.Given as goal

abbrev pub invariant-loop-number : goal.invariant-loop-number
invariant-loop-number l = l.bytes.items ≡ l.initial.bytes.items ++ fields l.order (words (take l.number-index l.numbers))
