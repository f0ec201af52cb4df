use Rattle.std.proofs.Common.{◌≡◌, ◌++◌, map, take}
use Rattle.elf_tables.specs.Fields.{fields}
use Rattle.elf_tables.specs.Spelled.{class_word}
use Rattle.elf_hashes.proofs.filter.push_class_words.Given as goal

abbrev pub invariant-loop-number : goal.invariant-loop-number
invariant-loop-number l = l.bytes.items ≡ l.initial.bytes.items ++ fields l.form.order (map (class_word l.form) (take l.number-index l.numbers))
