use Rattle.std.proofs.Common.{◌≡◌, length}
use Rattle.elf_write_symbols.proofs.NumberFacts.{AreNumberedTo, dynamic_olds}
use Rattle.elf_write_symbols.proofs.numbers.number_dynamic.Given as goal

-- the symbols so far have their numbers
abbrev pub invariant-loop-i : goal.invariant-loop-i
invariant-loop-i l = (length l.numbers ≡ length l.read.dynamic_symbols) × AreNumberedTo (dynamic_olds l.read l.image) l.i l.numbers
