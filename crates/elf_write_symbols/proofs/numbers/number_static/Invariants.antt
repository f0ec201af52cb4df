use Rattle.std.proofs.Common.{◌≡◌, length}
use Rattle.elf_write_symbols.proofs.NumberFacts.{AreNumberedTo}
use Rattle.elf_write_symbols.proofs.numbers.number_static.Given as goal

-- the symbols so far have their numbers
abbrev pub invariant-loop-i : goal.invariant-loop-i
invariant-loop-i l = (length l.numbers ≡ length l.read.symbols) × AreNumberedTo l.image.symbol_numbers l.i l.numbers
