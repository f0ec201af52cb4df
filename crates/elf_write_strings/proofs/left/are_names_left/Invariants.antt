use Rattle.std.proofs.Common.{◌≡◌, drop}
use Rattle.elf_image_symbols.specs.Loan.{numbers_now, symbols_now}
use Rattle.elf_layout_plan.specs.Texts.{texts_of_symbols}
use Rattle.elf_write_strings.specs.WrittenStrings.{are_texts_left}
use Rattle.elf_write_strings.proofs.left.are_names_left.Given as goal

-- what is left is as all
abbrev pub invariant-loop-i : goal.invariant-loop-i
invariant-loop-i l =
    are_texts_left (texts_of_symbols (symbols_now l.read)) (drop l.i (numbers_now l.now)) (drop l.i (texts_of_symbols (symbols_now l.now)))
    ≡ are_texts_left (texts_of_symbols (symbols_now l.read)) (numbers_now l.now) (texts_of_symbols (symbols_now l.now))
