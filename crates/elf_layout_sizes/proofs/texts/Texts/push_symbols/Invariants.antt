use Rattle.std.proofs.Common.{◌≡◌, ◌++◌, drop}
use Rattle.elf_image_symbols.specs.Loan.{symbols_now}
use Rattle.elf_layout_plan.specs.Texts.{texts_of_symbols}
use Rattle.elf_layout_sizes.proofs.texts.Texts.push_symbols.Given as goal

-- what is there so far, with the names that are left, is all of it
abbrev pub invariant-loop-i : goal.invariant-loop-i
invariant-loop-i l = l.self ++ texts_of_symbols (drop l.i (symbols_now l.symbols)) ≡ l.initial.self ++ texts_of_symbols (symbols_now l.symbols)
