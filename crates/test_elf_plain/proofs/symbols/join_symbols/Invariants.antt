use Rattle.std.proofs.Common.{◌≡◌, ◌++◌, drop, map}
use Rattle.test_elf_plain.specs.PlainViews.{symbol_model, text_model}
use Rattle.elf_format.specs.Views.{named_symbols}
use Rattle.test_elf_plain.proofs.symbols.join_symbols.Given as goal

-- what was put together so far, and the rest
abbrev pub invariant-loop-i : goal.invariant-loop-i
invariant-loop-i l =
    map symbol_model l.made.items ++ named_symbols (drop l.i l.symbols) (drop l.i (map text_model l.names)) (drop l.i l.versions)
    ≡ named_symbols l.symbols (map text_model l.names) l.versions
