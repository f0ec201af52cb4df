use Rattle.std.proofs.Common.{◌≡◌, ◌++◌, codes, map}
use Rattle.elf_edits.specs.Edit.{ClearSymbolVersion}
use Rattle.arwen_cli_patchelf.specs.OptionEdits.{by, planned_model}
use Rattle.arwen_cli_patchelf.proofs.option_edits.put_cleared.Given as goal

-- the edits of the symbols so far
abbrev pub invariant-loop-name : goal.invariant-loop-name
invariant-loop-name l = map planned_model l.planned.items
    ≡ map planned_model l.initial.planned.items ++ map (λ value. by (codes "--clear-symbol-version") (ClearSymbolVersion value)) (map (λ value. value.items) l.yielded)
