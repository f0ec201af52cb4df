use Rattle.std.proofs.Common.{◌≡◌, ◌++◌, ◌≤◌, drop, take}
use Rattle.elf_edits.specs.SymbolChanges.{changed_symbol}
use Rattle.elf_edits.specs.Symbols.{behind_first}
use Rattle.elf_edits.proofs.symbols.SymbolChange.apply_between.Given as goal

-- the symbols so far have changed, the others are as they were
abbrev pub invariant-loop-i : goal.invariant-loop-i
invariant-loop-i l =
    (l.first ≤ l.i) × (l.i ≤ l.end)
    × (l.edited ≡ record l.initial.edited {
      symbols = take l.i (behind_first (changed_symbol l.self) l.initial.edited.symbols) ++ drop l.i l.initial.edited.symbols;
    })
