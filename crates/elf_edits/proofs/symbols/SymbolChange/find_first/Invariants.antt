use Rattle.std.proofs.Common.{◌≡◌, ◌≤◌, drop}
use Rattle.std.specs.List.{list_any}
use Rattle.elf_image_symbols.specs.Loan.{symbols_now}
use Rattle.elf_edits.specs.SymbolChanges.{changed_to, is_changed}
use Rattle.elf_edits.proofs.symbols.SymbolChange.find_first.Given as goal

-- the change is about no symbol so far
abbrev pub invariant-loop-i : goal.invariant-loop-i
invariant-loop-i l =
    (1 ≤ l.i)
    × (list_any (is_changed l.self) (drop l.i (symbols_now l.symbols)) ≡ list_any (is_changed l.self) (drop 1 (symbols_now l.symbols)))
    × (changed_to l.self l.i (symbols_now l.symbols) ≡ symbols_now l.symbols)
