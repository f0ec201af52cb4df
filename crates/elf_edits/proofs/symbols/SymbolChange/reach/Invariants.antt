use Rattle.std.proofs.Common.{◌≡◌, ◌≤◌, length}
use Rattle.elf_image_symbols.specs.Loan.{symbols_now}
use Rattle.elf_edits.specs.SymbolChanges.{changed_to}
use Rattle.elf_edits.proofs.symbols.SymbolChange.reach.Given as goal

-- the symbols from the end so far on, up to here, stay
abbrev pub invariant-loop-i : goal.invariant-loop-i
invariant-loop-i l =
    (l.first ≤ l.end) × (l.end ≤ l.i) × (l.i ≤ length (symbols_now l.symbols)) × (l.count ≤ l.i)
    × (changed_to l.self l.end (symbols_now l.symbols) ≡ changed_to l.self l.i (symbols_now l.symbols))
