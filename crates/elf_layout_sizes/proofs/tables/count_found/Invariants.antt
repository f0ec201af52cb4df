use Rattle.std.proofs.Common.{◌≡◌, ◌+◌, ◌≤◌, drop}
use Rattle.std.specs.Prelude.{count_by}
use Rattle.elf_image_symbols.specs.Loan.{symbols_now}
use Rattle.elf_layout_plan.specs.Sizes.{is_found}
use Rattle.elf_layout_sizes.proofs.tables.count_found.Given as goal

-- the symbols so far and those of what is left
abbrev pub invariant-loop-i : goal.invariant-loop-i
invariant-loop-i l =
    (l.count ≤ l.i)
    × (l.count + count_by is_found (drop l.i (symbols_now l.symbols)) ≡ count_by is_found (drop 1 (symbols_now l.symbols)))
