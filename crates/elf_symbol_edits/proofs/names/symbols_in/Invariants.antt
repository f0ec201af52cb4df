use Rattle.std.proofs.Common.{◌≡◌, ◌++◌, drop, map}
use Rattle.std.specs.Prelude.{◌&&◌, ◌==◌, filter, not}
use Rattle.std.specs.HashSet.{keys}
use Rattle.std.specs.List.{zip}
use Rattle.elf_edits.specs.Changes.{has_name}
use Rattle.elf_image_symbols.specs.Loan.{numbers_now, symbols_now}
use Rattle.elf_symbol_edits.specs.Named.{numbers_passing, symbol_name}
use Rattle.elf_symbol_edits.proofs.names.symbols_in.Given as goal

-- the symbols so far, and those of what is left
abbrev pub invariant-loop-i : goal.invariant-loop-i
invariant-loop-i l =
    l.made.items ++ map (λ x. x.0) (filter (λ x. not (x.0 == 0) && has_name (keys l.names) (symbol_name x.1)) (drop l.i (zip (numbers_now l.symbols) (symbols_now l.symbols))))
    ≡ numbers_passing (λ y. has_name (keys l.names) (symbol_name y)) (numbers_now l.symbols) (symbols_now l.symbols)
