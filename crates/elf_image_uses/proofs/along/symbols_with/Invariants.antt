use Rattle.std.proofs.Common.{◌≡◌, ◌++◌, drop, map}
use Rattle.std.specs.Prelude.{filter}
use Rattle.std.specs.List.{zip}
use Rattle.elf_image_uses.specs.Steps.{goes_with, numbers_with}
use Rattle.elf_image_uses.proofs.along.symbols_with.Given as goal

-- the symbols so far, and those of what is left
abbrev pub invariant-loop-i : goal.invariant-loop-i
invariant-loop-i l =
    l.made.items ++ map (λ x. x.0) (filter (λ x. goes_with l.table l.gone x.0 x.1) (drop l.i (zip l.image.symbol_numbers l.image.symbols)))
    ≡ numbers_with l.table l.gone l.image
