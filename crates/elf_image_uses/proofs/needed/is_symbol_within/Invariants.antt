use Rattle.std.proofs.Common.{◌≡◌}
use Rattle.std.specs.List.{list_any}
use Rattle.elf_format.specs.Options.{is_one_of}
use Rattle.elf_image.specs.Loan.{symbols_now}
use Rattle.elf_image_uses.proofs.ListSteps.{any_from}
use Rattle.elf_image_uses.proofs.needed.is_symbol_within.Given as goal

-- none of the symbols so far is defined in a section that goes
abbrev pub invariant-loop-i : goal.invariant-loop-i
invariant-loop-i l = any_from (λ y. is_one_of l.gone y.st_shndx) (symbols_now l.symbols) l.i ≡ list_any (λ y. is_one_of l.gone y.st_shndx) (symbols_now l.symbols)
