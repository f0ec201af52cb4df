use Rattle.std.proofs.Common.{◌≡◌, length}
use Rattle.std.specs.Prelude.{◌||◌, nat_le, nat_lt}
use Rattle.elf_format.specs.Records.{symbol_numbers}
use Rattle.elf_image_rules.proofs.KindSteps.{all_pass}
use Rattle.elf_image_rules.proofs.kind.no_index_within.Given as goal

-- the symbols so far pass, so the rest decides
abbrev pub invariant-loop-rest : goal.invariant-loop-rest
invariant-loop-rest l =
    all_pass (λ y. nat_lt y.st_shndx l.low || nat_le l.high y.st_shndx) (symbol_numbers l.form) l.size l.rest
    ≡ all_pass (λ y. nat_lt y.st_shndx l.low || nat_le l.high y.st_shndx) (symbol_numbers l.form) l.size l.bytes

abbrev pub decreases-loop-rest : goal.decreases-loop-rest
decreases-loop-rest l = length l.rest
