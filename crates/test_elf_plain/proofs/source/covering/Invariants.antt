use Rattle.std.proofs.Common.{◌≡◌, drop}
use Rattle.std.specs.Prelude.{find}
use Rattle.elf_format.specs.File.{loads_of}
use Rattle.elf_format.specs.Views.{covers}
use Rattle.test_elf_plain.proofs.source.covering.Given as goal

-- no segment so far is loaded and covers the address
abbrev pub invariant-loop-p : goal.invariant-loop-p
invariant-loop-p l = find (λ q. covers q l.address) (loads_of (drop l.p-index l.segments)) ≡ find (λ q. covers q l.address) (loads_of l.segments)
