use Rattle.std.proofs.Common.{◌≡◌, take}
use Rattle.elf_image_symbols.specs.Loan.{symbols_now}
use Rattle.elf_hashes.specs.Found.{in_order}
use Rattle.elf_hashes.specs.Versions.{versions_of}
use Rattle.elf_hashes.proofs.versions.versions.Given as goal

abbrev pub invariant-loop-i : goal.invariant-loop-i
invariant-loop-i l = l.ids.items ≡ versions_of (in_order (symbols_now l.symbols) (take l.i-index l.order))
