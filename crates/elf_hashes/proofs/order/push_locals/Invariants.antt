use Rattle.std.proofs.Common.{◌≡◌, ◌++◌, drop}
use Rattle.elf_image_symbols.specs.Loan.{symbols_now}
use Rattle.elf_hashes.specs.Found.{is_local}
use Rattle.elf_hashes.specs.Order.{places_where}
use Rattle.elf_hashes.proofs.order.push_locals.Given as goal

abbrev pub invariant-loop-i : goal.invariant-loop-i
invariant-loop-i l = l.order.items ++ places_where is_local l.i (drop l.i (symbols_now l.symbols)) ≡ l.initial.order.items ++ places_where is_local 1 (drop 1 (symbols_now l.symbols))
