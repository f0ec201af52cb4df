use Rattle.std.proofs.Common.{◌≡◌, take}
use Rattle.elf_image_symbols.specs.Loan.{symbols_now}
use Rattle.elf_write_spec.specs.Headers.{behind_locals as behind_all}
use Rattle.elf_write_contents.proofs.headers.behind_locals.Given as goal

-- one past the last local one of the symbols so far
abbrev pub invariant-loop-i : goal.invariant-loop-i
invariant-loop-i l = l.behind ≡ behind_all (take l.i (symbols_now l.symbols))
