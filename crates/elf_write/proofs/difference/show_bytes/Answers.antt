use Rattle.std.proofs.Common.{arith}
use Rattle.elf_write.proofs.difference.show_bytes.Goals as goal

pub returns : goal.returns
returns c = record { each = λ i. omega (arith, c.type_inv.source i) }
