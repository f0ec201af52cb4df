-- There are as many hashes as symbols.
use Rattle.std.proofs.Common.{arith}
use Rattle.elf_format.specs.Hashes.{gabi_hash}
use Rattle.elf_image_symbols.specs.Loan.{symbols_now}
use Rattle.elf_hashes.proofs.HashSteps.{length-made}
use Rattle.elf_hashes.proofs.gabi.build_hash.Goals as goal

pub gabi_table-requires-clause-fits : goal.gabi_table-requires-clause-fits
gabi_table-requires-clause-fits c =
    omega (arith, c.as_slice.ensures.len, c.if-order.false, length-made gabi_hash (symbols_now c.args.symbols) c.args.order.now c.in_ok-hashes.hashes.items c.requires.places c.in_ok-hashes.ensures)
