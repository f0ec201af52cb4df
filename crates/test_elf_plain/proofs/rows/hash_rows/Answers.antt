-- Each row is computed.
use Rattle.std.proofs.Common.{refl}
use Rattle.test_elf_plain.proofs.Computing.{computing}
use Rattle.test_elf_plain.proofs.rows.hash_rows.Goals as goal

pub returns : goal.returns
unfolding computing
returns c = record { gnu_f = refl; gnu_g = refl; gnu_exit = refl; gnu_printf = refl; gnu_empty = refl; gabi_exit = refl; gabi_printf = refl; gabi_printfa = refl; gabi_empty = refl }
