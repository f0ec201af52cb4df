-- Each row is computed.
use Rattle.std.proofs.Common.{refl}
use Rattle.elf_format.specs.Hashes.{gabi_hash, gnu_hash}
use Rattle.elf_tables.proofs.rows.hash_rows.Goals as goal

pub returns : goal.returns
unfolding gabi_hash gnu_hash
returns c = record {
  gabi_empty = refl;
  gabi_short = refl;
  gabi_turned = refl;
  gabi_version = refl;
  gabi_high = refl;
  gnu_empty = refl;
  gnu_short = refl;
  gnu_turned = refl;
  gnu_longer = refl;
}
