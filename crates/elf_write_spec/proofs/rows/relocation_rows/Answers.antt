-- Each row is computed.
use Rattle.std.proofs.Common.{refl}
use Rattle.patch_bytes.specs.Number.{number_at}
use Rattle.elf_format.specs.Form.{records}
use Rattle.elf_format.specs.Records.{relocation}
use Rattle.elf_write_spec.proofs.rows.relocation_rows.Goals as goal

pub returns : goal.returns
unfolding number_at records relocation
returns c = record {
  wide = record { before = refl; after = refl; below = refl; past = refl; fits = refl };
  narrow = record { before = refl; after = refl; largest = refl; overflow = refl; unnamed = refl };
}
