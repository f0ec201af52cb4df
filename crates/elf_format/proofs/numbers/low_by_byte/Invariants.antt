use Rattle.std.proofs.Common.{◌≡◌, ◌<◌, ◌-◌, ◌^◌, drop, length}
use Rattle.patch_bytes.specs.Number.{low_first_value}
use Rattle.elf_format.proofs.numbers.low_by_byte.Given as goal

abbrev pub invariant-loop-i : goal.invariant-loop-i
invariant-loop-i l = record {
  value : l.number ≡ low_first_value (drop (length l.bytes - l.i) l.bytes);
  bound : l.number < 256 ^ l.i;
}
