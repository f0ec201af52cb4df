use Rattle.std.proofs.Common.{◌≡◌, ◌<◌, ◌^◌, take}
use Rattle.patch_bytes.specs.Number.{high_first_value}
use Rattle.elf_format.proofs.numbers.high_by_byte.Given as goal

abbrev pub invariant-loop-byte : goal.invariant-loop-byte
invariant-loop-byte l = record {
  value : l.number ≡ high_first_value (take l.byte-index l.bytes);
  bound : l.number < 256 ^ l.byte-index;
}
