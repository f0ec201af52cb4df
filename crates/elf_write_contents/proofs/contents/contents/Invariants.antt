-- There are as many contents as sections were looked at, and each is its section's.
use Rattle.std.proofs.Common.{◌≡◌, length}
use Rattle.patch_bytes.specs.ByteString.{bytes_of_each}
use Rattle.elf_write_contents.specs.ContentSteps.{AreBytesOf}
use Rattle.elf_write_contents.proofs.contents.contents.Given as goal

abbrev pub invariant-loop-i : goal.invariant-loop-i
invariant-loop-i l = record {
  long : length l.contents.items ≡ l.i;
  are : AreBytesOf l.image l.fn.plan l.made l.raw (bytes_of_each l.contents.items);
}
