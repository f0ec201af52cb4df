use Rattle.std.proofs.Common.{◌≡◌, drop}
use Rattle.std.specs.Prelude.{fold}
use Rattle.elf_image.specs.FrontText.{front_text}
use Rattle.elf_tables.proofs.HashSteps.{gnu_step}
use Rattle.elf_tables.proofs.hash.gnu_hash_of_front.Given as goal

abbrev pub invariant-loop-byte : goal.invariant-loop-byte
invariant-loop-byte l = fold gnu_step l.hash (front_text (drop l.byte-index l.bytes)) ≡ fold gnu_step 5381 (front_text l.bytes)
