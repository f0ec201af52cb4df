use Rattle.std.proofs.Common.{◌≡◌, drop}
use Rattle.std.specs.Prelude.{fold}
use Rattle.elf_format.specs.Hashes.{gabi_step}
use Rattle.elf_image.specs.FrontText.{front_text}
use Rattle.elf_tables.proofs.hash.sysv_hash_of_front.Given as goal

abbrev pub invariant-loop-byte : goal.invariant-loop-byte
invariant-loop-byte l = fold gabi_step l.hash (front_text (drop l.byte-index l.bytes)) ≡ fold gabi_step 0 (front_text l.bytes)
