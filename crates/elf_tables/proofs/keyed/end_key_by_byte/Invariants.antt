use Rattle.std.proofs.Common.{◌≡◌, reverse}
use Rattle.elf_tables.specs.EndKeys.{front_number}
use Rattle.elf_tables.proofs.keyed.end_key_by_byte.Given as goal

-- the number of the bytes so far
abbrev pub invariant-loop-back : goal.invariant-loop-back
invariant-loop-back l = l.key ≡ front_number l.back (reverse l.text)
