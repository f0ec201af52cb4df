use Rattle.std.proofs.Common.{◌≡◌, ◌+◌, ◌-◌}
use Rattle.patch_bytes.specs.Memory.{bytes_at}
use Rattle.test_elf_plain.specs.PlainViews.{source_model}
use Rattle.elf_format.proofs.ReadingSteps.{with_front}
use Rattle.test_elf_plain.proofs.source.read_bytes.Given as goal

-- the bytes so far, and those of the rest
abbrev pub invariant-loop-i : goal.invariant-loop-i
invariant-loop-i l = with_front l.made.items (bytes_at (l.count - l.i) (source_model l.source) (l.place + l.i)) ≡ bytes_at l.count (source_model l.source) l.place
