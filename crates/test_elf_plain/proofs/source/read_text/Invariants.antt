use Rattle.std.proofs.Common.{◌≡◌, ◌+◌, ◌-◌}
use Rattle.patch_bytes.specs.Memory.{text_at}
use Rattle.test_elf_plain.specs.PlainViews.{source_model}
use Rattle.elf_format.proofs.ReadingSteps.{with_front}
use Rattle.test_elf_plain.proofs.source.read_text.Given as goal

-- the bytes so far, and the rest of the text
abbrev pub invariant-loop-i : goal.invariant-loop-i
invariant-loop-i l = with_front l.made.items (text_at (l.room - l.i) (source_model l.source) (l.place + l.i)) ≡ text_at l.room (source_model l.source) l.place
