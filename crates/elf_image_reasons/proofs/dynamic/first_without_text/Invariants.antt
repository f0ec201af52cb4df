use Rattle.std.proofs.Common.{◌≡◌, drop}
use Rattle.patch_bytes.specs.Memory.{memory_of}
use Rattle.elf_image_reasons.specs.Details.{without_text}
use Rattle.elf_image_reasons.proofs.dynamic.first_without_text.Given as goal

abbrev pub invariant-loop-entry : goal.invariant-loop-entry
invariant-loop-entry l = without_text l.room (memory_of l.texts) (drop l.entry-index l.raw) ≡ without_text l.room (memory_of l.texts) l.raw
