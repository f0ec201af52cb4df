use Rattle.std.proofs.Common.{◌≡◌, drop}
use Rattle.patch_bytes.specs.ByteString.{bytes_of_each}
use Rattle.patch_bytes.specs.Memory.{memory_of, text_at}
use Rattle.elf_format.specs.Options.{each}
use Rattle.elf_format.proofs.ForCallers.ReadingSteps.{with_front}
use Rattle.elf_image_versions.proofs.kept.kept_texts.Given as goal

-- what was made so far, and what the rest gives
abbrev pub invariant-loop-place : goal.invariant-loop-place
invariant-loop-place l =
    with_front (bytes_of_each l.made.items) (each (text_at l.room (memory_of l.texts)) (drop l.place-index l.places))
    ≡ each (text_at l.room (memory_of l.texts)) l.places
