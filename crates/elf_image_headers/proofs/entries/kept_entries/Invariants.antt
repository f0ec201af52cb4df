use Rattle.std.proofs.Common.{◌≡◌, drop, map}
use Rattle.elf_format.specs.Memory.{memory_of}
use Rattle.elf_format.specs.Options.{each}
use Rattle.elf_format.specs.Dynamic.{shown_entry}
use Rattle.elf_image_headers.specs.PartModels.{entry_model}
use Rattle.elf_format.proofs.ForCallers.ReadingSteps.{with_front}
use Rattle.elf_image_headers.proofs.entries.kept_entries.Given as goal

-- what was made so far, and what the rest gives
abbrev pub invariant-loop-entry : goal.invariant-loop-entry
invariant-loop-entry l =
    with_front (map entry_model l.made.items) (each (shown_entry l.room (memory_of l.texts)) (drop l.entry-index l.raw))
    ≡ each (shown_entry l.room (memory_of l.texts)) l.raw
