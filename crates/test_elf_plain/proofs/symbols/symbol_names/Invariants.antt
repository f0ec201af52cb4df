use Rattle.std.proofs.Common.{◌≡◌, drop, map}
use Rattle.patch_bytes.specs.Memory.{text_at}
use Rattle.elf_format.specs.Options.{each}
use Rattle.elf_format.proofs.ReadingSteps.{with_front}
use Rattle.test_elf_plain.specs.PlainViews.{source_model, text_model}
use Rattle.test_elf_plain.proofs.symbols.symbol_names.Given as goal

-- what was made so far, and what the rest gives
abbrev pub invariant-loop-symbol : goal.invariant-loop-symbol
invariant-loop-symbol l =
    with_front (map text_model l.names.items) (each (λ y. text_at l.room (source_model l.texts) y.st_name) (drop l.symbol-index l.symbols))
    ≡ each (λ y. text_at l.room (source_model l.texts) y.st_name) l.symbols
