use Rattle.std.proofs.Common.{◌≡◌, drop, map}
use Rattle.elf_format.specs.Options.{each}
use Rattle.test_elf_plain.specs.PlainViews.{source_model}
use Rattle.elf_format.proofs.ReadingSteps.{with_front}
use Rattle.test_elf_plain.proofs.names.show_each.Given as goal

-- what was made so far, and what the rest gives
abbrev pub invariant-loop-raw : goal.invariant-loop-raw
invariant-loop-raw g l =
    with_front (map g.S.Shown.shape l.shown.items) (each (g.S.Shown.shown l.room (source_model l.texts)) (drop l.raw-index l.raws))
    ≡ each (g.S.Shown.shown l.room (source_model l.texts)) l.raws
