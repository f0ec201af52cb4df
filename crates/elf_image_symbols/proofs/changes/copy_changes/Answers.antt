-- There is room for one change more.
use Rattle.std.proofs.Common.{List, length, ap, arith, length-take-le}
use Rattle.elf_image_symbols.specs.declared.change.Change.{Change}
use Rattle.elf_image_symbols.proofs.changes.copy_changes.Goals as goal

pub push_reserved-requires : goal.push_reserved-requires
push_reserved-requires c =
    omega (arith, c.loop-change.copy.ok.0, ap (λ (l : List Change). length l) c.loop-change.invariant.copied, length-take-le c.loop-change.change-index c.args.changes.now (omega arith), c.loop-change.invariant.room, c.requires)
