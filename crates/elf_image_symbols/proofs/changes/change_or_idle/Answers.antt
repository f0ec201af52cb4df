-- The first is of another symbol, so that no change is of this one.
use Rattle.std.proofs.Common.{length, sym, ◌∙◌}
use Rattle.elf_image_symbols.proofs.SpreadLaws.{change_at-idle}
use Rattle.elf_image_symbols.proofs.changes.change_or_idle.Goals as goal

pub returns-else-starts_at : goal.returns-else-starts_at
returns-else-starts_at c =
    c.idle.ensures
    ∙ change_at-idle c.args.table.now c.args.number (length c.args.table.now) c.args.changes.now c.requires.rising (sym c.starts_at.ensures ∙ c.if-starts_at.false)
