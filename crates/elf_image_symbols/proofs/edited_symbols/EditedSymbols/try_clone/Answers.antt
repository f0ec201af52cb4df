-- There are no more changes than symbols.
use Rattle.std.proofs.Common.{List, length, ap, arith}
use Rattle.elf_image_symbols.specs.declared.change.Change.{Change}
use Rattle.elf_image_symbols.proofs.ChangeLaws.{changes_long}
use Rattle.elf_image_symbols.proofs.edited_symbols.EditedSymbols.try_clone.Goals as goal

pub copy_changes-requires : goal.copy_changes-requires
copy_changes-requires c =
    omega (arith, ap (λ (l : List Change). length l) c.deref.ensures.value, changes_long (length c.self.inside.table) c.self.inside.changes.items c.self.invariant.changes.rising, c.len-count.ensures)
