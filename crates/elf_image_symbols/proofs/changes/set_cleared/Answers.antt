-- The write changes the one change.
use Rattle.std.proofs.Common.{true}
use Rattle.elf_image_symbols.specs.declared.change.Change.{Change}
use Rattle.elf_image_symbols.proofs.ListLaws.{changed_at-set}
use Rattle.elf_image_symbols.proofs.changes.set_cleared.Goals as goal

pub returns-clause-items : goal.returns-clause-items
returns-clause-items c =
    changed_at-set (λ (d : Change). record d { is_cleared = true }) c.args.changes.now.items c.args.k c.index_mut.result.now c.requires c.index_mut.ensures.value
