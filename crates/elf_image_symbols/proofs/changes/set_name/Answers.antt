-- The write changes the one change.
use Rattle.elf_image_symbols.specs.declared.change.Change.{Change}
use Rattle.elf_image_symbols.proofs.ListLaws.{changed_at-set}
use Rattle.elf_image_symbols.proofs.changes.set_name.Goals as goal

pub returns-clause-items : goal.returns-clause-items
returns-clause-items c =
    changed_at-set (λ (d : Change). record d { name = c.args.name }) c.args.changes.now.items c.args.k c.index_mut-change.result.now c.requires c.index_mut-change.ensures.value
