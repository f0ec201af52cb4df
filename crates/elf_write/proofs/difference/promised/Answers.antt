use Rattle.byte_store.specs.Composed.{made_of}
use Rattle.elf_write.proofs.Writes.{are_promised}
use Rattle.elf_write.proofs.difference.promised.Goals as goal

pub returns-clause-promises : goal.returns-clause-promises
returns-clause-promises c = are_promised c.plans_are_apart.ensures c.plans_show_notes.ensures
    c.args.image.now c.args.plan.now (made_of c.args.image.now.source c.args.difference) c.requires
