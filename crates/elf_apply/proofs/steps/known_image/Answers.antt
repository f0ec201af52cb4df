use Rattle.std.proofs.Common.{refl}
use Rattle.elf_apply.proofs.HeldLaws.{lists_entries}
use Rattle.elf_apply.proofs.steps.known_image.Goals as goal

pub returns-clause-same : goal.returns-clause-same
returns-clause-same c = refl

pub returns-clause-lists : goal.returns-clause-lists
returns-clause-lists c = lists_entries c.args.builder.now c.source-source.ensures.edited
