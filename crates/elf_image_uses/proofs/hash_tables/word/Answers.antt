-- The number stands at one place in files of both classes.
use Rattle.std.proofs.Common.{◌∙◌}
use Rattle.elf_image_uses.proofs.HashSteps.{at_one_place}
use Rattle.elf_image_uses.proofs.hash_tables.word.Goals as goal

pub returns : goal.returns
returns c = c.word_at.ensures ∙ at_one_place c.args.form c.args.position c.args.content.now
