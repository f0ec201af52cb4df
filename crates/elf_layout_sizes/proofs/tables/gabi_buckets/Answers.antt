-- The number is there or not.
use Rattle.std.proofs.Common.{◌∙◌}
use Rattle.elf_layout_sizes.proofs.HashSteps.{at_one_place, buckets_past, buckets_there}
use Rattle.elf_layout_sizes.proofs.tables.gabi_buckets.Goals as goal

pub returns-then-content-lt4 : goal.returns-then-content-lt4
returns-then-content-lt4 c = buckets_past c.args.form c.args.content.now c.if-content-lt4.true

pub returns : goal.returns
returns c = c.word_at.ensures ∙ at_one_place c.args.form 0 c.args.content.now ∙ buckets_there c.args.form c.args.content.now c.if-content-lt4.false
