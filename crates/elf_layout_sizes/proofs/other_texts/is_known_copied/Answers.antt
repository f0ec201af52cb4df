-- There are more texts now, or as many of each kind.
use Rattle.std.proofs.Common.{refl, ◌∙◌, arith}
use Rattle.elf_layout_sizes.proofs.OtherSteps.{copied_more, copied_same}
use Rattle.elf_layout_sizes.proofs.other_texts.is_known_copied.Goals as goal

pub returns-then-count : goal.returns-then-count
returns-then-count c ys zs = copied_more c.args.now.now c.args.at_read.now ys zs (omega (arith, c.count.ensures, c.count-2.ensures))

pub returns : goal.returns
returns c ys zs = c.are_of_read.ensures ∙ copied_same c.args.now.now c.args.at_read.now ys zs (c.if-not-have_same_counts.ensures refl)
