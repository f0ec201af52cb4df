-- The first rule that is broken is the one whose fault is told.
use Rattle.std.proofs.Common.{rules}
use Rattle.elf_image_rules.specs.Rules.{checked}
use Rattle.elf_image_placement.proofs.placement.check_placement.Goals as goal

pub returns-then-not-ranges_in_file : goal.returns-then-not-ranges_in_file
unfolding checked
returns-then-not-ranges_in_file c = search rules

pub returns-then-not-file_parts_fit : goal.returns-then-not-file_parts_fit
unfolding checked
returns-then-not-file_parts_fit c = search rules

pub returns-then-not-branch : goal.returns-then-not-branch
unfolding checked
returns-then-not-branch c = search rules

pub returns-then-not-branch-2 : goal.returns-then-not-branch-2
unfolding checked
returns-then-not-branch-2 c = search rules

pub returns-then-not-branch-3 : goal.returns-then-not-branch-3
unfolding checked
returns-then-not-branch-3 c = search rules

pub returns : goal.returns
unfolding checked
returns c = search rules
