use Rattle.std.proofs.Common.{◌∙◌}
use Rattle.elf_image_reasons.proofs.RuleSteps.{parts_broken}
use Rattle.elf_image_reasons.proofs.broken.part_rule.Goals as goal

pub returns : goal.returns
returns c = c.rule_of_parts.ensures ∙ parts_broken c.args.bytes.now c.in_ok-fault.fault c.requires.opening c.requires.header c.in_ok-fault.ensures
