use Rattle.elf_image_reasons.proofs.RuleSteps.{opening_broken}
use Rattle.elf_image_reasons.proofs.broken.first_rule.Goals as goal

pub returns-in-Some : goal.returns-in-Some
returns-in-Some c = opening_broken c.args.bytes.now c.in-Some.rule c.in-Some.ensures
