use Rattle.std.proofs.Common.{sym, ◌∙◌}
use Rattle.elf_image_reasons.proofs.RuleSteps.{header_broken}
use Rattle.elf_image_reasons.proofs.broken.later_rule.Goals as goal

pub returns-in-Some : goal.returns-in-Some
returns-in-Some c = header_broken c.args.bytes.now c.in-Some.rule c.requires (sym c.in-Some.is ∙ c.in_ok-rule.ensures)
