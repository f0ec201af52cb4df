-- What reading the headers answers is the first test on them that fails.
use Rattle.std.proofs.Common.{◌∙◌}
use Rattle.elf_image_reasons.proofs.RuleSteps.{headers_told}
use Rattle.elf_image_reasons.proofs.broken.header_rule.Goals as goal

pub returns : goal.returns
returns c = c.rule_of_headers.ensures ∙ headers_told c.args.bytes.now c.in_ok-fault.fault c.requires c.in_ok-fault.ensures
