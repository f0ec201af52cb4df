-- The law is the lemma of that name.
use Rattle.elf_image_reasons.proofs.RuleSteps.{rules_tell_faults}
use Rattle.elf_image_reasons.proofs.laws.rules_tell_faults.Goals as goal

pub returns : goal.returns
returns c = rules_tell_faults
