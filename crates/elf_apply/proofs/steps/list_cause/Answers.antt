-- The words of the edit's task are those of its refusal.
use Rattle.std.proofs.Common.{ℕ, ap, ◌∙◌, List, Option, Some, option_map}
use Rattle.std.specs.Prelude.{◌==◌}
use Rattle.elf_format.specs.declared.constants.TheConstants.{EM_MIPS}
use Rattle.elf_image.specs.Options.{first_there}
use Rattle.elf_edits.specs.Cause.{Cause, MipsImage, cause_if, list_missing}
use Rattle.elf_edits.specs.Facts.{facts_model}
use Rattle.elf_apply.proofs.steps.list_cause.Goals as goal

pub returns-in-Some : goal.returns-in-Some
returns-in-Some c =
    c.list_refusal.ensures
    ∙ ap (λ (o : Option (List ℕ)). option_map {U = Option Cause} Some (first_there (cause_if (c.args.facts.now.machine == EM_MIPS) MipsImage) (list_missing o (facts_model c.args.facts.now)))) c.in-Some.ensures
