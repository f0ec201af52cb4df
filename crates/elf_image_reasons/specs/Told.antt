-- Why a file is refused: the first read rule that it breaks, with what contradicts it.
use Rattle.std.specs.Prelude.{ℕ, List, Option, option_map}
use Rattle.elf_image_reasons.specs.declared.reason.Reason.{Reason}
use Rattle.elf_image_reasons.specs.declared.rule.Rule.{Rule}
use Rattle.elf_image_reasons.specs.Details.{detail_of}
use Rattle.elf_image_reasons.specs.ReadTests.{broken_rule}

abbrev pub reason_by : List ℕ → Rule → Reason
reason_by file rule = record { rule = rule; detail = detail_of rule file }

-- the reason, none for a file that is accepted
abbrev pub reason_of : List ℕ → Option Reason
reason_of file = option_map (reason_by file) (broken_rule file)
