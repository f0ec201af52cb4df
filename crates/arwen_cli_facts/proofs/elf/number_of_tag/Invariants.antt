use Rattle.std.proofs.Common.{◌≡◌, drop, map}
use Rattle.elf_image.specs.ImageModel.{entry_model}
use Rattle.arwen_cli_facts.specs.ElfFacts.{number_tagged}
use Rattle.arwen_cli_facts.proofs.elf.number_of_tag.Given as goal

-- no entry so far has such a number
abbrev pub invariant-loop-entry : goal.invariant-loop-entry
invariant-loop-entry l = number_tagged l.tag (map entry_model (drop l.entry-index l.entries)) ≡ number_tagged l.tag (map entry_model l.entries)
