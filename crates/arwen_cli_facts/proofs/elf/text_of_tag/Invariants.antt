use Rattle.std.proofs.Common.{◌≡◌, drop, map}
use Rattle.elf_image.specs.ImageModel.{entry_model}
use Rattle.arwen_cli_facts.specs.ElfFacts.{text_tagged}
use Rattle.arwen_cli_facts.proofs.elf.text_of_tag.Given as goal

-- no entry so far has such a text
abbrev pub invariant-loop-entry : goal.invariant-loop-entry
invariant-loop-entry l = text_tagged l.tag (map entry_model (drop l.entry-index l.entries)) ≡ text_tagged l.tag (map entry_model l.entries)
