use Rattle.std.proofs.Common.{◌≡◌, map, take}
use Rattle.elf_image.specs.ImageModel.{needs_model}
use Rattle.arwen_cli_facts.specs.ElfFacts.{versions_needed}
use Rattle.arwen_cli_facts.specs.Texts.{texts_model}
use Rattle.arwen_cli_facts.proofs.elf.versions_needed.Given as goal

-- the versions of the records so far
abbrev pub invariant-loop-need : goal.invariant-loop-need
invariant-loop-need l = texts_model l.made.items ≡ versions_needed l.name (map needs_model (take l.need-index l.needs))
