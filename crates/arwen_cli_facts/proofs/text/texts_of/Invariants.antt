use Rattle.std.proofs.Common.{◌≡◌, map, take}
use Rattle.elf_image.specs.Answers.{borrowed}
use Rattle.arwen_elf.specs.Prints.{lossily}
use Rattle.arwen_cli_facts.specs.Texts.{texts_model}
use Rattle.arwen_cli_facts.proofs.text.texts_of.Given as goal

-- the texts so far
abbrev pub invariant-loop-bytes : goal.invariant-loop-bytes
invariant-loop-bytes l = texts_model l.texts.items ≡ map lossily (map borrowed (take l.bytes-index l.list))
