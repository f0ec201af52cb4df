use Rattle.std.proofs.Common.{take, map}
use Rattle.elf_format.specs.Answers.{borrowed}
use Rattle.elf_write_strings.specs.PlacedTexts.{TextsStand}
use Rattle.elf_write_strings.proofs.texts.made_places.Given as goal

-- the texts so far stand at these places
abbrev pub invariant-loop-text : goal.invariant-loop-text
invariant-loop-text l = TextsStand l.table.bytes (map borrowed (take l.text-index l.texts)) l.places.items
