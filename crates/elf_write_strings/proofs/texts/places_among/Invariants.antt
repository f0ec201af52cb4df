use Rattle.std.proofs.Common.{◌≡◌, ◌++◌, drop, length, map}
use Rattle.elf_format.specs.Answers.{borrowed}
use Rattle.elf_image.specs.ImageModel.{entry_model}
use Rattle.elf_write_strings.specs.PlacedTexts.{places_among}
use Rattle.elf_write_strings.proofs.texts.places_among.Given as goal

-- the places so far, with those among the entries that are left, are all of them
abbrev pub invariant-loop-i : goal.invariant-loop-i
invariant-loop-i l =
    l.places.items ++ places_among (drop (length l.places.items) (map borrowed l.texts)) (map entry_model (drop l.i l.entries)) (drop l.i l.numbers)
    ≡ places_among (map borrowed l.texts) (map entry_model l.entries) l.numbers
