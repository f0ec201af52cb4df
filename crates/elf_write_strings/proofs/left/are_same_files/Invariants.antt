use Rattle.std.proofs.Common.{◌≡◌, drop, map}
use Rattle.elf_image.specs.ImageModel.{needs_model}
use Rattle.elf_image.specs.Names.{are_same_texts}
use Rattle.elf_write_strings.specs.WrittenStrings.{files_of}
use Rattle.elf_write_strings.proofs.left.are_same_files.Given as goal

-- what is left is as all
abbrev pub invariant-loop-i : goal.invariant-loop-i
invariant-loop-i l =
    are_same_texts (files_of (map needs_model (drop l.i l.read))) (files_of (map needs_model (drop l.i l.now)))
    ≡ are_same_texts (files_of (map needs_model l.read)) (files_of (map needs_model l.now))
