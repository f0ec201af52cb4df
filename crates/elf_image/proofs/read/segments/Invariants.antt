use Rattle.std.proofs.Common.{◌≡◌, take, map}
use Rattle.elf_image.specs.ImageModel.{segment_model}
use Rattle.elf_image.proofs.read.segments.Given as goal

abbrev pub invariant-loop-numbers : goal.invariant-loop-numbers
invariant-loop-numbers l = map segment_model l.made.items ≡ take l.numbers-index l.headers
