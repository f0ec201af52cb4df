use Rattle.std.proofs.Common.{◌≡◌, drop, map}
use Rattle.std.specs.List.{list_any}
use Rattle.elf_format.specs.File.{loads_of}
use Rattle.elf_format.specs.Placement.{shows_at}
use Rattle.elf_format.specs.Ranges.{range}
use Rattle.elf_image.specs.ImageModel.{segment_model}
use Rattle.elf_layout_moves.proofs.blocks.is_shown.Given as goal

abbrev pub invariant-loop-p : goal.invariant-loop-p
invariant-loop-p l =
    list_any (λ p. shows_at p (range l.offset l.size) l.address) (loads_of (map segment_model (drop l.p-index l.segments)))
    ≡ list_any (λ p. shows_at p (range l.offset l.size) l.address) (loads_of (map segment_model l.segments))
