use Rattle.std.proofs.Common.{ℕ, ◌≡◌, ◌<◌, length}
use Rattle.std.specs.Prelude.{Some, map, slice_get}
use Rattle.elf_format.specs.Image.{ImageSection}
use Rattle.elf_image.specs.ImageModel.{section_model}
use Rattle.test_slow_layout.specs.Plain.{part_at}
use Rattle.test_slow_layout.proofs.plain.parts_of.Given as goal

-- the parts of the first sections
abbrev pub invariant-loop-position : goal.invariant-loop-position
invariant-loop-position l =
    (length l.parts.items ≡ l.position)
    × ((i : ℕ) (s : ImageSection) → i < l.position → slice_get (map section_model l.sections) i ≡ Some s → slice_get l.parts.items i ≡ Some (part_at l.image l.sizes i s))
