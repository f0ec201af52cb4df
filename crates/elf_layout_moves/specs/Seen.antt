-- An image with sizes, seen without the references to its parts.
use Rattle.elf_layout_plan.specs.Memory.{Resized}
use Rattle.elf_layout_moves.specs.declared.resizing.Resizing.TheInside.{Inside}

abbrev pub resized_model : Inside → Resized
resized_model s = record { read = s.read.now; image = s.image.now; sizes = s.sizes.now }
