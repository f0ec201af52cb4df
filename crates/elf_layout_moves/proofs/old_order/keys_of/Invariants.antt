use Rattle.std.proofs.Common.{◌≡◌, map, take}
use Rattle.elf_layout_moves.specs.BlockSteps.{old_key}
use Rattle.elf_layout_moves.proofs.old_order.keys_of.Given as goal

abbrev pub invariant-loop-position : goal.invariant-loop-position
invariant-loop-position l = l.keys.items ≡ map (old_key l.image) (take l.position-index l.moved)
