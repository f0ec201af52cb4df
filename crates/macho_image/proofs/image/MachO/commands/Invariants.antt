use Rattle.std.proofs.Common.{◌≡◌, take}
use Rattle.patch_bytes.specs.ByteString.{bytes_of_each}
use Rattle.macho_image.specs.Commands.{commands_of}
use Rattle.macho_image.proofs.image.MachO.commands.Given as goal

abbrev pub invariant-loop-i : goal.invariant-loop-i
invariant-loop-i l = bytes_of_each l.commands.items ≡ take l.i (commands_of l.self.bytes)
