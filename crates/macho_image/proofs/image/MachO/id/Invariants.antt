use Rattle.std.proofs.Common.{◌≡◌, [], take}
use Rattle.macho_image.specs.Commands.{commands_of, id_commands}
use Rattle.macho_image.specs.Form.{ctx_of}
use Rattle.macho_image.proofs.image.MachO.id.Given as goal

abbrev pub invariant-loop-i : goal.invariant-loop-i
invariant-loop-i l = id_commands (ctx_of l.self.bytes).le (take l.i (commands_of l.self.bytes)) ≡ []
