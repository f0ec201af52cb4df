use Rattle.std.proofs.Common.{◌≡◌, map, take}
use Rattle.macho_image.specs.Command.{text_of}
use Rattle.macho_image.specs.Commands.{commands_of, load_dylib_commands}
use Rattle.macho_image.specs.Form.{ctx_of}
use Rattle.macho_image.proofs.image.MachO.libs.Given as goal

abbrev pub invariant-loop-i : goal.invariant-loop-i
invariant-loop-i l = map (λ name. name.now) l.names.items ≡ map (text_of (ctx_of l.self.bytes).le) (load_dylib_commands (ctx_of l.self.bytes).le (take l.i (commands_of l.self.bytes)))
