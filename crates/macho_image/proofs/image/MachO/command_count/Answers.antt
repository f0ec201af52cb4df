use Rattle.std.proofs.Common.{length, ap, ◌∙◌, arith}
use Rattle.macho_image.specs.Commands.{load_commands_of}
use Rattle.macho_image.proofs.PlaceLaws.{length-load_commands_of}
use Rattle.macho_image.proofs.image.MachO.command_count.Goals as goal

pub returns : goal.returns
returns c =
    let kept = c.self.invariant.commands ∙ ap (λ m. load_commands_of m.bytes) c.self.view_is in
    omega (arith, ap length kept, length-load_commands_of c.args.self.now.bytes, c.self.inside.commands.ok.0)
