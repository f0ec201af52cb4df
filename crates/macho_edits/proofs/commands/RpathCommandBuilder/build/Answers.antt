-- The size has room for the text, and the fields are those of the bytes.
use Rattle.std.proofs.Common.{arith}
use Rattle.macho_edits.proofs.BuilderLemmas.{rpath_made}
use Rattle.macho_edits.proofs.BuiltLaws.{built_size-above}
use Rattle.macho_edits.proofs.commands.RpathCommandBuilder.build.Goals as goal

pub command_bytes-requires : goal.command_bytes-requires
command_bytes-requires c =
    omega (arith, built_size-above c.args.self.now.ctx.container 12 c.as_bytes-text.result.now, c.in_ok-cmdsize.ensures.0)

pub returns : goal.returns
returns c =
    let made = rpath_made c.args.self.now.ctx c.as_bytes-text.result.now c.in_ok-bytes.bytes.items c.in_ok-cmdsize.cmdsize c.in_ok-cmdsize.ensures.0 c.in_ok-cmdsize.ensures.1 c.in_ok-bytes.ensures in
    rw (← c.as_bytes-text.ensures.value) made
