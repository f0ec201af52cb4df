-- The size has room for the name, and the fields are those of the bytes.
use Rattle.std.proofs.Common.{arith}
use Rattle.macho_edits.proofs.BuilderLemmas.{dylib_made}
use Rattle.macho_edits.proofs.BuiltLaws.{AreWords, built_size-above}
use Rattle.macho_edits.proofs.commands.DlibCommandBuilder.build.Goals as goal

pub command_bytes-requires : goal.command_bytes-requires
command_bytes-requires c =
    omega (arith, built_size-above c.args.self.now.ctx.container 24 c.as_bytes-text.result.now, c.in_ok-cmdsize.ensures.0)

pub returns : goal.returns
returns c =
    let old = c.args.self.now.dlib in
    let words : AreWords old = record { cmd = omega arith; timestamp = omega arith; current_version = omega arith; compatibility_version = omega arith } in
    let made = dylib_made c.args.self.now.ctx c.as_bytes-text.result.now c.in_ok-bytes.bytes.items old c.in_ok-cmdsize.cmdsize words c.in_ok-cmdsize.ensures.0 c.in_ok-cmdsize.ensures.1 c.in_ok-bytes.ensures in
    rw (← c.as_bytes-text.ensures.value) made
