use Rattle.std.proofs.Common.{◌∙◌, sym}
use Rattle.macho_commands_stores.proofs.PieceLaws.{stands}
use Rattle.macho_commands_stores.proofs.changes.stands_in.Goals as goal

pub returns : goal.returns
returns c = λ is. stands c.args.at c.args.part.now c.args.bytes.now (sym c.eq.ensures ∙ is)
