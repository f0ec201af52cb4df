use Rattle.macho_commands.proofs.FittingLaws.{edit_tells_place, edit_keeps_signatures, read_edit_keeps_signatures}
use Rattle.macho_commands.proofs.laws.edits_keep_signatures.Goals as goal

pub returns-clause-place : goal.returns-clause-place
returns-clause-place c = edit_tells_place

pub returns-clause-same : goal.returns-clause-same
returns-clause-same c = edit_keeps_signatures

pub returns-clause-read : goal.returns-clause-read
returns-clause-read c = read_edit_keeps_signatures
