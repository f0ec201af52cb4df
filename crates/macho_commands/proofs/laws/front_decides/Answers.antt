use Rattle.macho_commands.proofs.FrontLaws.{front_decides, shows_longer, signed_longer}
use Rattle.macho_commands.proofs.laws.front_decides.Goals as goal

pub returns-clause-decides : goal.returns-clause-decides
returns-clause-decides c = front_decides

pub returns-clause-shows : goal.returns-clause-shows
returns-clause-shows c = shows_longer

pub returns-clause-signed : goal.returns-clause-signed
returns-clause-signed c = signed_longer
