use Rattle.macho_commands.proofs.FittingLaws.{signing_fits, signing_reads, signing_tells_same, signing_verifies, whole_fits}
use Rattle.macho_commands.proofs.laws.signatures_fit_again.Goals as goal

pub returns-clause-fits : goal.returns-clause-fits
returns-clause-fits c = signing_fits

pub returns-clause-same : goal.returns-clause-same
returns-clause-same c = signing_tells_same

pub returns-clause-verifies : goal.returns-clause-verifies
returns-clause-verifies c = signing_verifies

pub returns-clause-reads : goal.returns-clause-reads
returns-clause-reads c = signing_reads

pub returns-clause-whole : goal.returns-clause-whole
returns-clause-whole c = whole_fits
