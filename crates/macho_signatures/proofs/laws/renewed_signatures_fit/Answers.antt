use Rattle.macho_signatures.proofs.FitLaws.{renewed_fit}
use Rattle.macho_signatures.proofs.laws.renewed_signatures_fit.Goals as goal

pub returns : goal.returns
returns c = renewed_fit
