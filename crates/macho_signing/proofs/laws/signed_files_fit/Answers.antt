use Rattle.macho_signing.proofs.FitLaws.{signed_fit}
use Rattle.macho_signing.proofs.laws.signed_files_fit.Goals as goal

pub returns : goal.returns
returns c = signed_fit
