-- The pages so far.
use Rattle.std.proofs.Common.{◌≡◌, ◌++◌}
use Rattle.macho_signatures.proofs.RenewalSteps.{unfit_upto}
use Rattle.macho_signatures.proofs.directory.Directory.push_unfit.Given as goal

abbrev pub invariant-loop-page : goal.invariant-loop-page
invariant-loop-page l = l.pages.items ≡ l.fn.pages.items ++ unfit_upto l.number l.self l.bytes l.page
