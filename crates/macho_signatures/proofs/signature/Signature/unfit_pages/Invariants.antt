-- What was found so far and what is left give all.
use Rattle.std.proofs.Common.{◌≡◌, ◌++◌, drop}
use Rattle.macho_signatures.specs.Pages.{unfit_from}
use Rattle.macho_signatures.proofs.signature.Signature.unfit_pages.Given as goal

abbrev pub invariant-loop-number : goal.invariant-loop-number
invariant-loop-number l = l.pages.items ++ unfit_from l.number (drop l.number l.self.directories.items) l.bytes ≡ unfit_from 0 l.self.directories.items l.bytes
