use Rattle.patch_bytes.proofs.RoundingLemmas.{least_multiple}
use Rattle.patch_bytes.proofs.rounding.round_up.Goals as goal

pub returns-clause-least : goal.returns-clause-least
returns-clause-least c = least_multiple c.args.n c.args.unit c.requires
