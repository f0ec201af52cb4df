use Rattle.std.proofs.Common.{arith}
use Rattle.macho_edits.proofs.batch.known_text.Goals as goal

pub returns-clause-bytes : goal.returns-clause-bytes
returns-clause-bytes c = record { each = λ i. omega (arith, c.type_inv.text i) }
