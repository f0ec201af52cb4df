-- The set has the name too, where it is to be there.
use Rattle.std.specs.HashSet.{keys}
use Rattle.arwen_cli_patchelf.proofs.FirstSteps.{is_put}
use Rattle.arwen_cli_patchelf.proofs.first_found.put_if.Goals as goal

pub returns : goal.returns
returns c = λ other.
    is_put c.args.is_put (keys c.args.set.now) (keys c.insert.new.self) c.args.name.now other c.if-not-is_put.false (c.in_ok-insert.ensures.updates.0 (record { ref_ptr = (0, 0); now = other }))
