use Rattle.std.proofs.Common.{◌∷◌, []}
use Rattle.macho_edits.specs.Edit.{call_of}
use Rattle.macho_edits.specs.Refused.{cause_of}
use Rattle.macho_edits.specs.State.{step}
use Rattle.arwen_macho.proofs.StepLaws.{refuses_step}
use Rattle.arwen_macho.proofs.macho.SingleMachO.edit.Goals as goal

pub returns-in-Err : goal.returns-in-Err
returns-in-Err c =
    let refused = c.in-Err.ensures in
    (refused.0, refuses_step c.in-Err.refused.index (cause_of c.in-Err.refused.fault) (step (call_of c.args.edit ∷ []) c.args.self.now.state) refused.1)
