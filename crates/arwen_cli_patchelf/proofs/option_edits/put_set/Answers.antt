-- The three edits stand behind those before.
use Rattle.std.proofs.Common.{map}
use Rattle.std.proofs.lemmas.Result.{on_ok_weaker}
use Rattle.arwen_cli_patchelf.specs.OptionEdits.{planned_model}
use Rattle.arwen_cli_patchelf.proofs.EditLaws.{two_more}
use Rattle.arwen_cli_patchelf.proofs.option_edits.put_set.Goals as goal

pub returns : goal.returns
returns c =
    on_ok_weaker c.put_once.result (λ put. two_more (map planned_model c.args.planned.now.items) _ _ _ _ _ _ c.in_ok-put.ensures c.in_ok-put-2.ensures put) c.put_once.ensures
