use Rattle.std.proofs.Common.{ap, refl}
use Rattle.std.proofs.lemmas.Result.{IfOk-weaker}
use Rattle.macho_commands_stores.proofs.LoadingLaws.{read_after}
use Rattle.macho_commands_stores.proofs.loading.load_for_edits.Goals as goal
use Rattle.macho_commands_stores.proofs.loading.load_for_edits.Goals.{then-is_front_enough+in_ok-loaded+in_default, else-is_front_enough}

pub returns-clause-loaded : goal.returns-clause-loaded
returns-clause-loaded g c =
    elim c.if-is_front_enough.branch [
      | then-is_front_enough+in_ok-loaded+in_default w ↦
          IfOk-weaker c.load_first.result _ _ (λ loaded reads.
          read_after _ _ _ c.args.is_front_enough loaded (ap g.S.Store.contents w.store-is) w.in_ok-loaded.ensures.kept reads) c.load_first.ensures.loaded
      | else-is_front_enough w ↦
          IfOk-weaker c.load_first.result _ _ (λ loaded reads.
          read_after _ _ _ c.args.is_front_enough loaded (ap g.S.Store.contents w.store-is) refl reads) c.load_first.ensures.loaded
    ]
