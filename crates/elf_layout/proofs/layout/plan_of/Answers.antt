use Rattle.std.proofs.Common.{subst}
use Rattle.std.proofs.lemmas.Result.{IfOk-weaker, MatchResult-weaker, err_from_is_err_and}
use Rattle.elf_layout_plan.specs.Memory.{Resized}
use Rattle.elf_layout_plan.specs.Plan.{IsPlan, resized}
use Rattle.elf_layout_segments.specs.Inner.{IsResized}
use Rattle.elf_layout.proofs.Planned.{asked_by_plan, few_rounds, no_end_is, no_plan_is, plan_is, stuck_asked}
use Rattle.elf_layout.proofs.layout.plan_of.Goals as goal

pub returns-in_err-rounds-clause-stuck : goal.returns-in_err-rounds-clause-stuck
returns-in_err-rounds-clause-stuck c =
    let is : IsResized c.args.r.now = let P : Resized → Type 0 = IsResized in subst P c.r.view_is c.r.invariant in
    let p = err_from_is_err_and c.from_residual-in_err-rounds.result c.from_residual-in_err-rounds.ensures.1 in
    rw (p.1, p.2) (stuck_asked c.args.r.now.image _ (no_end_is c.args.r.now is _ c.in_err-rounds.ensures.fault))

pub returns-clause-stuck : goal.returns-clause-stuck
returns-clause-stuck c =
    let is : IsResized c.args.r.now = let P : Resized → Type 0 = IsResized in subst P c.r.view_is c.r.invariant in
    MatchResult-weaker c.plan_after.result c.plan_after.ensures.fault (λ plan any. any) (λ fault none. stuck_asked c.args.r.now.image fault (no_plan_is c.args.r.now is fault none))

pub returns-clause-asked : goal.returns-clause-asked
returns-clause-asked c =
    let is : IsResized c.args.r.now = let P : Resized → Type 0 = IsResized in subst P c.r.view_is c.r.invariant in
    IfOk-weaker c.plan_after.result (IsPlan c.args.r.now) _ (λ plan p. asked_by_plan (resized c.args.r.now.image) plan (plan_is c.args.r.now is plan p)) c.plan_after.ensures.plan

pub returns-clause-rounds : goal.returns-clause-rounds
returns-clause-rounds c =
    IfOk-weaker c.plan_after.result (IsPlan c.args.r.now) _ (λ plan p. few_rounds c.args.r.now plan p) c.plan_after.ensures.plan
