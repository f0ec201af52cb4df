use Rattle.std.proofs.Common.{◌<◌, ℕ, List, length, ap, sym, subst, ◌∙◌}
use Rattle.std.specs.Prelude.{All}
use Rattle.elf_layout_plan.specs.Plan.{IsPlan, Plan}
use Rattle.elf_layout_plan.specs.PlanModel.{parts_model}
use Rattle.elf_layout_plan.specs.Plan.{does_plan_fit}
use Rattle.elf_layout.proofs.PlanSteps.{ended_within, not_planned, planned}
use Rattle.elf_layout.proofs.layout.plan_after.Goals as goal

pub marks_of-requires : goal.marks_of-requires
marks_of-requires c =
    let P : List ℕ → Type 0 = All (λ p. p < length c.args.r.now.image.sections) in
    subst P (sym c.deref.ensures.value) (ended_within c.args.r.now c.args.rounds.now c.requires.ended)

pub returns-then-not-do_parts_fit-clause-fault : goal.returns-then-not-do_parts_fit-clause-fault
returns-then-not-do_parts_fit-clause-fault c =
    not_planned c.args.r.now c.args.rounds.now (parts_model c.in_ok-parts.parts) c.requires.ended c.in_ok-parts.ensures.parts
    (ap (λ r. does_plan_fit r.image.form (parts_model c.in_ok-parts.parts)) (sym c.r.view_is) ∙ sym c.if-not-do_parts_fit.ensures)

pub returns-clause-plan : goal.returns-clause-plan
returns-clause-plan c =
    let P : Plan → Type 0 = IsPlan c.args.r.now in
    subst P (sym c.new.ensures)
    (planned c.args.r.now c.args.rounds.now (parts_model c.in_ok-parts.parts) c.requires.ended c.in_ok-parts.ensures.parts
    (ap (λ r. does_plan_fit r.image.form (parts_model c.in_ok-parts.parts)) (sym c.r.view_is) ∙ sym c.if-not-do_parts_fit.ensures))
