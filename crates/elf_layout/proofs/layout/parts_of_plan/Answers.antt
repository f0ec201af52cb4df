use Rattle.std.proofs.Common.{List, ℕ, subst, sym}
use Rattle.elf_layout.specs.Inner.{IsStanding}
use Rattle.elf_layout.proofs.PlanSteps.{parts_found}
use Rattle.elf_layout.proofs.layout.parts_of_plan.Goals as goal

pub returns-clause-parts : goal.returns-clause-parts
returns-clause-parts c =
    let P : List ℕ → Type 0 = λ moved. IsStanding c.args.r.now moved c.args.standing in
    let stands = subst P (sym c.as_slice-moved.ensures.value) c.requires.standing in
    parts_found c.args.r.now c.args.rounds.now c.as_slice-moved.result.now c.args.standing c.in_ok-segments.segments.items
    c.as_slice-moved.ensures.value stands c.in_ok-segments.ensures.written
