-- The pair of the round that is stuck stands against every plan.
use Rattle.std.proofs.Common.{subst}
use Rattle.std.proofs.lemmas.Option.{IfSome_then}
use Rattle.elf_layout_plan.specs.Memory.{Resized}
use Rattle.elf_layout_moves.specs.Inner.{IsResized}
use Rattle.elf_layout_reasons.proofs.RoundsEnd.{none_of_many, pair_stuck}
use Rattle.elf_layout_reasons.proofs.stuck.pair_of.Goals as goal

pub returns-clause-pair : goal.returns-clause-pair
returns-clause-pair c =
    let is = subst (λ (q : Resized). IsResized q) c.r.view_is c.r.invariant in
    IfSome_then c.in_ok-pair.pair c.in_ok-pair.ensures.pair (λ pair first.
    pair_stuck c.args.r.now c.in-Some.looked pair is (rw c.in-Some.is at c.in_ok-looked.ensures.stuck) first)

pub returns-clause-none : goal.returns-clause-none
returns-clause-none c =
    let is = subst (λ (q : Resized). IsResized q) c.r.view_is c.r.invariant in
    none_of_many c.args.r.now c.in-Some.looked c.in_ok-pair.pair is (rw c.in-Some.is at c.in_ok-looked.ensures.stuck) c.in_ok-pair.ensures.many
