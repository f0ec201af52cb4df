use Rattle.std.proofs.Common.{◌∙◌, ℕ, List, Option, take, sym, ap}
use Rattle.elf_layout_plan.specs.Rounds.{each_once}
use Rattle.elf_layout.specs.Slots.{with_flag}
use Rattle.elf_layout.proofs.FlagSteps.{flags_end, flags_more, flags_of_all, flags_start}
use Rattle.elf_layout.proofs.flags.added_flags.Goals as goal

pub loop-position-init : goal.loop-position-init
loop-position-init c = c.new-sets.ensures.items ∙ flags_start c.args.r.now

pub loop-position-preserved : goal.loop-position-preserved
loop-position-preserved c =
    let moved : List ℕ = c.args.moved.now in
    let i : ℕ = c.loop-position.position-index in
    c.in_ok-add_flags.ensures ∙ ap (λ (l : List ℕ). with_flag l c.flags_at.result) c.loop-position.invariant
    ∙ ap (λ (o : Option ℕ). with_flag (each_once (flags_of_all c.args.r.now (take i moved))) o) c.flags_at.ensures
    ∙ sym (flags_more c.args.r.now moved i c.loop-position-test.true)

pub returns : goal.returns
returns c = c.loop-position.invariant ∙ flags_end c.args.r.now c.args.moved.now c.loop-position.position-index c.loop-position-test.false
