use Rattle.std.proofs.Common.{◌≡◌, ◌+◌, ◌<◌, ℕ, List, Bool, length, refl, sym, subst, arith}
use Rattle.std.proofs.lemmas.Option.{slice_get-get_or}
use Rattle.elf_layout_plan.specs.declared.block.Block.{Block}
use Rattle.elf_layout_plan.specs.MovedBlocks.{StayApart}
use Rattle.elf_layout_plan.proofs.WalkSteps.{IsWalked, none_stuck, walk_ends, walk_marks, walk_past_apart, walk_past_earlier, walk_past_later, walk_stuck}
use Rattle.elf_layout_plan.proofs.walk.walk_blocks.Goals as goal
use Rattle.elf_layout_plan.proofs.walk.walk_blocks.Goals.{in-Apart, in-Later, in-Earlier}

-- what is known of marks and a place is known of what equals them
carried : (blocks : List Block) (moves marks : List Bool) (last place next : ℕ) → marks ≡ moves → place ≡ last
    → IsWalked blocks moves last next → IsWalked blocks marks place next
carried blocks moves marks last place next same there w =
    subst (λ (m : List Bool). IsWalked blocks m place next) (sym same) (subst (λ (k : ℕ). IsWalked blocks moves k next) (sym there) w)

pub returns-in-Stuck-clause-refused : goal.returns-in-Stuck-clause-refused
returns-in-Stuck-clause-refused g c =
    let blocks : List Block = c.args.blocks.now in
    let long : length c.loop-next.moves ≡ length blocks = omega arith in (
      λ refused. walk_stuck blocks c.loop-next.moves c.loop-next.last c.loop-next.next _ _ c.requires.ordered long c.loop-next.invariant.walked (omega arith)
          (slice_get-get_or blocks c.loop-next.last _ (omega arith)) (slice_get-get_or blocks c.loop-next.next _ (omega arith)) c.in-Stuck.ensures.meeting,
      λ stuck. refl,
    )

pub loop-next-preserved : goal.loop-next-preserved
loop-next-preserved g c =
    let blocks : List Block = c.args.blocks.now in
    let moves : List Bool = c.loop-next.moves in
    let last : ℕ = c.loop-next.last in
    let next : ℕ = c.loop-next.next in
    let long : length moves ≡ length blocks = omega arith in
    let within : next < length blocks = omega arith in
    let before : last < length blocks = omega arith in
    record {
      walked = elim c.match-compare_blocks.branch [
        | in-Apart w ↦ carried blocks _ c.match-compare_blocks.moves _ c.match-compare_blocks.last (next + 1) w.moves-is w.last-is
            (walk_past_apart blocks moves last next _ _ c.requires.ordered long c.loop-next.invariant.walked within
            (slice_get-get_or blocks last _ before) (slice_get-get_or blocks next _ within) w.in-Apart.ensures.meeting)
        | in-Later w ↦ carried blocks _ c.match-compare_blocks.moves _ c.match-compare_blocks.last (next + 1) w.moves-is w.last-is
            (walk_past_later blocks moves last next _ _ c.requires.ordered long c.loop-next.invariant.walked within
            (slice_get-get_or blocks last _ before) (slice_get-get_or blocks next _ within) w.in-Later.ensures.meeting)
        | in-Earlier w ↦ carried blocks _ c.match-compare_blocks.moves _ c.match-compare_blocks.last (next + 1) w.moves-is w.last-is
            (walk_past_earlier blocks moves last next _ _ c.requires.ordered long c.loop-next.invariant.walked within
            (slice_get-get_or blocks last _ before) (slice_get-get_or blocks next _ within) w.in-Earlier.ensures.meeting)
      ];
      counted = omega arith;
      few = omega arith;
    }

pub returns-clause-refused : goal.returns-clause-refused
returns-clause-refused g c =
    let blocks : List Block = c.args.blocks.now in
    let apart : StayApart blocks c.loop-next.moves = walk_ends blocks c.loop-next.moves c.loop-next.last c.loop-next.next (omega arith) c.loop-next.invariant.walked in (
      λ refused. let no : ⊥ = cc refused in absurd no,
      λ stuck. absurd (none_stuck blocks c.loop-next.moves apart c.loop-next.invariant.walked.fixed stuck),
    )

pub returns-clause-apart : goal.returns-clause-apart
returns-clause-apart g c = walk_ends c.args.blocks.now c.loop-next.moves c.loop-next.last c.loop-next.next (omega arith) c.loop-next.invariant.walked

pub returns-clause-chosen : goal.returns-clause-chosen
returns-clause-chosen g c =
    walk_marks c.args.blocks.now c.loop-next.moves c.loop-next.last c.loop-next.next (omega arith) (omega arith) c.loop-next.invariant.walked
