use Rattle.std.proofs.Common.{List, refl, inl, inr, arith}
use Rattle.std.proofs.lemmas.Bool.{cases_eq}
use Rattle.std.proofs.lemmas.Option.{slice_get-get_or, slice_get_within}
use Rattle.elf_layout_plan.specs.declared.block.Block.{Block}
use Rattle.elf_layout_plan.specs.MovedBlocks.{EarlierMoves, LaterMoves, Pair}
use Rattle.test_elf.proofs.PairSteps.{not_here, pair_of}
use Rattle.test_elf.proofs.blocks.plain.has_cause.Goals as goal

pub returns-then-does_later_move : goal.returns-then-does_later_move
returns-then-does_later_move c =
    let blocks : List Block = c.args.blocks.now in (
      λ _. (
        pair_of blocks c.loop-before.before c.args.place _ _ (omega arith)
            (slice_get-get_or blocks c.loop-before.before _ (omega arith)) (slice_get-get_or blocks c.args.place _ (omega arith)),
        inr (refl, c.does_later_move.ensures.0 c.if-does_later_move.true),
      ),
      λ _. refl,
    )

pub loop-before-preserved : goal.loop-before-preserved
loop-before-preserved c = λ p there early.
    let blocks : List Block = c.args.blocks.now in
    elim (cases_eq p.first c.loop-before.before) [
      | inl here ↦ not_here blocks (λ a b. LaterMoves a b) c.loop-before.before c.args.place _ _ c.does_later_move.result
          (slice_get-get_or blocks c.loop-before.before _ (omega arith)) (slice_get-get_or blocks c.args.place _ (omega arith))
          c.does_later_move.ensures c.if-does_later_move.false p here there
      | inr other ↦ c.loop-before.invariant p there (omega arith)
    ]

pub returns-then-does_earlier_move : goal.returns-then-does_earlier_move
returns-then-does_earlier_move c =
    let blocks : List Block = c.args.blocks.now in (
      λ _. (
        pair_of blocks c.args.place c.loop-behind.behind _ _ (omega arith)
            (slice_get-get_or blocks c.args.place _ (omega arith)) (slice_get-get_or blocks c.loop-behind.behind _ (omega arith)),
        inl (refl, c.does_earlier_move.ensures.0 c.if-does_earlier_move.true),
      ),
      λ _. refl,
    )

pub loop-behind-preserved : goal.loop-behind-preserved
loop-behind-preserved c = λ p there early.
    let blocks : List Block = c.args.blocks.now in
    elim (cases_eq p.second c.loop-behind.behind) [
      | inl here ↦ not_here blocks (λ a b. EarlierMoves a b) c.args.place c.loop-behind.behind _ _ c.does_earlier_move.result
          (slice_get-get_or blocks c.args.place _ (omega arith)) (slice_get-get_or blocks c.loop-behind.behind _ (omega arith))
          c.does_earlier_move.ensures c.if-does_earlier_move.false p there here
      | inr other ↦ c.loop-behind.invariant p there (omega arith)
    ]

pub returns : goal.returns
returns c =
    let blocks : List Block = c.args.blocks.now in (
      λ bad. let no : ⊥ = cc bad in absurd no,
      λ cause.
          let p : Pair blocks = cause.0 in
          elim cause.1 [
            | inl first ↦ absurd (c.loop-behind.invariant p first.0 (omega (arith, slice_get_within blocks p.second p.later p.at_second)) first.1)
            | inr second ↦ absurd (c.loop-before.invariant p second.0 (omega (arith, p.ordered, second.0)) second.1)
          ],
    )
