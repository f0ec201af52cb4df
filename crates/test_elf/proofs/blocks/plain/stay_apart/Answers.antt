use Rattle.std.proofs.Common.{◌≡◌, List, Bool, Some, false, refl, arith}
use Rattle.std.specs.Prelude.{slice_get}
use Rattle.std.proofs.lemmas.Option.{slice_get-get_or}
use Rattle.elf_layout_plan.specs.declared.block.Block.{Block}
use Rattle.elf_layout_plan.specs.MovedBlocks.{IsApart}
use Rattle.test_elf.proofs.PairSteps.{all_pairs, apart_here, not_apart, row_ends, row_more}
use Rattle.test_elf.proofs.blocks.plain.stay_apart.Goals as goal

pub returns-then-clash : goal.returns-then-clash
returns-then-clash c =
    let blocks : List Block = c.args.blocks.now in
    let moves : List Bool = c.args.moves.now in (
      λ bad. let no : ⊥ = cc bad in absurd no,
      not_apart blocks moves c.loop-first.first c.loop-second.second _ _ _ _ c.clash.result
          (slice_get-get_or blocks c.loop-first.first _ (omega arith)) (slice_get-get_or blocks c.loop-second.second _ (omega arith))
          (slice_get-get_or moves c.loop-first.first _ (omega arith)) (slice_get-get_or moves c.loop-second.second _ (omega arith))
          c.clash.ensures (omega arith) c.if-clash.true,
    )

pub loop-second-preserved : goal.loop-second-preserved
loop-second-preserved c =
    let blocks : List Block = c.args.blocks.now in
    let moves : List Bool = c.args.moves.now in
    row_more blocks (λ p. slice_get moves p.first ≡ Some false → slice_get moves p.second ≡ Some false → IsApart p.earlier p.later)
    c.loop-first.first c.loop-second.second c.loop-second.invariant
    (apart_here blocks moves c.loop-first.first c.loop-second.second _ _ _ _ c.clash.result
    (slice_get-get_or blocks c.loop-first.first _ (omega arith)) (slice_get-get_or blocks c.loop-second.second _ (omega arith))
    (slice_get-get_or moves c.loop-first.first _ (omega arith)) (slice_get-get_or moves c.loop-second.second _ (omega arith))
    c.clash.ensures c.if-clash.false)

pub loop-first-preserved : goal.loop-first-preserved
loop-first-preserved c =
    row_ends c.args.blocks.now (λ p. slice_get c.args.moves.now p.first ≡ Some false → slice_get c.args.moves.now p.second ≡ Some false → IsApart p.earlier p.later)
    c.loop-first.first c.loop-second.second c.loop-second.invariant (omega arith)

pub returns : goal.returns
returns c = (
  λ _. all_pairs c.args.blocks.now (λ p. slice_get c.args.moves.now p.first ≡ Some false → slice_get c.args.moves.now p.second ≡ Some false → IsApart p.earlier p.later)
      c.loop-first.first c.loop-first.invariant (omega arith),
  λ _. refl,
)
