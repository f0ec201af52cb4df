use Rattle.std.proofs.Common.{List, refl, arith}
use Rattle.std.proofs.lemmas.Option.{slice_get-get_or}
use Rattle.elf_layout_plan.specs.declared.block.Block.{Block}
use Rattle.elf_layout_plan.specs.MovedBlocks.{IsEarlier}
use Rattle.test_elf.proofs.PairSteps.{all_pairs, each_so_far, not_each, row_ends}
use Rattle.test_elf.proofs.blocks.plain.is_ordered.Goals as goal

pub returns-then-not-is_earlier : goal.returns-then-not-is_earlier
returns-then-not-is_earlier c =
    let blocks : List Block = c.args.blocks.now in (
      λ bad. let no : ⊥ = cc bad in absurd no,
      not_each blocks (λ a b. IsEarlier a b) c.loop-first.first c.loop-second.second _ _ c.is_earlier.result
          (slice_get-get_or blocks c.loop-first.first _ (omega arith)) (slice_get-get_or blocks c.loop-second.second _ (omega arith))
          c.is_earlier.ensures (omega arith) c.if-not-is_earlier.true,
    )

pub loop-second-preserved : goal.loop-second-preserved
loop-second-preserved c =
    let blocks : List Block = c.args.blocks.now in
    each_so_far blocks (λ a b. IsEarlier a b) c.loop-first.first c.loop-second.second _ _ c.is_earlier.result
    (slice_get-get_or blocks c.loop-first.first _ (omega arith)) (slice_get-get_or blocks c.loop-second.second _ (omega arith))
    c.is_earlier.ensures c.if-not-is_earlier.false c.loop-second.invariant

pub loop-first-preserved : goal.loop-first-preserved
loop-first-preserved c = row_ends c.args.blocks.now (λ p. IsEarlier p.earlier p.later) c.loop-first.first c.loop-second.second c.loop-second.invariant (omega arith)

pub returns : goal.returns
returns c = (λ _. all_pairs c.args.blocks.now (λ p. IsEarlier p.earlier p.later) c.loop-first.first c.loop-first.invariant (omega arith), λ _. refl)
