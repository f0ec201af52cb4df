use Rattle.std.proofs.Common.{List, refl, arith}
use Rattle.std.proofs.lemmas.Option.{slice_get-get_or}
use Rattle.elf_layout_plan.specs.declared.block.Block.{Block}
use Rattle.elf_layout_plan.specs.MovedBlocks.{IsStuck}
use Rattle.test_elf.proofs.PairSteps.{all_pairs, none_so_far, row_ends, some_pair}
use Rattle.test_elf.proofs.blocks.plain.has_stuck.Goals as goal

pub returns-then-is_stuck : goal.returns-then-is_stuck
returns-then-is_stuck c =
    let blocks : List Block = c.args.blocks.now in (
      λ _. some_pair blocks (λ a b. IsStuck a b) c.loop-first.first c.loop-second.second _ _ c.is_stuck.result
          (slice_get-get_or blocks c.loop-first.first _ (omega arith)) (slice_get-get_or blocks c.loop-second.second _ (omega arith))
          c.is_stuck.ensures (omega arith) c.if-is_stuck.true,
      λ _. refl,
    )

pub loop-second-preserved : goal.loop-second-preserved
loop-second-preserved c =
    let blocks : List Block = c.args.blocks.now in
    none_so_far blocks (λ a b. IsStuck a b) c.loop-first.first c.loop-second.second _ _ c.is_stuck.result
    (slice_get-get_or blocks c.loop-first.first _ (omega arith)) (slice_get-get_or blocks c.loop-second.second _ (omega arith))
    c.is_stuck.ensures c.if-is_stuck.false c.loop-second.invariant

pub loop-first-preserved : goal.loop-first-preserved
loop-first-preserved c = row_ends c.args.blocks.now (λ p. IsStuck p.earlier p.later → ⊥) c.loop-first.first c.loop-second.second c.loop-second.invariant (omega arith)

pub returns : goal.returns
returns c = (
  λ bad. let no : ⊥ = cc bad in absurd no,
  λ stuck. absurd (all_pairs c.args.blocks.now (λ p. IsStuck p.earlier p.later → ⊥) c.loop-first.first c.loop-first.invariant (omega arith) stuck.0 stuck.1),
)
