use Rattle.std.proofs.Common.{◌≡◌, List, ◌++◌, ◌∷◌, [], ℕ, subst, sym, arith, length-append}
use Rattle.std.specs.Prelude.{Some, slice_get}
use Rattle.elf_layout_plan.specs.declared.block.Block.{Block as Ranged}
use Rattle.elf_layout_moves.specs.BlockSteps.{IsRangeOf}
use Rattle.elf_layout_plan.specs.Blocks.{Block}
use Rattle.elf_layout_moves.proofs.RangeSteps.{one_range_more}
use Rattle.elf_layout_moves.proofs.block_moves.ranges.Goals as goal

pub loop-place-preserved : goal.loop-place-preserved
loop-place-preserved c =
    let items : c.push.new.self.items ≡ c.loop-place.made.items ++ c.range_at.result ∷ [] = c.in_ok-push.ensures.items in
    record {
      many = rw items (omega (arith, length-append {A = Ranged}));
      each = subst (λ (made : List Ranged). (i : ℕ) (x : Block) (range : Ranged) → slice_get c.args.sorted.now i ≡ Some x → slice_get made i ≡ Some range → IsRangeOf c.args.sorted.now i x range) (sym items)
          (one_range_more c.args.sorted.now c.loop-place.made.items c.range_at.result c.loop-place.place c.loop-place.invariant.many c.loop-place.invariant.each c.range_at.ensures);
    }
