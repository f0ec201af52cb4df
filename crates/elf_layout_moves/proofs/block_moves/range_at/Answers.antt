use Rattle.std.proofs.Common.{◌≡◌, ◌∙◌, ◌-◌, ℕ, ap, refl, rules, subst, sym}
use Rattle.std.proofs.lemmas.List.Sorted.{IsPartitionPoint-from_clause}
use Rattle.std.proofs.lemmas.Option.{same_Some, slice_get_read}
use Rattle.elf_layout_plan.specs.Blocks.{Block}
use Rattle.elf_layout_moves.specs.BlockSteps.{IsRangeOf}
use Rattle.elf_layout_moves.proofs.RangeSteps.{is_range, parted, starts_within}
use Rattle.elf_layout_moves.proofs.block_moves.range_at.Goals as goal

pub returns : goal.returns
returns c = λ x at.
    let block : Block = c.index-sorted-place.result in
    let point = IsPartitionPoint-from_clause (starts_within block.start block.size) c.args.sorted.now _ c.partition_point-reach.ensures.partitioned
    (parted c.args.sorted.now block.start block.size c.requires.ordered) (λ a r q k. search rules) in
    let there = slice_get_read c.args.sorted.now _ c.args.place block refl c.requires.within c.index-sorted-place.is in
    let range = is_range c.args.sorted.now c.args.place c.partition_point-reach.result block c.requires.ordered there point in
    let same : block ≡ x = same_Some block x (sym there ∙ at) in
    let priority : block.priority ≡ c.block.inside.priority = ap (λ (b : Block). b.priority) (sym c.block.view_is) in
    subst (λ (b : Block). IsRangeOf c.args.sorted.now c.args.place b (record { start = c.args.place; size = c.saturating_sub.result; priority = c.block.inside.priority })) same
    (subst (λ (size : ℕ). IsRangeOf c.args.sorted.now c.args.place block (record { start = c.args.place; size = size; priority = c.block.inside.priority })) (sym c.saturating_sub.ensures)
    (subst (λ (p : ℕ). IsRangeOf c.args.sorted.now c.args.place block (record { start = c.args.place; size = c.partition_point-reach.result - c.args.place; priority = p })) priority range))
