use Rattle.std.proofs.Common.{◌∙◌, rules}
use Rattle.std.proofs.lemmas.List.Sorted.{IsPartitionPoint-from_clause}
use Rattle.elf_layout_segments.proofs.KeyLaws.{first-key, is_before, no_key, parted_keys}
use Rattle.elf_layout_segments.proofs.keys.first_just.Goals as goal

pub returns-then-at-keys : goal.returns-then-at-keys
returns-then-at-keys c = λ loaded sections rise are.
    let point = IsPartitionPoint-from_clause (is_before c.args.part) c.args.keys.now c.partition_point-at.result c.partition_point-at.ensures.partitioned
    (parted_keys c.args.part c.args.keys.now are.sorted) (λ a r q k. search rules) in
    c.position_if.ensures ∙ first-key loaded c.args.part sections c.args.keys.now rise are c.partition_point-at.result point c.if-at-keys.true _

pub returns-else-at-keys : goal.returns-else-at-keys
returns-else-at-keys c = λ loaded sections rise are.
    let point = IsPartitionPoint-from_clause (is_before c.args.part) c.args.keys.now c.partition_point-at.result c.partition_point-at.ensures.partitioned
    (parted_keys c.args.part c.args.keys.now are.sorted) (λ a r q k. search rules) in
    no_key loaded c.args.part sections c.args.keys.now rise are c.partition_point-at.result point c.if-at-keys.false
