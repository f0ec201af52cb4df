-- Only the first that isn't before the memory can lie in it, or one of those behind.
use Rattle.std.proofs.Common.{ℕ, List, arith, length, rules, ◌∙◌}
use Rattle.std.specs.Prelude.{nat_lt}
use Rattle.std.proofs.lemmas.Bool.{le-ltb}
use Rattle.std.proofs.lemmas.List.Sorted.{IsPartitionPoint-from_clause, IsPartitionedBy-ltb}
use Rattle.elf_image_uses.proofs.AlongSteps.{by_first, first_within, none_within}
use Rattle.elf_image_uses.proofs.along.is_some_within.Goals as goal

pub overflow_sub-result : goal.overflow_sub-result
overflow_sub-result c =
    let xs : List ℕ = c.args.addresses.now in
    let point = IsPartitionPoint-from_clause (λ x. nat_lt x c.args.p.p_vaddr) xs c.partition_point-before.result c.partition_point-before.ensures.partitioned
    (IsPartitionedBy-ltb (λ x. x) xs c.args.p.p_vaddr c.requires) (λ a r q k. search rules) in
    omega (arith, first_within c.args.p xs c.requires c.partition_point-before.result c.partition_point-before.ensures.bound point c.if-before-addresses.true)

pub returns-then-before-addresses : goal.returns-then-before-addresses
returns-then-before-addresses c =
    let xs : List ℕ = c.args.addresses.now in
    let point = IsPartitionPoint-from_clause (λ x. nat_lt x c.args.p.p_vaddr) xs c.partition_point-before.result c.partition_point-before.ensures.partitioned
    (IsPartitionedBy-ltb (λ x. x) xs c.args.p.p_vaddr c.requires) (λ a r q k. search rules) in
    by_first c.args.p xs c.requires c.partition_point-before.result c.partition_point-before.ensures.bound point c.if-before-addresses.true

pub returns-else-before-addresses : goal.returns-else-before-addresses
returns-else-before-addresses c =
    let xs : List ℕ = c.args.addresses.now in
    let point = IsPartitionPoint-from_clause (λ x. nat_lt x c.args.p.p_vaddr) xs c.partition_point-before.result c.partition_point-before.ensures.partitioned
    (IsPartitionedBy-ltb (λ x. x) xs c.args.p.p_vaddr c.requires) (λ a r q k. search rules) in
    le-ltb c.partition_point-before.result (length xs) c.if-before-addresses.false
    ∙ none_within c.args.p xs c.requires c.partition_point-before.result c.partition_point-before.ensures.bound point c.if-before-addresses.false
