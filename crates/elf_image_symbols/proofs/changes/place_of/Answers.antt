-- The search ends at the change, or where it would stand.
use Rattle.std.proofs.Common.{ℕ, List, arith, rules}
use Rattle.std.specs.Prelude.{nat_lt}
use Rattle.std.proofs.lemmas.List.Sorted.{IsPartitionPoint-from_clause, IsPartitionedBy-ltb}
use Rattle.elf_image_symbols.specs.declared.change.Change.{Change}
use Rattle.elf_image_symbols.specs.Changes.{number_of}
use Rattle.elf_image_symbols.proofs.ChangeLaws.{gap-end, gap-reached, place-reached}
use Rattle.elf_image_symbols.proofs.changes.place_of.Goals as goal

pub returns-then-k-changes : goal.returns-then-k-changes
returns-then-k-changes c =
    let cs : List Change = c.args.changes.now in
    let n : ℕ = c.args.number in
    let reached = IsPartitionPoint-from_clause (λ (b : Change). nat_lt b.number n) cs c.partition_point-k.result c.partition_point-k.ensures.partitioned (IsPartitionedBy-ltb number_of cs n c.requires) (λ a r q k. search rules) in
    gap-end cs n c.partition_point-k.result reached c.if-k-changes.true

pub returns-then-changes-k : goal.returns-then-changes-k
returns-then-changes-k c =
    let cs : List Change = c.args.changes.now in
    let n : ℕ = c.args.number in
    let reached = IsPartitionPoint-from_clause (λ (b : Change). nat_lt b.number n) cs c.partition_point-k.result c.partition_point-k.ensures.partitioned (IsPartitionedBy-ltb number_of cs n c.requires) (λ a r q k. search rules) in
    place-reached cs n c.partition_point-k.result c.index-changes-k.result reached (omega (arith, c.partition_point-k.ensures.bound, c.if-k-changes.false)) c.if-changes-k.true

pub returns-else-changes-k : goal.returns-else-changes-k
returns-else-changes-k c =
    let cs : List Change = c.args.changes.now in
    let n : ℕ = c.args.number in
    let reached = IsPartitionPoint-from_clause (λ (b : Change). nat_lt b.number n) cs c.partition_point-k.result c.partition_point-k.ensures.partitioned (IsPartitionedBy-ltb number_of cs n c.requires) (λ a r q k. search rules) in
    gap-reached cs n c.partition_point-k.result c.index-changes-k.result c.requires reached (omega (arith, c.partition_point-k.ensures.bound, c.if-k-changes.false)) c.if-changes-k.false
