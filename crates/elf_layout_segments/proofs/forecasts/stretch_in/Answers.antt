use Rattle.std.proofs.Common.{ℕ, List, rules}
use Rattle.std.specs.Prelude.{nat_lt}
use Rattle.std.proofs.lemmas.List.Sorted.{IsPartitionPoint-from_clause, IsPartitionedBy-ltb}
use Rattle.elf_format.specs.Ranges.{end_of}
use Rattle.elf_layout_segments.specs.declared.forecasts.Limited.{Limited}
use Rattle.elf_layout_segments.proofs.ForecastSteps.{stretch_is}
use Rattle.elf_layout_segments.proofs.forecasts.stretch_in.Goals as goal

pub returns : goal.returns
returns c =
    let xs : List Limited = c.args.begins.now in
    let start : ℕ = c.args.part.start in
    let end : ℕ = end_of c.args.part in
    let first = IsPartitionPoint-from_clause (λ (b : Limited). nat_lt b.start start) xs c.partition_point.result c.partition_point.ensures.partitioned
    (IsPartitionedBy-ltb (λ (b : Limited). b.start) xs start c.requires) (λ a r q k. search rules) in
    let last = IsPartitionPoint-from_clause (λ (b : Limited). nat_lt b.start end) xs c.partition_point-2.result c.partition_point-2.ensures.partitioned
    (IsPartitionedBy-ltb (λ (b : Limited). b.start) xs end c.requires) (λ a r q k. search rules) in
    stretch_is xs c.args.part (record { from = c.partition_point.result; until = c.partition_point-2.result }) first.0 first.1 last.0 last.1 c.partition_point-2.ensures.bound
