use Rattle.std.proofs.Common.{List, rules}
use Rattle.std.specs.Prelude.{nat_lt}
use Rattle.std.proofs.lemmas.List.Sorted.{IsPartitionPoint-from_clause, IsPartitionedBy-ltb}
use Rattle.elf_layout_segments.specs.declared.starts.Begin.{Begin}
use Rattle.elf_layout.specs.Reaches.{start_of}
use Rattle.elf_layout.proofs.reaches.count_before.Goals as goal

pub returns : goal.returns
returns c =
    let xs : List Begin = c.args.begins.now in
    let point = IsPartitionPoint-from_clause (λ (b : Begin). nat_lt b.start c.args.offset) xs c.partition_point.result c.partition_point.ensures.partitioned
    (IsPartitionedBy-ltb start_of xs c.args.offset c.requires) (λ a r q k. search rules) in
    record { within = c.partition_point.ensures.bound; before = point.0; behind = point.1 }
