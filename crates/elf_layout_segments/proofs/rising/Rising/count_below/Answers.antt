use Rattle.std.proofs.Common.{ℕ, List, ap, subst, sym, ◌∙◌, rules}
use Rattle.std.specs.Prelude.{count_by, nat_lt}
use Rattle.std.specs.List.Sorted.{IsNonDecreasing}
use Rattle.std.proofs.lemmas.List.Sorted.{IsPartitionPoint-from_clause, IsPartitionedBy-ltb}
use Rattle.elf_layout_segments.proofs.CountLaws.{counted_at}
use Rattle.elf_layout_segments.proofs.rising.Rising.count_below.Goals as goal

pub returns : goal.returns
returns c =
    let xs : List ℕ = c.deref.result.now in
    let rise : IsNonDecreasing xs = subst (λ (ys : List ℕ). IsNonDecreasing ys) (sym c.deref.ensures.value) c.args.self.now.rise in
    let point = IsPartitionPoint-from_clause (λ (x : ℕ). nat_lt x c.args.n) xs c.partition_point.result c.partition_point.ensures.partitioned
    (IsPartitionedBy-ltb (λ (x : ℕ). x) xs c.args.n rise) (λ a r q k. search rules) in
    sym (counted_at (λ (x : ℕ). nat_lt x c.args.n) xs c.partition_point.result point.0 point.1 c.partition_point.ensures.bound)
    ∙ ap (count_by (λ (x : ℕ). nat_lt x c.args.n)) c.deref.ensures.value
