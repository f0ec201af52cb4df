-- The count splits the places into those up to the section's start, and those behind it.
use Rattle.std.proofs.Common.{◌∙◌, leb, rules, sym}
use Rattle.std.proofs.lemmas.Bool.{eq-eqb}
use Rattle.std.proofs.lemmas.List.Sorted.{IsPartitionPoint-from_clause, IsPartitionedBy-leb}
use Rattle.elf_image_rules.specs.Places.{place_of}
use Rattle.elf_image_placement.proofs.PlacementClear.{clear_before, clear_by_first}
use Rattle.elf_image_placement.proofs.placement.is_clear_of.Goals as goal

pub returns-then-passed-ends : goal.returns-then-passed-ends
returns-then-passed-ends c =
    let ends = c.args.ends.now in
    let place = c.args.section.sh_addr in
    let point = IsPartitionPoint-from_clause (λ e. leb e place) _ _ c.partition_point-passed.ensures.partitioned (IsPartitionedBy-leb (λ e. e) ends place c.requires) (λ a r q k. search rules) in
    eq-eqb _ _ c.if-passed-ends.true ∙ sym (clear_before ends (place_of c.args.section) c.requires c.partition_point-passed.result c.partition_point-passed.ensures.bound point c.if-passed-ends.true)

pub returns-else-passed-ends : goal.returns-else-passed-ends
returns-else-passed-ends c =
    let ends = c.args.ends.now in
    let place = c.args.section.sh_addr in
    let point = IsPartitionPoint-from_clause (λ e. leb e place) _ _ c.partition_point-passed.ensures.partitioned (IsPartitionedBy-leb (λ e. e) ends place c.requires) (λ a r q k. search rules) in
    sym (clear_by_first ends (place_of c.args.section) c.requires c.partition_point-passed.result c.partition_point-passed.ensures.bound point c.if-passed-ends.false)
