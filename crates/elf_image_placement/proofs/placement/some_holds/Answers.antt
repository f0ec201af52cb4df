-- The count splits the segments into those that begin at the section or before it, and those behind it.
use Rattle.std.proofs.Common.{◌∙◌, leb, not, rules, sym, ap}
use Rattle.std.proofs.lemmas.Bool.{eq-eqb}
use Rattle.std.proofs.lemmas.List.Sorted.{IsPartitionPoint-from_clause}
use Rattle.elf_image_rules.specs.Places.{place_of}
use Rattle.elf_image_placement.proofs.PlacementHeld.{last_holds, no_segment, none_holds, parted_by}
use Rattle.elf_image_placement.proofs.placement.some_holds.Goals as goal

pub returns-then-count-ne0 : goal.returns-then-count-ne0
returns-then-count-ne0 c =
    let place = c.args.section.sh_offset in
    let parted = parted_by c.args.loads.now place c.requires.in_turn in
    let point = IsPartitionPoint-from_clause (λ p. leb p.p_offset place) _ _ c.partition_point-count.ensures.partitioned parted (λ a r q k. search rules) in
    let last = last_holds c.args.loads.now (place_of c.args.section) c.requires.sized c.requires.in_turn c.partition_point-count.result c.partition_point-count.ensures.bound point no_segment c.if-count-ne0.true in
    c.holds.ensures ∙ sym last

pub returns-else-count-ne0 : goal.returns-else-count-ne0
returns-else-count-ne0 c =
    let place = c.args.section.sh_offset in
    let parted = parted_by c.args.loads.now place c.requires.in_turn in
    let point = IsPartitionPoint-from_clause (λ p. leb p.p_offset place) _ _ c.partition_point-count.ensures.partitioned parted (λ a r q k. search rules) in
    let none = none_holds c.args.loads.now (place_of c.args.section) c.requires.sized c.requires.in_turn c.partition_point-count.result c.partition_point-count.ensures.bound point c.if-count-ne0.false in
    ap not (eq-eqb c.partition_point-count.result 0 c.if-count-ne0.false) ∙ sym none
