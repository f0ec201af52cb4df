use Rattle.std.proofs.Common.{◌≡◌, ◌≤◌, count_by, take}
use Rattle.elf_layout_segments.specs.SplitCounts.{is_split_at}
use Rattle.elf_layout_segments.specs.AnchorPositions.{anchor_model}
use Rattle.elf_layout_segments.specs.declared.anchors.AnchorAt.{AnchorAt}
use Rattle.elf_layout_segments.proofs.splits.count_split.Given as goal

abbrev pub invariant-loop-anchor : goal.invariant-loop-anchor
invariant-loop-anchor l = record {
  counted : l.count ≡ count_by (λ (x : AnchorAt). is_split_at l.starts (anchor_model x)) (take l.anchor-index l.anchors);
  few : l.count ≤ l.anchor-index;
}
