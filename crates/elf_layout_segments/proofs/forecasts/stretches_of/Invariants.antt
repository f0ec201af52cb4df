use Rattle.std.proofs.Common.{map, take}
use Rattle.elf_layout_segments.specs.AnchorPositions.{anchor_model}
use Rattle.elf_layout_segments.specs.Forecasts.{AreStretchesIn, parts_of}
use Rattle.elf_layout_segments.proofs.forecasts.stretches_of.Given as goal

abbrev pub invariant-loop-anchor : goal.invariant-loop-anchor
invariant-loop-anchor l = AreStretchesIn l.begins (parts_of (map anchor_model (take l.anchor-index l.anchors))) l.made.items
