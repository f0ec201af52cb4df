-- For callers: what the crate above may cite of what program headers go by, and of the rounds.

-- sections that move are sections of the image, and few program headers more are needed
pub use Rattle.elf_layout_segments.proofs.Positions.{moved_within}
pub use Rattle.elf_layout_segments.proofs.RoundSteps.{few_needed}
-- what the positions and marks of anchors mean
pub use Rattle.elf_layout_segments.proofs.SplitSteps.{AreNotesOf, AreThere, IsThere, begins_as_positions, anchor-at, anchor-there, anchors-length, length-sized, marked-is}
-- an image with its sizes
pub use Rattle.elf_layout_moves.proofs.ForCallers.{resized_is}
