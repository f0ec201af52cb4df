-- For callers: what the crates above may cite of the sections that move.

-- an image with its sizes, and when two blocks of it overlap that can't move
pub use Rattle.elf_layout_moves.proofs.ImagesWithSizes.{resized_is, stuck_at}
-- how three numbers are compared one after the other
pub use Rattle.elf_layout_moves.proofs.OrderSteps.{by_three_total, cmp_equal, cmp_less}
