use Rattle.std.proofs.Common.{ℕ, ◌<◌, slice_index_or}
use Rattle.test_slow_layout.specs.Slow.{DoesPieceFit}
use Rattle.test_slow_layout.specs.declared.plain.Piece.{Piece}
use Rattle.test_slow_layout.proofs.slow.do_pieces_fit.Given as goal

-- the program headers so far fit
abbrev pub invariant-loop-piece : goal.invariant-loop-piece
invariant-loop-piece l = (k : ℕ) (d : Piece) → k < l.piece-index → DoesPieceFit l.plain (slice_index_or l.pieces k d)
