use Rattle.std.proofs.Common.{◌≡◌, drop, length, All}
use Rattle.byte_store.specs.Composed.{owned_patches}
use Rattle.byte_store.specs.Laid.{LiesIn, laid}
use Rattle.test_cases_written.proofs.written.lay.Given as goal

-- with the pieces that are left over them, the bytes are those with all pieces over them
abbrev pub invariant-loop-piece : goal.invariant-loop-piece
invariant-loop-piece l = record {
  sized : length l.bytes ≡ length l.initial.bytes;
  left : All (LiesIn (length l.initial.bytes)) (owned_patches l.pieces)
      → laid (owned_patches (drop l.piece-index l.pieces)) l.bytes ≡ laid (owned_patches l.pieces) l.initial.bytes;
}
