use Rattle.std.proofs.Common.{◌≡◌, drop, length}
use Rattle.byte_store.specs.Composed.{owned_patches}
use Rattle.byte_store.specs.Laid.{laid}
use Rattle.elf_write.proofs.bytes.lay.Given as goal

-- with the pieces that are left laid too, the bytes are those with all of them
abbrev pub invariant-loop-piece : goal.invariant-loop-piece
invariant-loop-piece l = record {
  long : length l.bytes ≡ length l.initial.bytes;
  same : laid (drop l.piece-index (owned_patches l.pieces)) l.bytes ≡ laid (owned_patches l.pieces) l.initial.bytes;
}
