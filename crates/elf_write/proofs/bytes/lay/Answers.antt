use Rattle.std.proofs.Common.{◌∙◌, ◌+◌, ℕ, List, ap, drop, length, arith}
use Rattle.byte_store.specs.Composed.{owned_patches}
use Rattle.byte_store.specs.Known.{put_at}
use Rattle.byte_store.specs.Laid.{laid}
use Rattle.elf_write.proofs.OwnedPieces.{laid-next, one_lies}
use Rattle.elf_write.proofs.bytes.lay.Goals as goal

pub put-requires : goal.put-requires
put-requires c = omega (
  arith,
  c.loop-piece.auto.bytes,
  c.as_slice.ensures.len,
  one_lies c.args.pieces.now (length c.args.bytes.now) c.loop-piece.piece-index c.piece-item.result c.requires c.loop-piece-test.true c.piece-item.is,
)

pub loop-piece-preserved : goal.loop-piece-preserved
loop-piece-preserved c = record {
  long = c.put.auto.bytes ∙ c.loop-piece.invariant.long;
  same =
      ap (λ (l : List ℕ). laid (drop (c.loop-piece.piece-index + 1) (owned_patches c.args.pieces.now)) l)
      (c.put.ensures ∙ ap (λ (l : List ℕ). put_at c.piece-item.result.offset l c.loop-piece.bytes) c.as_slice.ensures.value)
      ∙ laid-next c.args.pieces.now c.loop-piece.piece-index c.piece-item.result (laid (owned_patches c.args.pieces.now) c.args.bytes.now)
      c.loop-piece.bytes c.loop-piece-test.true c.piece-item.is c.loop-piece.invariant.same;
}
