use Rattle.std.proofs.Common.{◌+◌, ◌<◌, [], arith}
use Rattle.byte_store.specs.Laid.{patch_of}
use Rattle.byte_store.specs.declared.pieces.Piece.{Piece}
use Rattle.byte_store.proofs.PushLaws.{owned_all}
use Rattle.byte_store.proofs.StandLaws.{all_unmapped}
use Rattle.byte_store.proofs.shown.push_owned.Goals as goal

abbrev none : Piece
none = record { offset = 0; bytes = record { ref_ptr = (0, 0); now = [] } }

pub overflow_add-offset : goal.overflow_add-offset
overflow_add-offset c =
    omega (arith, all_unmapped (λ patch. c.args.offset + patch.offset < 18446744073709551616) patch_of c.args.pieces.now c.requires c.loop-piece.piece-index none c.loop-piece-test.true)

pub returns : goal.returns
returns c = owned_all c.args.offset c.args.pieces.now c.loop-piece.piece-index _ _ c.loop-piece-test.false c.loop-piece.invariant
