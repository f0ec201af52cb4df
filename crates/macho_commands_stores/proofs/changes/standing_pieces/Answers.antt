-- Each piece lies in the bytes, and all of them make the new bytes.
use Rattle.std.proofs.Common.{List, [], ap, arith, length, map, ℕ, ◌∙◌}
use Rattle.std.proofs.lemmas.List.{take_all}
use Rattle.byte_store.specs.declared.pieces.Piece.{Piece}
use Rattle.byte_store.specs.Laid.{patches_of}
use Rattle.byte_store.proofs.RunLaws.{piece_lies}
use Rattle.macho_commands_stores.specs.Pieces.{standing_in}
use Rattle.macho_commands_stores.proofs.StandingLaws.{parts_standing}
use Rattle.macho_commands_stores.proofs.changes.standing_pieces.Goals as goal

abbrev none : Piece
none = record { offset = 0; bytes = record { ref_ptr = (0, 0); now = [] } }

pub overflow_add-at : goal.overflow_add-at
overflow_add-at c =
    omega (arith, piece_lies c.args.pieces.now (length c.args.bytes.now) c.loop-piece.piece-index none c.requires c.loop-piece-test.true)

pub slice_bounds-push-end : goal.slice_bounds-push-end
slice_bounds-push-end c =
    omega (arith, piece_lies c.args.pieces.now (length c.args.bytes.now) c.loop-piece.piece-index none c.requires c.loop-piece-test.true)

pub returns : goal.returns
returns c = λ file are.
    let all : List Piece = c.args.pieces.now in
    let bytes : List ℕ = c.args.bytes.now in
    parts_standing file bytes all c.loop-piece.standing.items
    (c.loop-piece.invariant ∙ ap (λ (l : List Piece). map (standing_in bytes) (patches_of l)) (take_all c.loop-piece.piece-index all (omega (arith, c.loop-piece-test.false)))) are
