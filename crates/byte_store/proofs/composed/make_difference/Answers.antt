use Rattle.std.proofs.Common.{◌∙◌, ap, length, ℕ}
use Rattle.byte_store.specs.declared.composed.OwnedPiece.{OwnedPiece}
use Rattle.byte_store.specs.declared.pieces.Piece.{Piece}
use Rattle.byte_store.proofs.PushLaws.{lent_length}
use Rattle.byte_store.proofs.composed.make_difference.Goals as goal

pub returns-in_err-pieces-clause-idle : goal.returns-in_err-pieces-clause-idle
returns-in_err-pieces-clause-idle g c = λ no_growth no_pieces fits.
    let granted = c.in_err-pieces.ensures.none (ap (length {A = OwnedPiece}) c.deref.ensures.value ∙ no_pieces) in
    absurd (cc granted)

pub returns-in-Ok-clause-idle : goal.returns-in-Ok-clause-idle
returns-in-Ok-clause-idle g c = λ no_growth no_pieces fits.
    c.in-Ok.ensures.idle (record {
      growth = ap (length {A = ℕ}) c.deref-2.ensures.value ∙ no_growth;
      pieces =
          ap (length {A = Piece}) c.deref-3.ensures.value
          ∙ lent_length c.in_ok-pieces.pieces.items c.deref.result.now c.in_ok-pieces.ensures.lent
          ∙ ap (length {A = OwnedPiece}) c.deref.ensures.value
          ∙ no_pieces;
      end = fits;
    })
