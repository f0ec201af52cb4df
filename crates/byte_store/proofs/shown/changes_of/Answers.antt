use Rattle.std.proofs.Common.{[], List, subst}
use Rattle.byte_store.specs.Laid.{patches_of}
use Rattle.byte_store.specs.Shown.{Adds, zero_patches}
use Rattle.byte_store.specs.declared.composed.Span.{Span}
use Rattle.byte_store.specs.declared.composed.OwnedPiece.{OwnedPiece}
use Rattle.byte_store.proofs.ShownLaws.{adds_more, adds_shown}
use Rattle.byte_store.proofs.shown.changes_of.Goals as goal

pub returns : goal.returns
returns c =
    let front = c.args.front.now in
    let patches = patches_of c.args.pieces.now in
    let zeros = c.in_ok-spans.spans.items in
    let middle = c.push_pieces.new.changes.items in
    let changes = c.push_zeros.new.changes.items in
    let P : List OwnedPiece → Type 0 = λ before. Adds front patches before middle in
    let Q : List Span → Type 0 = λ spans. Adds front (zero_patches spans) middle changes in
    let first : Adds front patches [] middle = subst P c.new-changes.ensures.items c.in_ok-push_pieces.ensures in
    let second : Adds front (zero_patches zeros) middle changes = subst Q c.deref.ensures.value c.in_ok-push_zeros.ensures in
    record {
      zeros = zeros;
      within = c.in_ok-spans.ensures.within;
      are = c.in_ok-spans.ensures.zeros;
      shows = adds_shown front _ changes (adds_more front patches (zero_patches zeros) [] middle changes first second);
    }
