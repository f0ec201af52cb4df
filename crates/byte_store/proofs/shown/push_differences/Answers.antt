use Rattle.std.proofs.Common.{◌+◌, ◌++◌, ◌-◌, ◌∙◌, List, ap, drop, length, map, refl, take, ℕ}
use Rattle.std.proofs.lemmas.Result.{on_ok_weaker}
use Rattle.byte_store.specs.Laid.{patches_of}
use Rattle.byte_store.specs.Composed.{owned_patches}
use Rattle.byte_store.specs.Shown.{shifted}
use Rattle.byte_store.specs.declared.pieces.Piece.{Piece}
use Rattle.byte_store.proofs.ShownLaws.{adds_moved}
use Rattle.byte_store.proofs.shown.push_differences.Goals as goal

pub returns : goal.returns
returns c =
    let front = c.args.front.now in
    let part = c.args.part.now in
    let offset = c.args.offset in
    let pieces = c.in_ok-pieces.pieces.items in
    let before = c.args.changes.now.items in
    let old : List ℕ = take (offset + length part - offset) (drop offset front) in
    on_ok_weaker c.push_owned.result
    (λ pushed.
    adds_moved front part old offset (patches_of pieces) c.requires refl
    c.in_ok-pieces.ensures.inside c.in_ok-pieces.ensures.makes c.in_ok-pieces.ensures.stand c.in_ok-pieces.ensures.changes
    before c.push_owned.new.changes.items
    (pushed ∙ ap (λ (ps : List Piece). owned_patches before ++ map (shifted offset) (patches_of ps)) c.deref.ensures.value))
    c.push_owned.ensures
