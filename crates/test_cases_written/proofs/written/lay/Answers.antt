-- The next piece lies within the bytes, so that all of it is put there.
use Rattle.std.proofs.Common.{◌≡◌, ◌+◌, ◌-◌, ◌<◌, ◌≤◌, ◌∙◌, ℕ, List, ◌∷◌, ap, arith, drop, get_or, length, subst, sym, take}
use Rattle.std.proofs.lemmas.List.{drop_more, get_or-map, length-map, take_all}
use Rattle.std.proofs.lemmas.List.Elements.{All-get_or}
use Rattle.byte_store.specs.Composed.{owned_patch, owned_patches}
use Rattle.byte_store.specs.Known.{put_at}
use Rattle.byte_store.specs.Laid.{LiesIn, laid}
use Rattle.byte_store.specs.declared.composed.OwnedPiece.{OwnedPiece}
use Rattle.test_cases_written.proofs.written.lay.Goals as goal

pub loop-piece-preserved : goal.loop-piece-preserved
loop-piece-preserved c =
    let all = c.args.pieces.now in
    let i = c.loop-piece.piece-index in
    let piece = c.piece-item.result in
    let patch = owned_patch piece in
    let bytes = c.loop-piece.bytes in
    let most = length c.args.bytes.now in
    let sized : length bytes ≡ most = c.loop-piece.invariant.sized in
    let within : i < length all = omega arith in
    let is : get_or all i piece ≡ piece = cc in
    let rest = drop (i + 1) all in
    let left : drop i all ≡ piece ∷ rest = drop_more all i piece within ∙ ap (λ (p : OwnedPiece). p ∷ rest) is in
    record {
      sized = omega arith;
      left = λ inside.
          let listed : i < length (owned_patches all) = omega (arith, length-map all owned_patch) in
          let there = get_or-map owned_patch all i piece patch within ∙ ap owned_patch is in
          let lies : LiesIn most patch = subst (LiesIn most) there (All-get_or (LiesIn most) (owned_patches all) i patch listed inside) in
          let fits : length piece.bytes.items ≤ length bytes - piece.offset = omega arith in
          let part = ap (take (length bytes - piece.offset)) c.deref.ensures.value ∙ take_all (length bytes - piece.offset) piece.bytes.items fits in
          let put = c.put.ensures ∙ ap (λ (part : List ℕ). put_at piece.offset part bytes) part in
          ap (laid (owned_patches rest)) put
          ∙ ap (λ (pieces : List OwnedPiece). laid (owned_patches pieces) bytes) (sym left)
          ∙ c.loop-piece.invariant.left inside;
    }
