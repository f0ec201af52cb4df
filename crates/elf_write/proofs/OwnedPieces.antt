-- Pieces that are laid over bytes one after the other.
use Rattle.std.proofs.Common.{◌≡◌, ◌<◌, ◌+◌, ◌∙◌, ℕ, List, ◌∷◌, All, length, drop, get_or, sym, ap, subst, arith}
use Rattle.std.proofs.lemmas.List.{drop_more, get_or-map, length-map}
use Rattle.byte_store.specs.Composed.{owned_patch, owned_patches}
use Rattle.byte_store.specs.Known.{put_at}
use Rattle.byte_store.specs.Laid.{LiesIn, Patch, laid}
use Rattle.byte_store.specs.declared.composed.OwnedPiece.{OwnedPiece}

-- a piece of some that lie in so many bytes
pub one_lies : (pieces : List OwnedPiece) (len i : ℕ) (piece : OwnedPiece) → All (LiesIn len) (owned_patches pieces)
    → i < length pieces → piece ≡ get_or pieces i piece → LiesIn len (owned_patch piece)
one_lies pieces len i piece inside below is =
    let long : length (owned_patches pieces) ≡ length pieces = length-map pieces owned_patch in
    let P : Patch → Type 0 = LiesIn len in
    subst P (get_or-map owned_patch pieces i piece (owned_patch piece) below ∙ ap owned_patch (sym is)) (inside i (owned_patch piece) (omega arith))

-- pieces with one more laid
pub laid-next : (pieces : List OwnedPiece) (i : ℕ) (piece : OwnedPiece) (old now : List ℕ) → i < length pieces → piece ≡ get_or pieces i piece
    → laid (drop i (owned_patches pieces)) now ≡ old
    → laid (drop (i + 1) (owned_patches pieces)) (put_at piece.offset piece.bytes.items now) ≡ old
laid-next pieces i piece old now within is so_far =
    let first : drop i (owned_patches pieces) ≡ owned_patch piece ∷ drop (i + 1) (owned_patches pieces) =
    drop_more (owned_patches pieces) i (owned_patch piece) (omega (arith, length-map pieces owned_patch))
    ∙ ap (λ (q : Patch). q ∷ drop (i + 1) (owned_patches pieces)) (get_or-map owned_patch pieces i piece (owned_patch piece) within ∙ ap owned_patch (sym is)) in
    sym (ap (λ (l : List Patch). laid l now) first) ∙ so_far
