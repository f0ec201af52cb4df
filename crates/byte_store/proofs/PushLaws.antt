-- Lists that get one more element at each step of a loop.
use Rattle.std.proofs.Common.{◌≡◌, ◌≤◌, ◌<◌, ◌+◌, ℕ, List, [], ◌∷◌, ◌++◌, length, take, map, get_or, refl, sym, ap, ◌∙◌}
use Rattle.std.proofs.lemmas.List.{append_assoc, length-map, map_more, take_all}
use Rattle.byte_store.specs.Known.{put_at}
use Rattle.byte_store.specs.Laid.{Patch, laid, patch_of, patches_of}
use Rattle.byte_store.specs.Composed.{owned_patch, owned_patches}
use Rattle.byte_store.specs.Gaps.{span_of, spans_of}
use Rattle.byte_store.specs.Shown.{behind, shifted}
use Rattle.byte_store.specs.declared.pieces.Piece.{Piece}
use Rattle.byte_store.specs.declared.composed.Span.{Span}
use Rattle.byte_store.specs.declared.composed.OwnedPiece.{OwnedPiece}
use Rattle.byte_store.proofs.LaidLaws.{laid-append}

more : {X Y : Type 0} (f : X → Y) (xs : List X) (i : ℕ) (d : X) (base before after : List Y) → i < length xs → before ≡ base ++ map f (take i xs) → after ≡ before ++ f (get_or xs i d) ∷ [] → after ≡ base ++ map f (take (i + 1) xs)
more {X} {Y} f xs i d base before after below was is =
    is
    ∙ ap (λ (ys : List Y). ys ++ f (get_or xs i d) ∷ []) was
    ∙ append_assoc base (map f (take i xs)) (f (get_or xs i d) ∷ [])
    ∙ ap (λ (ys : List Y). base ++ ys) (sym (map_more f xs i d below))

map-map : {X Y Z : Type 0} (g : Y → Z) (f : X → Y) (xs : List X) → map g (map f xs) ≡ map (λ x. g (f x)) xs
map-map g f [] = refl
map-map g f (x ∷ xs) = ap (λ zs. g (f x) ∷ zs) (map-map g f xs)

-- positions of pieces
abbrev pub piece_span : Piece → Span
piece_span piece = span_of (patch_of piece)

pub spans_all : (pieces : List Piece) (i : ℕ) (base after : List Span) → length pieces ≤ i → after ≡ base ++ map piece_span (take i pieces) → after ≡ base ++ spans_of (patches_of pieces)
spans_all pieces i base after all is =
    is
    ∙ ap (λ (ps : List Piece). base ++ map piece_span ps) (take_all i pieces all)
    ∙ ap (λ (ss : List Span). base ++ ss) (sym (map-map span_of patch_of pieces))

-- copies of pieces, further behind
abbrev pub moved_piece : ℕ → Piece → Patch
moved_piece offset piece = shifted offset (patch_of piece)

pub owned_all : (offset : ℕ) (pieces : List Piece) (i : ℕ) (base after : List Patch) → length pieces ≤ i → after ≡ base ++ map (moved_piece offset) (take i pieces) → after ≡ base ++ map (shifted offset) (patches_of pieces)
owned_all offset pieces i base after all is =
    is
    ∙ ap (λ (ps : List Piece). base ++ map (moved_piece offset) ps) (take_all i pieces all)
    ∙ ap (λ (ps : List Patch). base ++ ps) (sym (map-map (shifted offset) patch_of pieces))

pub lent_length : (lent : List Piece) (pieces : List OwnedPiece) → patches_of lent ≡ owned_patches pieces → length lent ≡ length pieces
lent_length lent pieces is = sym (length-map lent patch_of) ∙ ap (length {A = Patch}) is ∙ length-map pieces owned_patch

-- pieces over what lies behind a position
abbrev pub piece_behind : ℕ → Piece → Patch
piece_behind len piece = behind len (patch_of piece)

pub behind_more : (len : ℕ) (pieces : List Piece) (i : ℕ) (d : Piece) (start before after : List ℕ) → i < length pieces → before ≡ laid (map (piece_behind len) (take i pieces)) start → after ≡ put_at (piece_behind len (get_or pieces i d)).offset (piece_behind len (get_or pieces i d)).bytes before → after ≡ laid (map (piece_behind len) (take (i + 1) pieces)) start
behind_more len pieces i d start before after below was is =
    let next : Patch = piece_behind len (get_or pieces i d) in
    is
    ∙ ap (put_at next.offset next.bytes) was
    ∙ sym (laid-append (map (piece_behind len) (take i pieces)) (next ∷ []) start)
    ∙ ap (λ (ps : List Patch). laid ps start) (sym (map_more (piece_behind len) pieces i d below))

pub behind_all : (len : ℕ) (pieces : List Piece) (i : ℕ) (start after : List ℕ) → length pieces ≤ i → after ≡ laid (map (piece_behind len) (take i pieces)) start → after ≡ laid (map (behind len) (patches_of pieces)) start
behind_all len pieces i start after all is =
    is
    ∙ ap (λ (ps : List Piece). laid (map (piece_behind len) ps) start) (take_all i pieces all)
    ∙ ap (λ (ps : List Patch). laid ps start) (sym (map-map (behind len) patch_of pieces))
