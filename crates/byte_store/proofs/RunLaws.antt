-- Runs of writes.
use Rattle.std.proofs.Common.{◌≡◌, ◌≤◌, ◌<◌, ◌+◌, ◌-◌, ℕ, List, [], ◌∷◌, ◌++◌, length, take, drop, get_or, replicate, refl, sym, ap, ◌∙◌, subst, arith, Option, Some, All}
use Rattle.std.proofs.lemmas.List.Elements.{All-take}
use Rattle.std.proofs.lemmas.List.{append-nil, get_or-map, length-append, length-map, length-take-le, take-append-drop, take_all, take_at, take_more, drop_more}
use Rattle.byte_store.specs.Known.{Becomes, HasLength, KeepsKnown, Puts, PutsFirst, Stays, put_at, resized}
use Rattle.byte_store.specs.Laid.{Lays, LaysAndCuts, LaysFirst, LaysOf, LiesIn, Patch, changed, first_bytes, laid, patch_of, patches_of, total}
use Rattle.byte_store.specs.Fault.{BecomesLonger, BecomesTorn, IsLeft}
use Rattle.byte_store.specs.declared.pieces.Piece.{Piece}
use Rattle.byte_store.specs.declared.writing.Left.{Left}
use Rattle.byte_store.specs.declared.writing.Left.TheVariants.{Longer, Old, Torn}
use Rattle.byte_store.proofs.PutLaws.{put_at-behind, put_at-more, put_at-nil, reaches}
use Rattle.byte_store.proofs.LaidLaws.{first_all, first_none, first_some, laid-append, length-laid}

pub failed : (at : ℕ) (old mid new : Option (List ℕ)) → Stays old mid → Stays mid new → Puts at [] old new
failed at old mid new kept last bytes known inside = last ∙ kept ∙ known ∙ ap Some (sym (put_at-nil at bytes))

pub stopped : (at : ℕ) (old new : Option (List ℕ)) → Stays old new → Puts at [] old new
stopped at old new kept bytes known inside = kept ∙ known ∙ ap Some (sym (put_at-nil at bytes))

-- a part in steps
pub more_put : (at done n : ℕ) (part rest : List ℕ) (old mid new : Option (List ℕ)) → rest ≡ drop done part → done ≤ length part → Puts at (take done part) old mid → Puts (at + done) (take n rest) mid new → Puts at (take (done + n) part) old new
more_put at done n part rest old mid new is within before next bytes known inside =
    let long : length (take done part) ≡ done = length-take-le done part within in
    let far : at + done ≤ length (put_at at (take done part) bytes) = omega (arith, reaches at (take done part) bytes inside) in
    next (put_at at (take done part) bytes) (before bytes known inside) far
    ∙ ap (λ (xs : List ℕ). Some (put_at (at + done) (take n xs) (put_at at (take done part) bytes))) is
    ∙ ap Some (put_at-more at done n part bytes inside within)

pub first_put : (at done : ℕ) (part : List ℕ) (old mid new : Option (List ℕ)) → done ≤ length part → Puts at (take done part) old mid → Puts (at + done) [] mid new → PutsFirst at part old new
first_put at done part old mid new within before last = (
  done,
  within,
  λ bytes known inside.
      let long : length (take done part) ≡ done = length-take-le done part within in
      let far : at + done ≤ length (put_at at (take done part) bytes) = omega (arith, reaches at (take done part) bytes inside) in
      last (put_at at (take done part) bytes) (before bytes known inside) far
      ∙ ap Some (put_at-nil (at + done) (put_at at (take done part) bytes)),
)

-- growth
pub grown : (at : ℕ) (growth : List ℕ) (old new : Option (List ℕ)) → HasLength old at → Puts at growth old new → Becomes (λ bytes. bytes ++ growth) old new
grown at growth old new long puts bytes known =
    let is : length bytes ≡ at = long bytes known in
    puts bytes known (omega arith) ∙ ap Some (put_at-behind at bytes growth is)

resized-append : (at : ℕ) (bytes part : List ℕ) → length bytes ≡ at → resized at (bytes ++ part) ≡ bytes
resized-append at bytes part is =
    let none : at - length (bytes ++ part) ≡ 0 = omega (arith, length-append bytes part) in
    ap (λ (k : ℕ). take at (bytes ++ part) ++ replicate k 0) none
    ∙ append-nil (take at (bytes ++ part))
    ∙ take_at bytes part at is

pub undone : (at : ℕ) (growth : List ℕ) (old mid new : Option (List ℕ)) → HasLength old at → PutsFirst at growth old mid → Becomes (resized at) mid new → KeepsKnown old new
undone at growth old mid new long first cuts bytes known =
    let is : length bytes ≡ at = long bytes known in
    cuts (bytes ++ take first.0 growth) (grown at (take first.0 growth) old mid long first.2 bytes known)
    ∙ ap Some (resized-append at bytes (take first.0 growth) is)

pub longer : (at : ℕ) (growth : List ℕ) (old mid new : Option (List ℕ)) → HasLength old at → PutsFirst at growth old mid → Stays mid new → BecomesLonger growth old new
longer at growth old mid new long first kept = (
  first.0,
  λ bytes known.
      kept ∙ (grown at (take first.0 growth) old mid long first.2 bytes known),
)

-- a piece of a list
pub piece_lies : (pieces : List Piece) (len i : ℕ) (d : Piece) → All (LiesIn len) (patches_of pieces) → i < length pieces → LiesIn len (patch_of (get_or pieces i d))
piece_lies pieces len i d inside below =
    let long : length (patches_of pieces) ≡ length pieces = length-map pieces patch_of in
    let P : Patch → Type 0 = LiesIn len in
    subst P (get_or-map patch_of pieces i d (patch_of d) below) (inside i (patch_of d) (omega arith))

patch_next : (pieces : List Piece) (i : ℕ) (d : Piece) → i < length pieces → take (i + 1) (patches_of pieces) ≡ take i (patches_of pieces) ++ patch_of (get_or pieces i d) ∷ []
patch_next pieces i d below =
    let long : length (patches_of pieces) ≡ length pieces = length-map pieces patch_of in
    take_more (patches_of pieces) i (patch_of d) (omega arith)
    ∙ ap (λ (p : Patch). take i (patches_of pieces) ++ p ∷ []) (get_or-map patch_of pieces i d (patch_of d) below)

patch_split : (pieces : List Piece) (i : ℕ) (d : Piece) → i < length pieces → take i (patches_of pieces) ++ patch_of (get_or pieces i d) ∷ drop (i + 1) (patches_of pieces) ≡ patches_of pieces
patch_split pieces i d below =
    let long : length (patches_of pieces) ≡ length pieces = length-map pieces patch_of in
    let patches : List Patch = patches_of pieces in
    let rest : drop i patches ≡ get_or patches i (patch_of d) ∷ drop (i + 1) patches = drop_more patches i (patch_of d) (omega arith) in
    ap (λ (p : Patch). take i patches ++ p ∷ drop (i + 1) patches) (sym (get_or-map patch_of pieces i d (patch_of d) below))
    ∙ ap (λ (ps : List Patch). take i patches ++ ps) (sym rest)
    ∙ take-append-drop i patches

-- pieces, one after another
pub next_laid : (pieces : List Piece) (i : ℕ) (d : Piece) (old mid new : Option (List ℕ)) → i < length pieces → LaysOf (patches_of pieces) (take i (patches_of pieces)) old mid → Puts (get_or pieces i d).offset (get_or pieces i d).bytes.now mid new → LaysOf (patches_of pieces) (take (i + 1) (patches_of pieces)) old new
next_laid pieces i d old mid new below before puts bytes known inside =
    let patches : List Patch = patches_of pieces in
    let next : Patch = patch_of (get_or pieces i d) in
    let lies : LiesIn (length bytes) next = piece_lies pieces (length bytes) i d inside below in
    let long : length (laid (take i patches) bytes) ≡ length bytes = length-laid (take i patches) bytes (All-take (LiesIn (length bytes)) i patches inside) in
    puts (laid (take i patches) bytes) (before bytes known inside) (omega arith)
    ∙ ap Some (sym (ap (λ (ps : List Patch). laid ps bytes) (patch_next pieces i d below) ∙ laid-append (take i patches) (next ∷ []) bytes))

pub torn_laid : (pieces : List Piece) (i : ℕ) (d : Piece) (old mid new : Option (List ℕ)) → i < length pieces → LaysOf (patches_of pieces) (take i (patches_of pieces)) old mid → PutsFirst (get_or pieces i d).offset (get_or pieces i d).bytes.now mid new → LaysFirst (patches_of pieces) old new
torn_laid pieces i d old mid new below before first =
    let patches : List Patch = patches_of pieces in
    let next : Patch = patch_of (get_or pieces i d) in
    let n : ℕ = total (take i patches) + first.0 in (
      n,
      λ bytes known inside.
          let lies : LiesIn (length bytes) next = piece_lies pieces (length bytes) i d inside below in
          let long : length (laid (take i patches) bytes) ≡ length bytes = length-laid (take i patches) bytes (All-take (LiesIn (length bytes)) i patches inside) in
          first.2 (laid (take i patches) bytes) (before bytes known inside) (omega arith)
          ∙ ap Some (sym (first_some (take i patches) next (drop (i + 1) patches) first.0 bytes first.1)
          ∙ ap (λ (ps : List Patch). laid (first_bytes n ps) bytes) (patch_split pieces i d below)),
    )

-- pieces, and a cut
module _ (len most : ℕ) (patches : List Patch) (old mid : Option (List ℕ)) (inside : All (LiesIn len) patches) (lays : Lays patches old mid) where
  all_lie : (bytes : List ℕ) → length bytes ≡ len → All (LiesIn (length bytes)) patches
  all_lie bytes long = let P : ℕ → Type 0 = λ n. All (LiesIn n) patches in subst P (sym long) inside

  pub laid_whole : len ≤ most → LaysAndCuts len patches most old mid
  laid_whole all bytes known long =
      let same : length (laid patches bytes) ≡ length bytes = length-laid patches bytes (all_lie bytes long) in
      lays bytes known (all_lie bytes long) ∙ ap Some (sym (take_all most (laid patches bytes) (omega arith)))

  pub laid_and_cut : (new : Option (List ℕ)) → most < len → Becomes (resized most) mid new → LaysAndCuts len patches most old new
  laid_and_cut new less cuts bytes known long =
      let same : length (laid patches bytes) ≡ length bytes = length-laid patches bytes (all_lie bytes long) in
      let none : most - length (laid patches bytes) ≡ 0 = omega arith in
      cuts (laid patches bytes) (lays bytes known (all_lie bytes long))
      ∙ ap Some (ap (λ (k : ℕ). take most (laid patches bytes) ++ replicate k 0) none ∙ append-nil (take most (laid patches bytes)))

pub laid_uncut : (patches : List Patch) (old mid new : Option (List ℕ)) → Lays patches old mid → Stays mid new → LaysFirst patches old new
laid_uncut patches old mid new lays kept = (
  total patches,
  λ bytes known inside.
      kept ∙ lays bytes known inside ∙ ap Some (sym (first_all patches bytes)),
)

-- a whole run
module _ (at len : ℕ) (growth : List ℕ) (patches : List Patch) (old mid new : Option (List ℕ)) (long : HasLength old at) (grows : Becomes (λ bytes. bytes ++ growth) old mid) where
  longer_length : (bytes : List ℕ) → old ≡ Some bytes → length (bytes ++ growth) ≡ at + length growth
  longer_length bytes known = length-append bytes growth ∙ ap (λ (n : ℕ). n + length growth) (long bytes known)

  pub changed_grown : LaysAndCuts (at + length growth) patches len mid new → Becomes (changed growth patches len) old new
  changed_grown lays bytes known = lays (bytes ++ growth) (grows bytes known) (longer_length bytes known)

  pub torn_grown : All (LiesIn (at + length growth)) patches → LaysFirst patches mid new → BecomesTorn growth patches old new
  torn_grown inside first = (
    first.0,
    λ bytes known.
        let P : ℕ → Type 0 = λ n. All (LiesIn n) patches in
        first.1 (bytes ++ growth) (grows bytes known) (subst P (sym (longer_length bytes known)) inside),
  )

-- a growth that failed leaves no piece
pub growth_left : (left : Left) (growth : List ℕ) (patches : List Patch) (old new : Option (List ℕ)) → IsLeft left growth [] old new → IsLeft left growth patches old new
growth_left Old growth patches old new is = is
growth_left Longer growth patches old new is = is
growth_left Torn growth patches old new is = (
  0,
  λ bytes known.
      is.1 bytes known ∙ ap Some (sym (first_none patches 0 (bytes ++ growth) refl)),
)
