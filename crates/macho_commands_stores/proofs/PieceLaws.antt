-- Pieces that are made of fronts and of slots.
use Rattle.std.proofs.Common.{◌≡◌, ◌≤◌, ◌<◌, ◌+◌, ◌-◌, ◌∙◌, ℕ, true, List, [], ◌∷◌, ◌++◌, length, take, drop, get_or, refl, sym, ap, subst, arith}
use Rattle.std.specs.List.{All}
use Rattle.std.specs.Str.{bytes_eq}
use Rattle.std.proofs.lemmas.List.{drop-drop, length-append, length-drop, length-take-le, take_all, take-append-drop}
use Rattle.std.proofs.lemmas.Slice.Eq.{bytes_eq-Decides}
use Rattle.byte_store.specs.declared.pieces.Piece.{Piece}
use Rattle.byte_store.specs.Known.{put_at}
use Rattle.byte_store.specs.Laid.{laid as pieces_on, patches_of}
use Rattle.macho_commands_stores.specs.Pieces.{LaysOn, LiesOn}
use Rattle.macho_signatures.specs.Pages.{hash_bytes}
use Rattle.macho_signatures.proofs.RenewalSteps.{laid_more, lies_at}
use Rattle.macho_signatures.specs.Renewed.{SlotLies, laid, with_slot}
use Rattle.macho_signatures.specs.declared.renewal.Slot.{Slot}

-- ---- pieces that are made of fronts

-- a part over held in which it stands
pub stands : (at : ℕ) (part held : List ℕ) → bytes_eq (take (length part) (take (length held - at) (drop at held))) part ≡ true → put_at at part held ≡ held
stands at part held is =
    let rest : List ℕ = drop at held in
    let all : take (length held - at) rest ≡ rest = take_all (length held - at) rest (omega (arith, length-drop at held)) in
    let same : take (length part) rest ≡ part = ap (take (length part)) (sym all) ∙ (bytes_eq-Decides (take (length part) (take (length held - at) rest)) part).0 is in
    ap (λ (xs : List ℕ). take at held ++ (xs ++ drop (at + length part) held)) (sym same)
    ∙ ap (λ (xs : List ℕ). take at held ++ (take (length part) rest ++ xs)) (sym (drop-drop (length part) at held))
    ∙ ap (λ (xs : List ℕ). take at held ++ xs) (take-append-drop (length part) rest)
    ∙ take-append-drop at held

-- a further piece is laid last
laid-push : (pieces : List Piece) (piece : Piece) (file : List ℕ) → pieces_on (patches_of (pieces ++ piece ∷ [])) file ≡ put_at piece.offset piece.bytes.now (pieces_on (patches_of pieces) file)
laid-push [] piece file = refl
laid-push (p ∷ pieces) piece file = laid-push pieces piece (put_at p.offset p.bytes.now file)

pub lays_on : (old new : List Piece) (piece : Piece) (before after : List ℕ) → new ≡ old ++ piece ∷ [] → after ≡ put_at piece.offset piece.bytes.now before → LaysOn old new before after
lays_on old new piece before after grown put file is =
    ap (λ (l : List Piece). pieces_on (patches_of l) file) grown
    ∙ laid-push old piece file
    ∙ ap (put_at piece.offset piece.bytes.now) is
    ∙ sym put

-- ---- pieces that are made of slots

-- a slot more is laid behind those before it
pub lays_further : (old before after : List Piece) (first now next : List ℕ) → LaysOn old before first now → LaysOn before after now next → LaysOn old after first next
lays_further old before after first now next lays further file is = further file (lays file is)

pub lies_further : (len other : ℕ) (old before after : List Piece) → len ≡ other → LiesOn len old before → LiesOn other before after → LiesOn len old after
lies_further len other old before after same lies further inside =
    let P : ℕ → Type 0 = λ n. LiesOn n before after in
    subst P (sym same) further (lies inside)

-- a part over bytes is a slot's
pub with_slot-is : (slot : Slot) (held : List ℕ) → with_slot slot held ≡ put_at slot.place (hash_bytes slot.hash) held
unfolding with_slot
with_slot-is slot held = refl

-- a part over bytes leaves their number
pub length-put_at : (at : ℕ) (part file : List ℕ) → at + length part ≤ length file → length (put_at at part file) ≡ length file
length-put_at at part file inside =
    let a = length-take-le at file (omega (arith, inside)) in
    let b = length-drop (at + length part) file in
    let c = length-append part (drop (at + length part) file) in
    let d = length-append (take at file) (part ++ drop (at + length part) file) in
    omega (arith, a, b, c, d, inside)

pub slot_long : (slots : List Slot) (i : ℕ) (d : Slot) (initial held next part : List ℕ) → All (SlotLies (length initial)) slots → length held ≡ length initial → i < length slots → part ≡ hash_bytes (get_or slots i d).hash → next ≡ put_at (get_or slots i d).place part held → length next ≡ length initial
slot_long slots i d initial held next part lie long inside is put =
    let lies = lies_at slots i d initial held lie long inside in
    ap length put ∙ length-put_at (get_or slots i d).place part held (omega (arith, lies, ap length is)) ∙ long

pub slot_done : (slots : List Slot) (i : ℕ) (d : Slot) (held next made part : List ℕ) → i < length slots → part ≡ hash_bytes (get_or slots i d).hash → next ≡ put_at (get_or slots i d).place part held → laid (drop i slots) held ≡ made → laid (drop (i + 1) slots) next ≡ made
slot_done slots i d held next made part inside is put before =
    laid_more slots i d held next made inside (put ∙ ap (λ (l : List ℕ). put_at (get_or slots i d).place l held) is ∙ sym (with_slot-is (get_or slots i d) held)) before
