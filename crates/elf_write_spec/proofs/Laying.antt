-- Patches that share no byte, laid over bytes: each stands in them whole, and all other bytes stay.
use Rattle.std.proofs.Common.{◌≡◌, ◌≤◌, ◌<◌, ◌+◌, ℕ, zero, suc, true, List, [], ◌∷◌, ◌++◌, length, take, drop, get_or, refl, sym, ap, ◌∙◌, subst, inl, inr, arith}
use Rattle.std.specs.Prelude.{slice_index}
use Rattle.std.proofs.lemmas.List.{append_assoc, drop-take, drop_at, get_or-drop, get_or-take, length-append, length-take-le, take_at}
use Rattle.std.proofs.lemmas.Grind.{same_number_lists}
use Rattle.std.proofs.lemmas.Slice.{drop-append-drop}
use Rattle.patch_bytes.specs.Number.{field}
use Rattle.patch_bytes.proofs.NumberLemmas.{length-field}
use Rattle.byte_store.specs.Known.{put_at}
use Rattle.byte_store.specs.Laid.{LiesIn, Patch, laid}
use Rattle.byte_store.proofs.PutLaws.{length-put_at, put_at-nil, take-put_at}
use Rattle.elf_format.specs.declared.range.Range.{Range}
use Rattle.elf_format.specs.Ranges.{apart, range}
use Rattle.elf_layout_plan.proofs.ForCallers.ApartLists.{Each, Pairs}
use Rattle.elf_write_spec.specs.Base.{values_from}
use Rattle.elf_format.proofs.ForCallers.{apart-tells}

-- ## One part over bytes

-- what stands behind the part
field-behind : (n pos at : ℕ) (part bytes : List ℕ) → at ≤ length bytes → at + length part ≤ pos
    → field n pos (put_at at part bytes) ≡ field n pos bytes
field-behind n pos at part bytes inside behind =
    let end : ℕ = at + length part in
    let front : List ℕ = take at bytes ++ part in
    let long : length front ≡ end = omega (arith, length-append (take at bytes) part, length-take-le at bytes inside) in
    ap (λ (xs : List ℕ). field n pos xs) (sym (append_assoc (take at bytes) part (drop end bytes)))
    ∙ ap (take n) (drop-append-drop end bytes front pos behind long)

-- what stands before it
field-before : (n pos at : ℕ) (part bytes : List ℕ) → at ≤ length bytes → pos + n ≤ at
    → field n pos (put_at at part bytes) ≡ field n pos bytes
field-before n pos at part bytes inside before =
    sym (drop-take pos n (put_at at part bytes))
    ∙ ap (drop pos) (take-put_at (pos + n) at part bytes before inside)
    ∙ drop-take pos n bytes

-- the part itself
field-inside : (at : ℕ) (part bytes : List ℕ) → at ≤ length bytes → field (length part) at (put_at at part bytes) ≡ part
field-inside at part bytes inside =
    ap (take (length part)) (drop_at (take at bytes) (part ++ drop (at + length part) bytes) at (length-take-le at bytes inside))
    ∙ take_at part (drop (at + length part) bytes) (length part) refl

no_part : (at : ℕ) (part bytes : List ℕ) → length part ≡ 0 → put_at at part bytes ≡ bytes
no_part at [] bytes none = put_at-nil at bytes
no_part at (b ∷ part) bytes none = absurd (omega arith)

-- the range that a patch takes
abbrev pub range_of : Patch → Range
range_of q = range q.offset (length q.bytes)

-- two ranges share no byte
abbrev pub AreApart : Range → Range → Type 0
AreApart r s = apart r s ≡ true

field-apart : (r : Range) (q : Patch) (bytes : List ℕ) → LiesIn (length bytes) q → AreApart r (range_of q)
    → field r.size r.start (put_at q.offset q.bytes bytes) ≡ field r.size r.start bytes
field-apart r q bytes inside h = elim (apart-tells r (range_of q) h) [
  | inl none ↦ subst (λ (n : ℕ). field n r.start (put_at q.offset q.bytes bytes) ≡ field n r.start bytes) (sym none) refl
  | inr (inl none) ↦ ap (field r.size r.start) (no_part q.offset q.bytes bytes none)
  | inr (inr (inl before)) ↦ field-before r.size r.start q.offset q.bytes bytes (omega arith) before
  | inr (inr (inr behind)) ↦ field-behind r.size r.start q.offset q.bytes bytes (omega arith) behind
]

-- ## Patches over bytes

lies_still : (q : Patch) (qs : List Patch) (bytes : List ℕ) → LiesIn (length bytes) q → Each (LiesIn (length bytes)) qs
    → Each (LiesIn (length (put_at q.offset q.bytes bytes))) qs
lies_still q qs bytes inside each =
    subst (λ (n : ℕ). Each (LiesIn n) qs) (sym (length-put_at q.offset q.bytes bytes inside)) each

pub length-laid : (qs : List Patch) (bytes : List ℕ) → Each (LiesIn (length bytes)) qs → length (laid qs bytes) ≡ length bytes
length-laid [] bytes inside = refl
length-laid (q ∷ qs) bytes inside =
    length-laid qs (put_at q.offset q.bytes bytes) (lies_still q qs bytes inside.0 inside.1)
    ∙ length-put_at q.offset q.bytes bytes inside.0

-- a range apart from all patches keeps its bytes
pub field-laid_apart : (r : Range) (qs : List Patch) (bytes : List ℕ) → Each (LiesIn (length bytes)) qs
    → Each (λ q. AreApart r (range_of q)) qs
    → field r.size r.start (laid qs bytes) ≡ field r.size r.start bytes
field-laid_apart r [] bytes inside h = refl
field-laid_apart r (q ∷ qs) bytes inside h =
    field-laid_apart r qs (put_at q.offset q.bytes bytes) (lies_still q qs bytes inside.0 inside.1) h.1
    ∙ field-apart r q bytes inside.0 h.0

-- the bytes of a patch stand at its offset
abbrev pub StandsIn : List ℕ → Patch → Type 0
StandsIn bytes q = field (length q.bytes) q.offset bytes ≡ q.bytes

-- patches that are apart all stand in the bytes
pub all_stand : (qs : List Patch) (bytes : List ℕ) → Each (LiesIn (length bytes)) qs
    → Pairs (λ a b. AreApart (range_of a) (range_of b)) qs
    → Each (StandsIn (laid qs bytes)) qs
all_stand [] bytes inside h = tt
all_stand (q ∷ qs) bytes inside h =
    let now : List ℕ = put_at q.offset q.bytes bytes in
    let still : Each (LiesIn (length now)) qs = lies_still q qs bytes inside.0 inside.1 in (
      field-laid_apart (range_of q) qs now still h.0 ∙ field-inside q.offset q.bytes bytes (omega (arith, inside.0)),
      all_stand qs now still h.1,
    )

-- ## Values of a function

pub length-values : (f : ℕ → ℕ) (from count : ℕ) → length (values_from f from count) ≡ count
unfolding values_from
length-values f from zero = refl
length-values f from (suc count) = ap suc (length-values f (from + 1) count)

pub value-at : (f : ℕ → ℕ) (from count k : ℕ) → k < count → get_or (values_from f from count) k 0 ≡ f (from + k)
unfolding values_from
value-at f from zero k less = absurd (omega arith)
value-at f from (suc count) zero less = ap f (omega arith)
value-at f from (suc count) (suc k) less = value-at f (from + 1) count k (omega arith) ∙ ap f (omega arith)

get_or-field : (n pos k : ℕ) (bytes : List ℕ) → k < n → get_or (field n pos bytes) k 0 ≡ get_or bytes (pos + k) 0
get_or-field n pos k bytes less = get_or-take n (drop pos bytes) k 0 less ∙ get_or-drop pos bytes k 0

-- where a function gives the bytes of a range, its values there are these bytes
pub field-values : (f : ℕ → ℕ) (size n pos : ℕ) (bytes : List ℕ) → pos + n ≤ size → pos + n ≤ length bytes
    → ((k : ℕ) → pos ≤ k → k < pos + n → f k ≡ slice_index bytes k)
    → field n pos (values_from f 0 size) ≡ field n pos bytes
field-values f size n pos bytes inside there gives =
    let all : List ℕ = values_from f 0 size in
    let long : length all ≡ size = length-values f 0 size in
    let left : length (field n pos all) ≡ n = length-field n pos all (omega arith) in
    let right : length (field n pos bytes) ≡ n = length-field n pos bytes there in
    same_number_lists (field n pos all) (field n pos bytes) (left ∙ sym right) (λ k less.
    get_or-field n pos k all (omega arith)
    ∙ value-at f 0 size (pos + k) (omega arith)
    ∙ ap f (omega arith)
    ∙ gives (pos + k) (omega arith) (omega arith)
    ∙ sym (get_or-field n pos k bytes (omega arith)))
