-- Patches over bytes: length, order, positions, and their first bytes alone.
use Rattle.std.proofs.Common.{◌≡◌, ◌≤◌, ◌+◌, ◌-◌, ℕ, inl, inr, List, [], ◌∷◌, ◌++◌, length, take, get_or, refl, sym, ap, ◌∙◌, subst, arith, Some, All}
use Rattle.std.specs.List.{slice_get}
use Rattle.std.proofs.lemmas.List.{drop_at, take_all, take_at}
use Rattle.std.proofs.lemmas.List.Elements.{All-drop, All-head, All-tail, All-take}
use Rattle.std.proofs.lemmas.Option.{slice_get-get_or, slice_get_past}
use Rattle.std.proofs.lemmas.Bool.{cases_lt}
use Rattle.byte_store.specs.Known.{put_at}
use Rattle.byte_store.specs.Laid.{LiesIn, Patch, first_bytes, laid, total}
use Rattle.byte_store.specs.Laws.{IsOutside, LaidHoldsInside, LaidKeepsLength, LaidKeepsOutside}
use Rattle.byte_store.proofs.PutLaws.{get_or-put_at, get_or-put_at_inside, length-put_at, put_at-nil}

-- what lies in bytes lies in those with a part over them
pub tail_lies : (patch : Patch) (patches : List Patch) (bytes : List ℕ) → All (LiesIn (length bytes)) (patch ∷ patches) → All (LiesIn (length (put_at patch.offset patch.bytes bytes))) patches
tail_lies patch patches bytes inside =
    let same = length-put_at patch.offset patch.bytes bytes (All-head (LiesIn (length bytes)) patch patches inside) in
    let P : ℕ → Type 0 = λ n. All (LiesIn n) patches in
    subst P (sym same) (All-tail (LiesIn (length bytes)) patch patches inside)

pub length-laid : LaidKeepsLength
length-laid [] bytes inside = refl
length-laid (patch ∷ patches) bytes inside =
    length-laid patches (put_at patch.offset patch.bytes bytes) (tail_lies patch patches bytes inside)
    ∙ length-put_at patch.offset patch.bytes bytes (All-head (LiesIn (length bytes)) patch patches inside)

pub laid-append : (before behind : List Patch) (bytes : List ℕ) → laid (before ++ behind) bytes ≡ laid behind (laid before bytes)
laid-append [] behind bytes = refl
laid-append (patch ∷ before) behind bytes = laid-append before behind (put_at patch.offset patch.bytes bytes)

-- none of the patches' bytes are laid
pub first_none : (patches : List Patch) (n : ℕ) (bytes : List ℕ) → n ≡ 0 → laid (first_bytes n patches) bytes ≡ bytes
first_none [] n bytes none = refl
first_none (patch ∷ patches) n bytes none =
    let P : ℕ → Type 0 = λ k. put_at patch.offset (take k patch.bytes) bytes ≡ bytes in
    let same : put_at patch.offset (take n patch.bytes) bytes ≡ bytes = subst P (sym none) (put_at-nil patch.offset bytes) in
    ap (laid (first_bytes (n - length patch.bytes) patches)) same
    ∙ first_none patches (n - length patch.bytes) bytes (omega arith)

-- some patches are laid whole, and the first bytes of the next
pub first_some : (done : List Patch) (patch : Patch) (rest : List Patch) (n : ℕ) (bytes : List ℕ) → n ≤ length patch.bytes → laid (first_bytes (total done + n) (done ++ patch ∷ rest)) bytes ≡ put_at patch.offset (take n patch.bytes) (laid done bytes)
first_some [] patch rest n bytes within =
    let is : 0 + n ≡ n = omega arith in
    let none : n - length patch.bytes ≡ 0 = omega arith in
    ap (λ (k : ℕ). laid (first_bytes k (patch ∷ rest)) bytes) is
    ∙ first_none rest (n - length patch.bytes) (put_at patch.offset (take n patch.bytes) bytes) none
first_some (first ∷ done) patch rest n bytes within =
    let all : ℕ = length first.bytes + total done + n in
    let whole : take all first.bytes ≡ first.bytes = take_all all first.bytes (omega arith) in
    let left : all - length first.bytes ≡ total done + n = omega arith in
    ap (λ (xs : List ℕ). laid (first_bytes (all - length first.bytes) (done ++ patch ∷ rest)) (put_at first.offset xs bytes)) whole
    ∙ ap (λ (k : ℕ). laid (first_bytes k (done ++ patch ∷ rest)) (put_at first.offset first.bytes bytes)) left
    ∙ first_some done patch rest n (put_at first.offset first.bytes bytes) within

-- all bytes of the patches are laid
pub first_all : (patches : List Patch) (bytes : List ℕ) → laid (first_bytes (total patches) patches) bytes ≡ laid patches bytes
first_all [] bytes = refl
first_all (patch ∷ patches) bytes =
    let all : ℕ = length patch.bytes + total patches in
    let whole : take all patch.bytes ≡ patch.bytes = take_all all patch.bytes (omega arith) in
    let left : all - length patch.bytes ≡ total patches = omega arith in
    ap (λ (xs : List ℕ). laid (first_bytes (all - length patch.bytes) patches) (put_at patch.offset xs bytes)) whole
    ∙ ap (λ (k : ℕ). laid (first_bytes k patches) (put_at patch.offset patch.bytes bytes)) left
    ∙ first_all patches (put_at patch.offset patch.bytes bytes)

pub get_or-laid : (patches : List Patch) (bytes : List ℕ) (k d : ℕ) → All (LiesIn (length bytes)) patches → All (IsOutside k) patches → get_or (laid patches bytes) k d ≡ get_or bytes k d
get_or-laid [] bytes k d inside outside = refl
get_or-laid (patch ∷ patches) bytes k d inside outside =
    let lies = All-head (LiesIn (length bytes)) patch patches inside in
    get_or-laid patches (put_at patch.offset patch.bytes bytes) k d (tail_lies patch patches bytes inside) (All-tail (IsOutside k) patch patches outside)
    ∙ get_or-put_at k d patch.offset patch.bytes bytes (All-head (IsOutside k) patch patches outside) (omega arith)

-- lists of one length that hold the same at a position show the same there
same_get : (xs ys : List ℕ) (k : ℕ) → length xs ≡ length ys → get_or xs k 0 ≡ get_or ys k 0 → slice_get xs k ≡ slice_get ys k
same_get xs ys k long same =
    elim (cases_lt k (length xs)) [
      | inl below ↦ slice_get-get_or xs k 0 below ∙ ap Some same ∙ sym (slice_get-get_or ys k 0 (omega arith))
      | inr above ↦ slice_get_past xs k above ∙ sym (slice_get_past ys k (omega arith))
    ]

pub slice_get-laid : LaidKeepsOutside
slice_get-laid patches bytes k inside outside =
    same_get (laid patches bytes) bytes k (length-laid patches bytes inside) (get_or-laid patches bytes k 0 inside outside)

before_lies : (before behind : List Patch) (len : ℕ) → All (LiesIn len) (before ++ behind) → All (LiesIn len) before
before_lies before behind len inside =
    let P : List Patch → Type 0 = All (LiesIn len) in
    subst P (take_at before behind (length before) refl) (All-take (LiesIn len) (length before) (before ++ behind) inside)

behind_lies : (before behind : List Patch) (len : ℕ) → All (LiesIn len) (before ++ behind) → All (LiesIn len) behind
behind_lies before behind len inside =
    let P : List Patch → Type 0 = All (LiesIn len) in
    subst P (drop_at before behind (length before) refl) (All-drop (LiesIn len) (length before) (before ++ behind) inside)

pub slice_get-laid_inside : LaidHoldsInside
slice_get-laid_inside before patch behind bytes k inside below outside =
    let at : ℕ = patch.offset + k in
    let middle : List ℕ = laid before bytes in
    let long : length middle ≡ length bytes = length-laid before bytes (before_lies before (patch ∷ behind) (length bytes) inside) in
    let P : ℕ → Type 0 = λ n. All (LiesIn n) (patch ∷ behind) in
    let rest : All (LiesIn (length middle)) (patch ∷ behind) = subst P (sym long) (behind_lies before (patch ∷ behind) (length bytes) inside) in
    let lies : LiesIn (length middle) patch = All-head (LiesIn (length middle)) patch behind rest in
    let over : List ℕ = put_at patch.offset patch.bytes middle in
    let same : length over ≡ length middle = length-put_at patch.offset patch.bytes middle lies in
    let last : All (LiesIn (length over)) behind = tail_lies patch behind middle rest in
    ap (λ (xs : List ℕ). slice_get xs at) (laid-append before (patch ∷ behind) bytes)
    ∙ slice_get-laid behind over at last outside
    ∙ slice_get-get_or over at 0 (omega arith)
    ∙ ap Some (get_or-put_at_inside k 0 patch.offset patch.bytes middle below (omega arith))
    ∙ sym (slice_get-get_or patch.bytes k 0 below)
