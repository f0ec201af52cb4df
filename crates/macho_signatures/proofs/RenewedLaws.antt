-- Slots that are made anew and laid: what stays, what fits, and that all fit where all did.
use Rattle.std.proofs.Common.{◌≡◌, ◌≤◌, ◌<◌, ℕ, zero, suc, ◌+◌, ◌-◌, ◌⊎◌, Bool, true, false, List, [], ◌∷◌, ◌++◌, length, map, filter, take, drop, get_or, refl, sym, ap, ◌∙◌, subst, inl, inr, arith}
use Rattle.std.specs.List.{All, Any, range_with_len}
use Rattle.std.proofs.lemmas.Bool.{cases_eq, cases_lt}
use Rattle.std.proofs.lemmas.List.{get_or_default}
use Rattle.std.proofs.lemmas.List.Elements.{All-append, All-filter, All-head, All-map, All-nil, All-tail, filter_passes}
use Rattle.std.proofs.lemmas.List.FromFn.{get_or-range_with_len, length-range_with_len}
use Rattle.macho_signatures.specs.declared.directory.Directory.{Directory}
use Rattle.macho_signatures.specs.declared.renewal.ByteRange.{ByteRange}
use Rattle.macho_signatures.specs.declared.renewal.Slot.{Slot}
use Rattle.macho_signatures.specs.Directory.{hash_size}
use Rattle.macho_signatures.specs.Pages.{Fits, hash_bytes, hash_of, page_end, page_hash, page_start, pages_of, slot_place}
use Rattle.macho_signatures.specs.Renewed.{IsRenewed, LiesInSlot, SlotLies, is_touched, laid, renewed_slots, slot_for, slots_in}
use Rattle.macho_signatures.specs.Signature.{AreApart, ArePlaced, slots_end}
use Rattle.macho_signatures.proofs.HashLengths.{length-page_hash}
use Rattle.macho_signatures.proofs.LaidLaws.{In, IsApartOrSame, IsOutside, Reads, laid-outside, laid-reads, length-laid, same_field}
use Rattle.macho_signatures.proofs.PageLaws.{slot-within, times_more}

-- ## Members of the list of slots

-- what holds of the slot of each touched page of a directory holds of all that are made for it
pages_below : (n : ℕ) → All (λ page. page < n) (range_with_len 0 n)
pages_below n = λ k e here.
    let count = length-range_with_len 0 n in
    let inside : k < n = omega (arith, here, count) in
    let is = get_or-range_with_len 0 n k e inside in
    omega (arith, is, inside)

abbrev EachPage : (Slot → Type 0) → List ByteRange → List ℕ → Directory → Type 0
EachPage P touched bytes d = (page : ℕ) → page < d.count → is_touched d touched page ≡ true → P (slot_for d bytes page)

all_in : (P : Slot → Type 0) (touched : List ByteRange) (bytes : List ℕ) (d : Directory) → EachPage P touched bytes d → All P (slots_in d touched bytes)
unfolding slots_in
all_in P touched bytes d each =
    let below = All-filter (is_touched d touched) (λ page. page < d.count) (pages_of d) (pages_below d.count) in
    let passes = filter_passes (is_touched d touched) (pages_of d) in
    All-map P (slot_for d bytes) (filter (is_touched d touched) (pages_of d))
    (λ k e here. each (get_or (filter (is_touched d touched) (pages_of d)) k e) (below k e here) (passes k e here))

pub all_slots : (P : Slot → Type 0) (touched : List ByteRange) (bytes : List ℕ) (ds : List Directory) → All (EachPage P touched bytes) ds → All P (renewed_slots ds touched bytes)
all_slots P touched bytes [] each = All-nil P
all_slots P touched bytes (d ∷ ds) each =
    All-append P (slots_in d touched bytes) (renewed_slots ds touched bytes)
    (all_in P touched bytes d (All-head (EachPage P touched bytes) d ds each))
    (all_slots P touched bytes ds (All-tail (EachPage P touched bytes) d ds each))

-- the slot of each touched page is among them
in_left : {X : Type 0} (x : X) (xs ys : List X) → In x xs → In x (xs ++ ys)
in_left x [] ys none = absurd none
in_left x (y ∷ xs) ys here = elim here [ inl same ↦ inl same | inr later ↦ inr (in_left x xs ys later) ]

in_right : {X : Type 0} (x : X) (xs ys : List X) → In x ys → In x (xs ++ ys)
in_right x [] ys here = here
in_right x (y ∷ xs) ys here = inr (in_right x xs ys here)

in_map : (f : ℕ → Slot) (n : ℕ) (ns : List ℕ) → In n ns → In (f n) (map f ns)
in_map f n [] none = absurd none
in_map f n (m ∷ ns) here = elim here [ inl same ↦ inl (ap f same) | inr later ↦ inr (in_map f n ns later) ]

in_filter_cons : (p : ℕ → Bool) (n m : ℕ) (ns : List ℕ) (b : Bool) → p m ≡ b → p n ≡ true → (m ≡ n) ⊎ In n (filter p ns) → In n (filter p (m ∷ ns))
in_filter_cons p n m ns true is passes here = rw is here
in_filter_cons p n m ns false is passes here =
    rw is
    (elim here [
      | inl same ↦ absurd (let e : false ≡ true = sym is ∙ ap p same ∙ passes in cc)
      | inr later ↦ later
    ])

in_filter : (p : ℕ → Bool) (n : ℕ) (ns : List ℕ) → p n ≡ true → In n ns → In n (filter p ns)
in_filter p n [] passes none = absurd none
in_filter p n (m ∷ ns) passes here =
    in_filter_cons p n m ns (p m) refl passes (elim here [ inl same ↦ inl same | inr later ↦ inr (in_filter p n ns passes later) ])

in_range : (a m i : ℕ) → i < m → In (a + i) (range_with_len a m)
in_range a zero i below = absurd (omega (arith, below))
in_range a (suc m) zero below = inl (omega arith)
in_range a (suc m) (suc i) below =
    let next : a + 1 + i ≡ a + suc i = omega arith in
    let P : ℕ → Type 0 = λ k. In k (range_with_len (a + 1) m) in
    inr (subst P next (in_range (a + 1) m i (omega (arith, below))))

in_pages : (n page : ℕ) → page < n → In page (range_with_len 0 n)
in_pages n page below =
    let same : 0 + page ≡ page = omega arith in
    let P : ℕ → Type 0 = λ k. In k (range_with_len 0 n) in
    subst P same (in_range 0 n page below)

in_slots_in : (touched : List ByteRange) (bytes : List ℕ) (d : Directory) (page : ℕ) → page < d.count → is_touched d touched page ≡ true → In (slot_for d bytes page) (slots_in d touched bytes)
unfolding slots_in
in_slots_in touched bytes d page inside touches =
    in_map (slot_for d bytes) page (filter (is_touched d touched) (pages_of d)) (in_filter (is_touched d touched) page (pages_of d) touches (in_pages d.count page inside))

in_slots : (touched : List ByteRange) (bytes : List ℕ) (ds : List Directory) (k page : ℕ) (e : Directory) → k < length ds → page < (get_or ds k e).count → is_touched (get_or ds k e) touched page ≡ true → In (slot_for (get_or ds k e) bytes page) (renewed_slots ds touched bytes)
in_slots touched bytes [] k page e here inside touches = absurd (omega (arith, here))
in_slots touched bytes (d ∷ ds) zero page e here inside touches =
    in_left (slot_for d bytes page) (slots_in d touched bytes) (renewed_slots ds touched bytes) (in_slots_in touched bytes d page inside touches)
in_slots touched bytes (d ∷ ds) (suc k) page e here inside touches =
    in_right (slot_for (get_or ds k e) bytes page) (slots_in d touched bytes) (renewed_slots ds touched bytes) (in_slots touched bytes ds k page e (omega (arith, here)) inside touches)

-- ## Where they stand

-- the end of a slot
slot_ends : (d : Directory) (bytes : List ℕ) (page : ℕ) → page < d.count → slot_place d page + length (hash_bytes (page_hash d page bytes)) ≤ slots_end d
slot_ends d bytes page inside =
    let size = length-page_hash d page bytes in
    let ends = slot-within d page inside in
    omega (arith, size, ends)

pub slots_lie : (start len : ℕ) (ds : List Directory) (touched : List ByteRange) (bytes : List ℕ) → ArePlaced start len ds → All (SlotLies len) (renewed_slots ds touched bytes)
slots_lie start len ds touched bytes placed =
    all_slots (SlotLies len) touched bytes ds
    (λ k e here page inside touches.
    let d : Directory = get_or ds k e in
    let ends = slot_ends d bytes page inside in
    let within = (placed.each k e here).lies.within in
    omega (arith, ends, within))

-- slots of one directory
pages_apart : (d : Directory) (bytes : List ℕ) (a b : ℕ) → a < b → slot_place d a + length (hash_bytes (page_hash d a bytes)) ≤ slot_place d b
pages_apart d bytes a b before =
    let step = times_more a b (hash_size d.hash) before in
    let size = length-page_hash d a bytes in
    omega (arith, step, size)

same_directory : (d : Directory) (bytes : List ℕ) (a b : ℕ) → IsApartOrSame (slot_for d bytes a) (slot_for d bytes b)
same_directory d bytes a b =
    elim (cases_eq a b) [
      | inl same ↦ inr (ap (slot_for d bytes) (sym same))
      | inr other ↦
          elim (cases_lt a b) [
            | inl before ↦ inl (inl (pages_apart d bytes a b before))
            | inr behind ↦ inl (inr (pages_apart d bytes b a (omega (arith, behind, other))))
          ]
    ]

-- slots of two
directory_before : (d f : Directory) (bytes : List ℕ) (a b : ℕ) → a < d.count → slots_end d ≤ f.slots → slot_place d a + length (hash_bytes (page_hash d a bytes)) ≤ slot_place f b
directory_before d f bytes a b inside before = let ends = slot_ends d bytes a inside in omega (arith, ends, before)

other_directory : (d f : Directory) (bytes : List ℕ) (a b : ℕ) → a < d.count → b < f.count → AreApart d f → IsApartOrSame (slot_for d bytes a) (slot_for f bytes b)
other_directory d f bytes a b inside inside_too apart =
    elim apart [
      | inl before ↦ inl (inl (directory_before d f bytes a b inside before))
      | inr behind ↦ inl (inr (directory_before f d bytes b a inside_too behind))
    ]

turned : (d f : Directory) → AreApart d f → AreApart f d
turned d f apart = elim apart [ inl before ↦ inr before | inr behind ↦ inl behind ]

slots_apart : (start len : ℕ) (ds : List Directory) (touched : List ByteRange) (bytes : List ℕ) (k page : ℕ) (e : Directory) → ArePlaced start len ds → k < length ds → page < (get_or ds k e).count → All (IsApartOrSame (slot_for (get_or ds k e) bytes page)) (renewed_slots ds touched bytes)
slots_apart start len ds touched bytes k page e placed here inside =
    all_slots (IsApartOrSame (slot_for (get_or ds k e) bytes page)) touched bytes ds
    (λ j g there other inside_too touches.
    let P : Directory → Type 0 = λ x. IsApartOrSame (slot_for (get_or ds k e) bytes page) (slot_for x bytes other) in
    let same : get_or ds j e ≡ get_or ds j g = get_or_default ds j e g there in
    let Q : Directory → Type 0 = λ x. other < x.count in
    let inside_here : other < (get_or ds j e).count = subst Q (sym same) inside_too in
    subst P same
    (elim (cases_eq j k) [
      | inl one ↦ let R : ℕ → Type 0 = λ n. IsApartOrSame (slot_for (get_or ds k e) bytes page) (slot_for (get_or ds n e) bytes other) in subst R (sym one) (same_directory (get_or ds k e) bytes page other)
      | inr two ↦
          elim (cases_lt k j) [
            | inl before ↦ other_directory (get_or ds k e) (get_or ds j e) bytes page other inside inside_here (placed.apart k j e before there)
            | inr behind ↦ other_directory (get_or ds k e) (get_or ds j e) bytes page other inside inside_here (turned (get_or ds j e) (get_or ds k e) (placed.apart j k e (omega (arith, behind, two)) here))
          ]
    ]))

-- ## What is laid

-- a byte in no slot of a touched page is outside all slots
pub outside_all : (ds : List Directory) (touched : List ByteRange) (bytes : List ℕ) (i : ℕ) → ¬ Any (LiesInSlot touched i) ds → All (IsOutside i) (renewed_slots ds touched bytes)
outside_all ds touched bytes i none =
    all_slots (IsOutside i) touched bytes ds
    (λ k e here page inside touches.
    let d : Directory = get_or ds k e in
    let size = length-page_hash d page bytes in
    elim (cases_lt i (slot_place d page)) [
      | inl before ↦ inl before
      | inr behind ↦
          elim (cases_lt i (slot_place d page + hash_size d.hash)) [
            | inl within ↦ absurd (none (k, d, here, get_or_default ds k d e here, record { page = page; inside = inside; is_touched = touches; behind = behind; before = within }))
            | inr after ↦ inr (omega (arith, after, size))
          ]
    ])

-- a byte before the signature is in no slot
pub before_slots : (start len : ℕ) (ds : List Directory) (touched : List ByteRange) (i : ℕ) → ArePlaced start len ds → i < start → ¬ Any (LiesInSlot touched i) ds
before_slots start len ds touched i placed before h =
    let k = h.0 in
    let d = h.1 in
    let within = h.2 in
    let same = h.3 in
    let lies = h.4 in
    let P : Directory → Type 0 = λ x. start ≤ x.slots in
    let behind : start ≤ d.slots = subst P same (placed.each k d within).behind in
    let at = lies.behind in
    absurd (omega (arith, behind, at, before))

-- a page keeps its hash where its bytes stay
pub page_hash-same : (d : Directory) (page : ℕ) (old new : List ℕ) → length new ≡ length old → ((i : ℕ) → page_start d page ≤ i → i < page_end d page → get_or new i 0 ≡ get_or old i 0) → page_hash d page new ≡ page_hash d page old
unfolding page_hash
page_hash-same d page old new long agree =
    ap (hash_of d.hash) (same_field (page_end d page - page_start d page) (page_start d page) new old long
    (λ i from to. agree i from (omega (arith, from, to))))

-- the slot of a touched page holds its hash
fits_laid : (start : ℕ) (ds : List Directory) (touched : List ByteRange) (old : List ℕ) (k page : ℕ) (e : Directory) → ArePlaced start (length old) ds → k < length ds → page < (get_or ds k e).count → is_touched (get_or ds k e) touched page ≡ true → Fits (get_or ds k e) (laid (renewed_slots ds touched old) old) page
unfolding Fits
fits_laid start ds touched old k page e placed here inside touches =
    let d : Directory = get_or ds k e in
    let slots : List Slot = renewed_slots ds touched old in
    let new : List ℕ = laid slots old in
    let lie = slots_lie start (length old) ds touched old placed in
    let reads : Reads (slot_for d old page) new = laid-reads (slot_for d old page) slots old lie (slots_apart start (length old) ds touched old k page e placed here inside) (inr (in_slots touched old ds k page e here inside touches)) in
    let limit = (placed.each k e here).before in
    let same : page_hash d page new ≡ page_hash d page old =
    page_hash-same d page old new (length-laid slots old lie)
    (λ i from to. laid-outside slots old i lie (outside_all ds touched old i (before_slots start (length old) ds touched i placed (omega (arith, to, limit))))) in
    let size : hash_size d.hash ≡ length (hash_bytes (page_hash d page old)) = sym (length-page_hash d page old) in
    ap (λ (n : ℕ). take n (drop (slot_place d page) new)) size ∙ reads ∙ ap hash_bytes (sym same)

-- what is laid over the file is made anew
pub is_renewed : (start : ℕ) (ds : List Directory) (touched : List ByteRange) (old new : List ℕ) → ArePlaced start (length old) ds → new ≡ laid (renewed_slots ds touched old) old → IsRenewed ds touched old new
is_renewed start ds touched old new placed made =
    let slots : List Slot = renewed_slots ds touched old in
    let lie = slots_lie start (length old) ds touched old placed in
    let P : List ℕ → Type 0 = λ x. IsRenewed ds touched old x in
    subst P (sym made)
    (record {
      long = length-laid slots old lie;
      kept = λ i none. laid-outside slots old i lie (outside_all ds touched old i none);
      fits = λ k e here page inside touches. fits_laid start ds touched old k page e placed here inside touches;
    })
