-- Slots laid over bytes: bytes outside all of them stay, and each is read back that stands apart from all others.
use Rattle.std.proofs.Common.{◌≡◌, ◌≤◌, ◌<◌, ℕ, ◌+◌, ◌-◌, ◌⊎◌, List, [], ◌∷◌, ◌++◌, length, take, drop, get_or, refl, sym, ap, ◌∙◌, subst, inl, inr, arith}
use Rattle.std.specs.List.{All}
use Rattle.std.proofs.lemmas.List.{drop_at, get_or-append_right, get_or-drop, get_or-take, get_or_append_left, get_or_default, length-drop, length-take, length-take-le, same_lists, take_at}
use Rattle.std.proofs.lemmas.List.Elements.{All-head, All-tail}
use Rattle.macho_signatures.specs.declared.renewal.Slot.{Slot}
use Rattle.macho_signatures.specs.Pages.{hash_bytes}
use Rattle.macho_signatures.specs.Renewed.{SlotLies, laid, with_slot}
use Rattle.macho_signatures.proofs.RenewalSteps.{length-with_slot}

-- two lists that agree at n places hold the same bytes there
pub same_field : (n pos : ℕ) (xs ys : List ℕ) → length xs ≡ length ys → ((i : ℕ) → pos ≤ i → i < pos + n → get_or xs i 0 ≡ get_or ys i 0) → take n (drop pos xs) ≡ take n (drop pos ys)
same_field n pos xs ys long agree =
    let first = length-take n (drop pos xs) in
    let second = length-take n (drop pos ys) in
    let left = length-drop pos xs in
    let right = length-drop pos ys in
    let same : length (take n (drop pos xs)) ≡ length (take n (drop pos ys)) = omega (arith, first, second, left, right, long) in
    same_lists (take n (drop pos xs)) (take n (drop pos ys)) same
    (λ k e here.
    let below : k < n = omega (arith, first, here) in
    let inside : pos + k < length xs = omega (arith, first, left, here) in
    let inside_too : pos + k < length ys = omega (arith, inside, long) in
    get_or-take n (drop pos xs) k e below ∙ get_or-drop pos xs k e ∙ get_or_default xs (pos + k) e 0 inside
    ∙ agree (pos + k) (omega arith) (omega (arith, below))
    ∙ sym (get_or-take n (drop pos ys) k e below ∙ get_or-drop pos ys k e ∙ get_or_default ys (pos + k) e 0 inside_too))

-- the place is in no byte of the slot
abbrev pub IsOutside : ℕ → Slot → Type 0
IsOutside i s = (i < s.place) ⊎ (s.place + length (hash_bytes s.hash) ≤ i)

with_slot-below : (s : Slot) (bytes : List ℕ) (i : ℕ) → SlotLies (length bytes) s → i < s.place → get_or (with_slot s bytes) i 0 ≡ get_or bytes i 0
unfolding with_slot
with_slot-below s bytes i lies before =
    let front : length (take s.place bytes) ≡ s.place = length-take-le s.place bytes (omega (arith, lies)) in
    get_or_append_left (take s.place bytes) (hash_bytes s.hash ++ drop (s.place + length (hash_bytes s.hash)) bytes) 0 i (omega (arith, front, before))
    ∙ get_or-take s.place bytes i 0 before

with_slot-above : (s : Slot) (bytes : List ℕ) (i : ℕ) → SlotLies (length bytes) s → s.place + length (hash_bytes s.hash) ≤ i → get_or (with_slot s bytes) i 0 ≡ get_or bytes i 0
unfolding with_slot
with_slot-above s bytes i lies behind =
    let hash : List ℕ = hash_bytes s.hash in
    let n : ℕ = length hash in
    let rest : List ℕ = drop (s.place + n) bytes in
    let front : length (take s.place bytes) ≡ s.place = length-take-le s.place bytes (omega (arith, lies)) in
    let back : s.place + n + (i - s.place - n) ≡ i = omega (arith, behind) in
    get_or-append_right (take s.place bytes) (hash ++ rest) s.place i 0 front (omega (arith, behind))
    ∙ get_or-append_right hash rest n (i - s.place) 0 refl (omega (arith, behind))
    ∙ get_or-drop (s.place + n) bytes (i - s.place - n) 0 ∙ ap (λ (k : ℕ). get_or bytes k 0) back

pub with_slot-outside : (s : Slot) (bytes : List ℕ) (i : ℕ) → SlotLies (length bytes) s → IsOutside i s → get_or (with_slot s bytes) i 0 ≡ get_or bytes i 0
with_slot-outside s bytes i lies outside =
    elim outside [
      | inl before ↦ with_slot-below s bytes i lies before
      | inr behind ↦ with_slot-above s bytes i lies behind
    ]

-- what stands in the place of a slot
abbrev pub Reads : Slot → List ℕ → Type 0
Reads s bytes = take (length (hash_bytes s.hash)) (drop s.place bytes) ≡ hash_bytes s.hash

with_slot-reads : (s : Slot) (bytes : List ℕ) → SlotLies (length bytes) s → Reads s (with_slot s bytes)
unfolding with_slot
with_slot-reads s bytes lies =
    let hash : List ℕ = hash_bytes s.hash in
    let rest : List ℕ = drop (s.place + length hash) bytes in
    let front : length (take s.place bytes) ≡ s.place = length-take-le s.place bytes (omega (arith, lies)) in
    ap (take (length hash)) (drop_at (take s.place bytes) (hash ++ rest) s.place front) ∙ take_at hash rest (length hash) refl

-- two slots share no byte
abbrev pub AreSlotsApart : Slot → Slot → Type 0
AreSlotsApart s t = (s.place + length (hash_bytes s.hash) ≤ t.place) ⊎ (t.place + length (hash_bytes t.hash) ≤ s.place)

outside_from_apart : (s t : Slot) (i : ℕ) → AreSlotsApart s t → s.place ≤ i → i < s.place + length (hash_bytes s.hash) → IsOutside i t
outside_from_apart s t i apart from to =
    elim apart [
      | inl before ↦ inl (omega (arith, before, to))
      | inr behind ↦ inr (omega (arith, behind, from))
    ]

with_slot-apart : (s t : Slot) (bytes : List ℕ) → SlotLies (length bytes) t → AreSlotsApart s t → Reads s bytes → Reads s (with_slot t bytes)
with_slot-apart s t bytes lies apart reads =
    same_field (length (hash_bytes s.hash)) s.place (with_slot t bytes) bytes (length-with_slot t bytes lies)
    (λ i from to. with_slot-outside t bytes i lies (outside_from_apart s t i apart from to))
    ∙ reads

-- an element of a list
abbrev pub In : {X : Type 0} → X → List X → Type 0
In x [] = ⊥
In x (y ∷ ys) = (y ≡ x) ⊎ In x ys

lie_next : (t : Slot) (slots : List Slot) (bytes : List ℕ) → All (SlotLies (length bytes)) (t ∷ slots) → All (SlotLies (length (with_slot t bytes))) slots
lie_next t slots bytes lie =
    let here = All-head (SlotLies (length bytes)) t slots lie in
    let P : ℕ → Type 0 = λ n. All (SlotLies n) slots in
    subst P (sym (length-with_slot t bytes here)) (All-tail (SlotLies (length bytes)) t slots lie)

pub length-laid : (slots : List Slot) (bytes : List ℕ) → All (SlotLies (length bytes)) slots → length (laid slots bytes) ≡ length bytes
length-laid [] bytes lie = refl
length-laid (t ∷ slots) bytes lie =
    length-laid slots (with_slot t bytes) (lie_next t slots bytes lie) ∙ length-with_slot t bytes (All-head (SlotLies (length bytes)) t slots lie)

-- a byte in no slot stays
pub laid-outside : (slots : List Slot) (bytes : List ℕ) (i : ℕ) → All (SlotLies (length bytes)) slots → All (IsOutside i) slots → get_or (laid slots bytes) i 0 ≡ get_or bytes i 0
laid-outside [] bytes i lie outside = refl
laid-outside (t ∷ slots) bytes i lie outside =
    laid-outside slots (with_slot t bytes) i (lie_next t slots bytes lie) (All-tail (IsOutside i) t slots outside)
    ∙ with_slot-outside t bytes i (All-head (SlotLies (length bytes)) t slots lie) (All-head (IsOutside i) t slots outside)

-- a slot that stands apart from all that are others is read back, where it is laid or stood there before
abbrev pub IsApartOrSame : Slot → Slot → Type 0
IsApartOrSame s t = AreSlotsApart s t ⊎ (t ≡ s)

reads_same : (s t : Slot) (bytes : List ℕ) → t ≡ s → SlotLies (length bytes) t → Reads s (with_slot t bytes)
reads_same s t bytes same lies =
    let P : Slot → Type 0 = λ x. Reads x (with_slot t bytes) in
    subst P same (with_slot-reads t bytes lies)

pub laid-reads : (s : Slot) (slots : List Slot) (bytes : List ℕ) → All (SlotLies (length bytes)) slots → All (IsApartOrSame s) slots → (Reads s bytes ⊎ In s slots) → Reads s (laid slots bytes)
laid-reads s [] bytes lie apart here = elim here [ inl reads ↦ reads | inr none ↦ absurd none ]
laid-reads s (t ∷ slots) bytes lie apart here =
    let lies = All-head (SlotLies (length bytes)) t slots lie in
    let next = lie_next t slots bytes lie in
    let others = All-tail (IsApartOrSame s) t slots apart in
    elim (All-head (IsApartOrSame s) t slots apart) [
      | inl away ↦
          elim here [
            | inl reads ↦ laid-reads s slots (with_slot t bytes) next others (inl (with_slot-apart s t bytes lies away reads))
            | inr member ↦
                elim member [
                  | inl same ↦ laid-reads s slots (with_slot t bytes) next others (inl (reads_same s t bytes same lies))
                  | inr later ↦ laid-reads s slots (with_slot t bytes) next others (inr later)
                ]
          ]
      | inr same ↦ laid-reads s slots (with_slot t bytes) next others (inl (reads_same s t bytes same lies))
    ]
