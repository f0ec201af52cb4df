-- Slots of the parts of a file, laid over it: each part gets its own, and no byte outside the parts changes.
use Rattle.std.proofs.Common.{◌≡◌, ◌≤◌, ◌<◌, ◌+◌, ◌-◌, ℕ, suc, List, [], ◌∷◌, ◌++◌, length, map, take, drop, get_or, refl, sym, ap, ◌∙◌, subst, inl, inr, arith}
use Rattle.std.specs.List.{All, AllPairs, flat_map}
use Rattle.std.proofs.lemmas.Bool.{cases_lt}
use Rattle.std.proofs.lemmas.List.{drop-append-le, drop-drop, drop-take, length-drop, length-take-le, take-take}
use Rattle.std.proofs.lemmas.List.Elements.{All-append, All-cons, All-head, All-map, All-nil, All-tail}
use Rattle.std.proofs.Math.Seq.{take-append-add}
use Rattle.macho_signatures.specs.declared.renewal.Slot.{Slot}
use Rattle.macho_signatures.specs.Pages.{hash_bytes}
use Rattle.macho_signatures.specs.Renewed.{SlotLies, laid, with_slot}
use Rattle.macho_signatures.proofs.LaidLaws as laid_laws
use Rattle.macho_signatures.proofs.LaidLaws.{laid-outside, length-laid, same_field}
use Rattle.macho_signatures.proofs.RenewalSteps.{length-with_slot}
use Rattle.macho_signing.specs.declared.file.Part.{Part}
use Rattle.macho_signing.specs.File.{AreApart, IsInside, IsOutside, part_bytes, slot_in}

-- ## One part

-- the slots of a part in the file
abbrev pub in_file : Part → List Slot → List Slot
in_file p slots = map (slot_in p.offset) slots

-- a slot of a part lies in the file
slot_lies : (len : ℕ) (p : Part) (s : Slot) → IsInside len p → SlotLies p.size s → SlotLies len (slot_in p.offset s)
slot_lies len p s inside lies = omega (arith, inside, lies)

pub slots_lie : (len : ℕ) (p : Part) (slots : List Slot) → IsInside len p → All (SlotLies p.size) slots → All (SlotLies len) (in_file p slots)
slots_lie len p slots inside lie = All-map (SlotLies len) (slot_in p.offset) slots (λ k e here. slot_lies len p (get_or slots k e) inside (lie k e here))

-- the part of what it is laid over
with_slot-part : (bytes : List ℕ) (p : Part) (s : Slot) → IsInside (length bytes) p → SlotLies p.size s → part_bytes (with_slot (slot_in p.offset s) bytes) p ≡ with_slot s (part_bytes bytes p)
unfolding with_slot
with_slot-part bytes p s inside lies =
    let o : ℕ = p.offset in
    let hash : List ℕ = hash_bytes s.hash in
    let n : ℕ = length hash in
    let rest : List ℕ = drop (o + s.place + n) bytes in
    let left : ℕ = p.size - (s.place + n) in
    let front : List ℕ = take s.place (drop o bytes) in
    let whole = length-drop o bytes in
    let long : length front ≡ s.place = length-take-le s.place (drop o bytes) (omega (arith, whole, inside, lies)) in
    let first : length (take (o + s.place) bytes) ≡ o + s.place = length-take-le (o + s.place) bytes (omega (arith, inside, lies)) in
    let size : p.size ≡ length front + (n + left) = omega (arith, long, lies) in
    let size_front : p.size ≡ s.place + (n + left) = omega (arith, lies) in
    let size_back : p.size ≡ s.place + n + left = omega (arith, lies) in
    let cut : drop o (take (o + s.place) bytes ++ (hash ++ rest)) ≡ front ++ (hash ++ rest) =
    drop-append-le o (take (o + s.place) bytes) (hash ++ rest) (omega (arith, first)) ∙ ap (λ (l : List ℕ). l ++ (hash ++ rest)) (drop-take o s.place bytes) in
    let behind : drop (s.place + n) (take p.size (drop o bytes)) ≡ take left rest =
    ap (λ (k : ℕ). drop (s.place + n) (take k (drop o bytes))) size_back ∙ drop-take (s.place + n) left (drop o bytes)
    ∙ ap (take left) (drop-drop (s.place + n) o bytes ∙ ap (λ (k : ℕ). drop k bytes) (omega arith)) in
    let before : take s.place (take p.size (drop o bytes)) ≡ front =
    ap (λ (k : ℕ). take s.place (take k (drop o bytes))) size_front ∙ take_of_take s.place (n + left) (drop o bytes) in
    ap (take p.size) cut
    ∙ ap (λ (k : ℕ). take k (front ++ (hash ++ rest))) size
    ∙ take-append-add front (hash ++ rest) (n + left)
    ∙ ap (λ (l : List ℕ). front ++ l) (take-append-add hash rest left)
    ∙ sym (ap (λ (l : List ℕ). l ++ (hash ++ drop (s.place + n) (take p.size (drop o bytes)))) before ∙ ap (λ (l : List ℕ). front ++ (hash ++ l)) behind)
  where
    take_of_take : (a b : ℕ) (xs : List ℕ) → take a (take (a + b) xs) ≡ take a xs
    take_of_take a b xs = take-take a (a + b) xs (omega arith)

pub length-part : (bytes : List ℕ) (p : Part) → IsInside (length bytes) p → length (part_bytes bytes p) ≡ p.size
length-part bytes p inside = let whole = length-drop p.offset bytes in length-take-le p.size (drop p.offset bytes) (omega (arith, whole, inside))

pub laid-part : (slots : List Slot) (bytes : List ℕ) (p : Part) → IsInside (length bytes) p → All (SlotLies p.size) slots → part_bytes (laid (in_file p slots) bytes) p ≡ laid slots (part_bytes bytes p)
laid-part [] bytes p inside lie = refl
laid-part (s ∷ slots) bytes p inside lie =
    let here = All-head (SlotLies p.size) s slots lie in
    let same = length-with_slot (slot_in p.offset s) bytes (slot_lies (length bytes) p s inside here) in
    laid-part slots (with_slot (slot_in p.offset s) bytes) p (omega (arith, same, inside)) (All-tail (SlotLies p.size) s slots lie)
    ∙ ap (laid slots) (with_slot-part bytes p s inside here)

-- a byte outside a part is outside its slots
slot_outside : (i : ℕ) (p : Part) (s : Slot) → IsOutside i p → SlotLies p.size s → laid_laws.IsOutside i (slot_in p.offset s)
slot_outside i p s outside lies =
    elim outside [
      | inl before ↦ inl (omega (arith, before))
      | inr behind ↦ inr (omega (arith, behind, lies))
    ]

pub slots_outside : (i : ℕ) (p : Part) (slots : List Slot) → IsOutside i p → All (SlotLies p.size) slots → All (laid_laws.IsOutside i) (in_file p slots)
slots_outside i p slots outside lie = All-map (laid_laws.IsOutside i) (slot_in p.offset) slots (λ k e here. slot_outside i p (get_or slots k e) outside (lie k e here))

-- a part keeps its bytes where slots of another are laid
outside_apart : (i : ℕ) (p q : Part) → AreApart p q → q.offset ≤ i → i < q.offset + q.size → IsOutside i p
outside_apart i p q apart from to =
    elim apart [
      | inl empty ↦ elim (cases_lt i p.offset) [ inl before ↦ inl before | inr behind ↦ inr (omega (arith, behind, empty)) ]
      | inr filled ↦
          elim filled [
            | inl empty ↦ absurd (omega (arith, empty, from, to))
            | inr places ↦ elim places [ inl before ↦ inr (omega (arith, before, from)) | inr behind ↦ inl (omega (arith, behind, to)) ]
          ]
    ]

laid-other : (slots : List Slot) (bytes : List ℕ) (p q : Part) → IsInside (length bytes) p → AreApart p q → All (SlotLies p.size) slots → part_bytes (laid (in_file p slots) bytes) q ≡ part_bytes bytes q
laid-other slots bytes p q inside apart lie =
    let lies = slots_lie (length bytes) p slots inside lie in
    same_field q.size q.offset (laid (in_file p slots) bytes) bytes (length-laid (in_file p slots) bytes lies)
    (λ i from to. laid-outside (in_file p slots) bytes i lies (slots_outside i p slots (outside_apart i p q apart from to) lie))

-- ## All parts

pub laid-append : (xs ys : List Slot) (bytes : List ℕ) → laid (xs ++ ys) bytes ≡ laid ys (laid xs bytes)
laid-append [] ys bytes = refl
laid-append (s ∷ xs) ys bytes = laid-append xs ys (with_slot s bytes)

module _ (f : Part → List Slot) where
  -- the slots of all parts
  abbrev pub all_of : List Part → List Slot
  all_of parts = flat_map (λ p. in_file p (f p)) parts

  abbrev pub SlotsLie : Part → Type 0
  SlotsLie p = All (SlotLies p.size) (f p)

  pub all_lie : (len : ℕ) (parts : List Part) → All (IsInside len) parts → All SlotsLie parts → All (SlotLies len) (all_of parts)
  all_lie len [] inside lie = All-nil (SlotLies len)
  all_lie len (p ∷ parts) inside lie =
      All-append (SlotLies len) (in_file p (f p)) (all_of parts)
      (slots_lie len p (f p) (All-head (IsInside len) p parts inside) (All-head SlotsLie p parts lie))
      (all_lie len parts (All-tail (IsInside len) p parts inside) (All-tail SlotsLie p parts lie))

  pub all_outside : (i : ℕ) (parts : List Part) → All (IsOutside i) parts → All SlotsLie parts → All (laid_laws.IsOutside i) (all_of parts)
  all_outside i [] outside lie = All-nil (laid_laws.IsOutside i)
  all_outside i (p ∷ parts) outside lie =
      All-append (laid_laws.IsOutside i) (in_file p (f p)) (all_of parts)
      (slots_outside i p (f p) (All-head (IsOutside i) p parts outside) (All-head SlotsLie p parts lie))
      (all_outside i parts (All-tail (IsOutside i) p parts outside) (All-tail SlotsLie p parts lie))

  -- a part that is apart from all of them keeps its bytes
  others : (parts : List Part) (bytes : List ℕ) (q : Part) → All (IsInside (length bytes)) parts → All (λ p. AreApart p q) parts → All SlotsLie parts → part_bytes (laid (all_of parts) bytes) q ≡ part_bytes bytes q
  others parts bytes q inside apart lie =
      let lies = all_lie (length bytes) parts inside lie in
      same_field q.size q.offset (laid (all_of parts) bytes) bytes (length-laid (all_of parts) bytes lies)
      (λ i from to. laid-outside (all_of parts) bytes i lies (all_outside i parts (λ k e here. outside_apart i (get_or parts k e) q (apart k e here) from to) lie))

  pub each_laid : (parts : List Part) (bytes : List ℕ) → All (IsInside (length bytes)) parts → AllPairs AreApart parts → All SlotsLie parts → All (λ p. part_bytes (laid (all_of parts) bytes) p ≡ laid (f p) (part_bytes bytes p)) parts
  each_laid [] bytes inside apart lie = All-nil _
  each_laid (p ∷ parts) bytes inside apart lie =
      let first = All-head (IsInside (length bytes)) p parts inside in
      let rest = All-tail (IsInside (length bytes)) p parts inside in
      let here = All-head SlotsLie p parts lie in
      let later = All-tail SlotsLie p parts lie in
      let mid : List ℕ = laid (in_file p (f p)) bytes in
      let long : length mid ≡ length bytes = length-laid (in_file p (f p)) bytes (slots_lie (length bytes) p (f p) first here) in
      let P : ℕ → Type 0 = λ n. All (IsInside n) parts in
      let rest_mid : All (IsInside (length mid)) parts = subst P (sym long) rest in
      let both = laid-append (in_file p (f p)) (all_of parts) bytes in
      All-cons (λ q. part_bytes (laid (all_of (p ∷ parts)) bytes) q ≡ laid (f q) (part_bytes bytes q)) p parts
      (ap (λ (l : List ℕ). part_bytes l p) both
      ∙ others parts mid p rest_mid (λ k e within. turned p (get_or parts k e) (apart 0 (suc k) e (omega arith) (omega (arith, within)))) later
      ∙ laid-part (f p) bytes p first here)
      (λ k e within.
      let q : Part = get_or parts k e in
      ap (λ (l : List ℕ). part_bytes l q) both
      ∙ each_laid parts mid rest_mid (λ i j d before inside_j. apart (suc i) (suc j) d (omega (arith, before)) (omega (arith, inside_j))) later k e within
      ∙ ap (laid (f q)) (laid-other (f p) bytes p q first (apart 0 (suc k) e (omega arith) (omega (arith, within))) here))
    where
      turned : (a b : Part) → AreApart a b → AreApart b a
      turned a b apart' =
          elim apart' [
            | inl empty ↦ inr (inl empty)
            | inr filled ↦
                elim filled [
                  | inl empty ↦ inl empty
                  | inr places ↦ elim places [ inl before ↦ inr (inr (inr before)) | inr behind ↦ inr (inr (inl behind)) ]
                ]
          ]
