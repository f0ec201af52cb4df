-- What a loaded segment shows is seen at its address: the bytes of a range in its file part, read as a memory, are kept by the
-- bytes at addresses; so are the bytes of a section that it holds.
use Rattle.std.proofs.Common.{◌≡◌, ◌≤◌, ◌<◌, ℕ, zero, suc, ◌+◌, ◌-◌, Bool, true, false, cond, eqb, leb, ltb, List, [], ◌∷◌, length, map, drop, refl, sym, ap, ◌∙◌, subst, inl, inr, Option, Some, arith}
use Rattle.std.specs.Prelude.{◌&&◌, ◌||◌, not, filter, find}
use Rattle.std.specs.List.{list_all, list_any, slice_get}
use Rattle.std.proofs.lemmas.List.{get_or-drop, get_or-take, length-drop, length-take}
use Rattle.std.proofs.lemmas.List.Folds.{list_all-map}
use Rattle.std.proofs.lemmas.Option.{none-some, same_Some, slice_get-get_or, slice_get_within, get_or_from_slice_get}
use Rattle.std.proofs.lemmas.Bool.{and_from, and_parts, both_ways, eqb-true, false≢true, le-leb, leb-true, lt-ltb, ltb-true, ne_eqb, not_from_false, or_cases}
use Rattle.patch_bytes.specs.Number.{field}
use Rattle.patch_bytes.specs.Memory.{Keeps, from, memory_of}
use Rattle.patch_bytes.proofs.MemoryLaws.{some_bind}
use Rattle.elf_format.specs.File.{has_file_bytes, is_allocated, loads_of, section_bytes}
use Rattle.elf_format.specs.Placement.{addresses_apart, file_part, file_parts_fit, holds, is_stored, memory_part, sections_held, segments_apart, shows_at}
use Rattle.elf_format.specs.Places.{Place, file_range, place_of, places_of}
use Rattle.elf_format.specs.Ranges.{Range, all_apart, apart, lies_in}
use Rattle.elf_format.specs.Records.{SectionHeader, SegmentHeader}
use Rattle.elf_format.specs.Rules.{HeldRangesAreSeen, HeldSectionsAreSeen}
use Rattle.elf_format.specs.Views.{byte_at, covers}

-- ## Elements of lists

-- whatever every element passes, this one passes
pub record IsIn {X : Type 0} (x : X) (xs : List X) : Type 0 where
  pub passes : (test : X → Bool) → list_all test xs ≡ true → test x ≡ true

pub IsIn-there : {X : Type 0} → (x y : X) (xs : List X) → IsIn x xs → IsIn x (y ∷ xs)
IsIn-there x y xs h = record { passes = λ test all. h.passes test (and_parts (test y) (list_all test xs) all).1 }

pub IsIn-here : {X : Type 0} → (x : X) (xs : List X) → IsIn x (x ∷ xs)
IsIn-here x xs = record { passes = λ test all. (and_parts (test x) (list_all test xs) all).0 }

pub IsIn-slice_get : {X : Type 0} → (xs : List X) (i : ℕ) (x : X) → slice_get xs i ≡ Some x → IsIn x xs
IsIn-slice_get [] i x h = absurd (none-some x h)
IsIn-slice_get (y ∷ ys) zero x h = subst (λ z. IsIn z (y ∷ ys)) (same_Some y x h) (IsIn-here y ys)
IsIn-slice_get (y ∷ ys) (suc i) x h = IsIn-there x y ys (IsIn-slice_get ys i x h)

-- what is found is an element, and passes the test
found_by : {X : Type 0} → (test : X → Bool) (y : X) (ys : List X) (x : X) → (find test ys ≡ Some x → IsIn x ys × (test x ≡ true))
    → (b : Bool) → test y ≡ b → cond b (Some y) (find test ys) ≡ Some x → IsIn x (y ∷ ys) × (test x ≡ true)
found_by test y ys x more true e h = let same = same_Some y x h in (subst (λ z. IsIn z (y ∷ ys)) same (IsIn-here y ys), subst (λ z. test z ≡ true) same e)
found_by test y ys x more false e h = let (here, passed) = more h in (IsIn-there x y ys here, passed)

pub find_some : {X : Type 0} → (test : X → Bool) (xs : List X) (x : X) → find test xs ≡ Some x → IsIn x xs × (test x ≡ true)
find_some test [] x h = absurd (none-some x h)
find_some test (y ∷ ys) x h = found_by test y ys x (find_some test ys x) (test y) refl h

picked_by : {X : Type 0} → (test pick : X → Bool) (x : X) (xs : List X) → (list_all test (filter pick xs) ≡ true → list_all (λ y. not (pick y) || test y) xs ≡ true)
    → (b : Bool) → list_all test (cond b (x ∷ filter pick xs) (filter pick xs)) ≡ true → ((not b || test x) && list_all (λ y. not (pick y) || test y) xs) ≡ true
picked_by test pick x xs more true h =
    let both = and_parts (test x) (list_all test (filter pick xs)) h in
    and_from (test x) (list_all (λ y. not (pick y) || test y) xs) both.0 (more both.1)
picked_by test pick x xs more false h = more h

list_all-filter : {X : Type 0} → (test pick : X → Bool) (xs : List X) → list_all test (filter pick xs) ≡ true → list_all (λ x. not (pick x) || test x) xs ≡ true
list_all-filter test pick [] h = refl
list_all-filter test pick (x ∷ xs) h = picked_by test pick x xs (list_all-filter test pick xs) (pick x) h

-- what each element that is picked passes
pub passes_picked : {X : Type 0} → (x : X) (xs : List X) → IsIn x xs → (test pick : X → Bool) → list_all test (filter pick xs) ≡ true → pick x ≡ true → test x ≡ true
passes_picked x xs here test pick all picked =
    by_pick (pick x) picked (here.passes (λ y. not (pick y) || test y) (list_all-filter test pick xs all))
  where
    by_pick : (b : Bool) → b ≡ true → (not b || test x) ≡ true → test x ≡ true
    by_pick true e h = h
    by_pick false e h = absurd (false≢true e)

-- what each element that a map makes of another list passes
pub IsIn-map : {X Y : Type 0} → (f : X → Y) (x : X) (xs : List X) → IsIn x xs → IsIn (f x) (map f xs)
IsIn-map f x xs here = record { passes = λ test all. here.passes (λ y. test (f y)) (sym (list_all-map test f xs) ∙ all) }

-- ## Numbers of a range that is shown

-- a range that a segment shows at an address is covered by it, byte for byte, and lies in the file as in memory
shown_place : (p : SegmentHeader) (r : Range) (address k : ℕ) → shows_at p r address ≡ true → k < r.size
    → (covers p (address + k) ≡ true) × (p.p_offset + (address + k - p.p_vaddr) ≡ r.start + k)
shown_place p r address k h below =
    let inside = and_parts (lies_in r (file_part p)) (eqb (address + p.p_offset) (p.p_vaddr + r.start)) h in
    let ends = and_parts (leb p.p_offset r.start) (leb (r.start + r.size) (p.p_offset + p.p_filesz)) inside.0 in
    let distance : address + p.p_offset ≡ p.p_vaddr + r.start = eqb-true (address + p.p_offset) (p.p_vaddr + r.start) inside.1 in
    let first : p.p_offset ≤ r.start = leb-true p.p_offset r.start ends.0 in
    let last : r.start + r.size ≤ p.p_offset + p.p_filesz = leb-true (r.start + r.size) (p.p_offset + p.p_filesz) ends.1 in (
      and_from (leb p.p_vaddr (address + k)) (ltb (address + k) (p.p_vaddr + p.p_filesz))
          (le-leb p.p_vaddr (address + k) (omega arith)) (lt-ltb (address + k) (p.p_vaddr + p.p_filesz) (omega arith)),
      omega arith,
    )

-- two segments that are apart in memory, with file parts that fit, don't cover one address
not_both : (p q : SegmentHeader) (a : ℕ) → apart (memory_part p) (memory_part q) ≡ true → leb p.p_filesz p.p_memsz ≡ true → leb q.p_filesz q.p_memsz ≡ true
    → covers p a ≡ true → covers q a ≡ true → ⊥
not_both p q a apart_parts p_fits q_fits p_covers q_covers =
    let p_ends = and_parts (leb p.p_vaddr a) (ltb a (p.p_vaddr + p.p_filesz)) p_covers in
    let q_ends = and_parts (leb q.p_vaddr a) (ltb a (q.p_vaddr + q.p_filesz)) q_covers in
    let p_low : p.p_vaddr ≤ a = leb-true p.p_vaddr a p_ends.0 in
    let q_low : q.p_vaddr ≤ a = leb-true q.p_vaddr a q_ends.0 in
    let p_high : a < p.p_vaddr + p.p_filesz = ltb-true a (p.p_vaddr + p.p_filesz) p_ends.1 in
    let q_high : a < q.p_vaddr + q.p_filesz = ltb-true a (q.p_vaddr + q.p_filesz) q_ends.1 in
    let p_size : p.p_filesz ≤ p.p_memsz = leb-true p.p_filesz p.p_memsz p_fits in
    let q_size : q.p_filesz ≤ q.p_memsz = leb-true q.p_filesz q.p_memsz q_fits in
    let p_empty : Bool = eqb p.p_memsz 0 in
    let q_empty : Bool = eqb q.p_memsz 0 in
    let p_first : Bool = leb (p.p_vaddr + p.p_memsz) q.p_vaddr in
    let q_first : Bool = leb (q.p_vaddr + q.p_memsz) p.p_vaddr in
    elim (or_cases (p_empty || q_empty || p_first) q_first apart_parts) [
      | inl h ↦ elim (or_cases (p_empty || q_empty) p_first h) [
        | inl h' ↦ elim (or_cases p_empty q_empty h') [ inl z ↦ omega (arith, eqb-true p.p_memsz 0 z) | inr z ↦ omega (arith, eqb-true q.p_memsz 0 z) ]
        | inr z ↦ omega (arith, leb-true (p.p_vaddr + p.p_memsz) q.p_vaddr z)
      ]
      | inr z ↦ omega (arith, leb-true (q.p_vaddr + q.p_memsz) p.p_vaddr z)
    ]

-- ## The segment that covers a byte of a range

-- no segment of a list shows a range one of whose bytes a segment apart from all of them covers
none_other : (p : SegmentHeader) (qs : List SegmentHeader) (s : Range) (a k : ℕ) → k < s.size → covers p (a + k) ≡ true → leb p.p_filesz p.p_memsz ≡ true
    → list_all (λ r. apart (memory_part p) r) (map memory_part qs) ≡ true → list_all (λ q. leb q.p_filesz q.p_memsz) qs ≡ true → list_any (λ q. shows_at q s a) qs ≡ true → ⊥
none_other p [] s a k below p_covers p_fits apart_all fit any = false≢true any
none_other p (q ∷ qs) s a k below p_covers p_fits apart_all fit any =
    let apart_here = and_parts (apart (memory_part p) (memory_part q)) (list_all (λ r. apart (memory_part p) r) (map memory_part qs)) apart_all in
    let fit_here = and_parts (leb q.p_filesz q.p_memsz) (list_all (λ r. leb r.p_filesz r.p_memsz) qs) fit in
    elim (or_cases (shows_at q s a) (list_any (λ r. shows_at r s a) qs) any) [
      | inl h ↦ not_both p q (a + k) apart_here.0 p_fits fit_here.0 p_covers (shown_place q s a k h below).0
      | inr h ↦ none_other p qs s a k below p_covers p_fits apart_here.1 fit_here.1 h
    ]

-- the first segment that covers a byte of a range shows the range
abbrev FindsHolder : List SegmentHeader → Range → ℕ → Option SegmentHeader → Type 0
FindsHolder loads s a found = (p : SegmentHeader) × (found ≡ Some p) × (shows_at p s a ≡ true)

holder_by : (q : SegmentHeader) (qs : List SegmentHeader) (s : Range) (a k : ℕ) → k < s.size → all_apart (map memory_part (q ∷ qs)) ≡ true
    → list_all (λ r. leb r.p_filesz r.p_memsz) (q ∷ qs) ≡ true → list_any (λ r. shows_at r s a) (q ∷ qs) ≡ true
    → (list_any (λ r. shows_at r s a) qs ≡ true → FindsHolder qs s a (find (λ r. covers r (a + k)) qs))
    → (b : Bool) → covers q (a + k) ≡ b → FindsHolder (q ∷ qs) s a (cond b (Some q) (find (λ r. covers r (a + k)) qs))
holder_by q qs s a k below all_parts fit any more true e =
    let apart_here = and_parts (list_all (λ r. apart (memory_part q) r) (map memory_part qs)) (all_apart (map memory_part qs)) all_parts in
    let fit_here = and_parts (leb q.p_filesz q.p_memsz) (list_all (λ r. leb r.p_filesz r.p_memsz) qs) fit in
    elim (or_cases (shows_at q s a) (list_any (λ r. shows_at r s a) qs) any) [
      | inl h ↦ (q, refl, h)
      | inr h ↦ absurd (none_other q qs s a k below e fit_here.0 apart_here.0 fit_here.1 h)
    ]
holder_by q qs s a k below all_parts fit any more false e =
    elim (or_cases (shows_at q s a) (list_any (λ r. shows_at r s a) qs) any) [
      | inl h ↦ absurd (both_ways (covers q (a + k)) e (shown_place q s a k h below).0)
      | inr h ↦ more h
    ]

finds_holder : (loads : List SegmentHeader) (s : Range) (a k : ℕ) → k < s.size → all_apart (map memory_part loads) ≡ true
    → list_all (λ r. leb r.p_filesz r.p_memsz) loads ≡ true → list_any (λ r. shows_at r s a) loads ≡ true
    → FindsHolder loads s a (find (λ r. covers r (a + k)) loads)
finds_holder [] s a k below all_parts fit any = absurd (false≢true any)
finds_holder (q ∷ qs) s a k below all_parts fit any =
    let apart_here = and_parts (list_all (λ r. apart (memory_part q) r) (map memory_part qs)) (all_apart (map memory_part qs)) all_parts in
    let fit_here = and_parts (leb q.p_filesz q.p_memsz) (list_all (λ r. leb r.p_filesz r.p_memsz) qs) fit in
    holder_by q qs s a k below all_parts fit any (finds_holder qs s a k below apart_here.1 fit_here.1) (covers q (a + k)) refl

-- ## A section's bytes

-- a byte of a field is a byte of the list
pub slice_get-field : (n pos i x : ℕ) (xs : List ℕ) → slice_get (field n pos xs) i ≡ Some x → slice_get xs (pos + i) ≡ Some x
slice_get-field n pos i x xs h =
    let inside : i < length (field n pos xs) = slice_get_within (field n pos xs) i x h in
    let room : i < n = omega (arith, length-take n (drop pos xs)) in
    let left : pos + i < length xs = omega (arith, length-take n (drop pos xs), length-drop pos xs) in
    slice_get-get_or xs (pos + i) 0 left
    ∙ ap Some (sym (get_or-drop pos xs i 0) ∙ sym (get_or-take n (drop pos xs) i 0 room) ∙ get_or_from_slice_get (field n pos xs) i x 0 h)

pub length-section_bytes : (file : List ℕ) (s : SectionHeader) → length (section_bytes file s) ≤ s.sh_size
unfolding section_bytes
length-section_bytes file s = by_kind (has_file_bytes s)
  where
    by_kind : (b : Bool) → length (cond b (field s.sh_size s.sh_offset file) []) ≤ s.sh_size
    by_kind true = omega (arith, length-take s.sh_size (drop s.sh_offset file))
    by_kind false = omega arith

-- the bytes of a section with file bytes
pub section_bytes-is : (file : List ℕ) (s : SectionHeader) → has_file_bytes s ≡ true → section_bytes file s ≡ field s.sh_size s.sh_offset file
unfolding section_bytes
section_bytes-is file s h = ap (λ b. cond b (field s.sh_size s.sh_offset file) []) h

-- the bytes of a range that a loaded segment shows are those at its address
pub range-Keeps : (file : List ℕ) (segments : List SegmentHeader) → file_parts_fit segments ≡ true → addresses_apart segments ≡ true
    → (r : Range) (address : ℕ) → list_any (λ p. shows_at p r address) (loads_of segments) ≡ true → Keeps (memory_of (field r.size r.start file)) (from (byte_at segments file) address)
unfolding byte_at
range-Keeps file segments fit apart_parts r address some_shows k x h =
    let below : k < r.size = omega (arith, slice_get_within (field r.size r.start file) k x h, length-take r.size (drop r.start file)) in
    let (p, found, p_shows) = finds_holder (loads_of segments) r address k below apart_parts fit some_shows in
    let at_place : p.p_offset + (address + k - p.p_vaddr) ≡ r.start + k = (shown_place p r address k p_shows below).1 in
    some_bind (find (λ q. covers q (address + k)) (loads_of segments)) (λ q. slice_get file (q.p_offset + (address + k - q.p_vaddr))) p found
    ∙ ap (λ i. slice_get file i) at_place ∙ slice_get-field r.size r.start k x file h

-- the law over ranges
pub held_ranges_are_seen : HeldRangesAreSeen
held_ranges_are_seen = range-Keeps

-- the bytes of an allocated section with file bytes are those at its address
pub section-Keeps : (file : List ℕ) (segments : List SegmentHeader) (sections : List SectionHeader) → file_parts_fit segments ≡ true → segments_apart segments ≡ true
    → sections_held segments (places_of sections) ≡ true → (s : SectionHeader) → IsIn s sections → is_allocated s ≡ true → has_file_bytes s ≡ true
    → Keeps (memory_of (section_bytes file s)) (from (byte_at segments file) s.sh_addr)
section-Keeps file segments sections fit apart_parts held s here allocated has_bytes a x h =
    let loads : List SegmentHeader = loads_of segments in
    let place : Place = place_of s in
    let below : a < s.sh_size = omega (arith, slice_get_within (section_bytes file s) a x h, length-section_bytes file s) in
    let sized : not (eqb s.sh_size 0) ≡ true = not_from_false (eqb s.sh_size 0) (ne_eqb s.sh_size 0 (λ z. omega arith)) in
    let stored : is_stored place ≡ true = and_from (is_allocated s && has_file_bytes s) (not (eqb s.sh_size 0)) (and_from (is_allocated s) (has_file_bytes s) allocated has_bytes) sized in
    let both = passes_picked place (places_of sections) (IsIn-map place_of s sections here) (λ t. list_any (λ p. holds p t) loads && not (eqb t.sh_offset 0)) is_stored held stored in
    let some_holds = (and_parts (list_any (λ p. holds p place) loads) (not (eqb s.sh_offset 0)) both).0 in
    let in_field : slice_get (field s.sh_size s.sh_offset file) a ≡ Some x = ap (λ l. slice_get l a) (sym (section_bytes-is file s has_bytes)) ∙ h in
    range-Keeps file segments fit (and_parts (addresses_apart segments) (all_apart (map file_part loads)) apart_parts).0 (file_range place) s.sh_addr some_holds a x in_field

-- the bytes of an allocated section with file bytes, by its number, are those at its address
pub held_sections_are_seen : HeldSectionsAreSeen
held_sections_are_seen file segments sections fit apart_parts held i s there allocated has_bytes =
    section-Keeps file segments sections fit apart_parts held s (IsIn-slice_get sections i s there) allocated has_bytes
