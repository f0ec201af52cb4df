-- What each test of placement means, both ways.
use Rattle.std.proofs.Common.{◌≡◌, ◌≤◌, ◌<◌, ◌⊎◌, ℕ, zero, suc, ◌+◌, Bool, true, false, cond, eqb, leb, List, [], ◌∷◌, map, refl, inl, inr, arith}
use Rattle.std.specs.Prelude.{◌&&◌, ◌||◌, not, filter, All, AllPairs, Any, Decides}
use Rattle.std.specs.List.{list_all, list_any}
use Rattle.std.proofs.lemmas.Bool.{and_from, and_parts, cases_eq, cases_lt, false≢true, le-leb, leb-true}
use Rattle.std.proofs.lemmas.Bool.Decides.{Decides-and, Decides-by_and, Decides-eqb, Decides-like, Decides-not, nat_tests}
use Rattle.std.proofs.lemmas.List.Folds.{Any-from_list_any, list_any-from_Any}
use Rattle.patch_bytes.specs.Number.{field}
use Rattle.patch_bytes.specs.Memory.{Keeps, from, memory_of}
use Rattle.elf_format.specs.declared.constants.TheConstants.{PT_PHDR}
use Rattle.elf_format.specs.Facts.{AreRangesInFile, AreSectionsLoaded, AreSegmentsApart, DoFilePartsFit, IsHeaderTableLoaded, IsHeld, IsUninitializedClear, LiesIn, PlacementTestsMean, SharesNothing, ShowsAt}
use Rattle.elf_format.specs.File.{is_loaded, loads_of}
use Rattle.elf_format.specs.Placement.{addresses_apart, crosses_file_end, ends_by, file_end, file_part, file_parts_fit, header_table_loaded, holds, is_stored, is_uninitialized, memory_part, ranges_in_file, sections_held, sections_loaded, segments_apart, shows_at, something_loaded, stored_apart, stored_clear_of, stored_ranges, uninitialized_clear}
use Rattle.elf_format.specs.Places.{Place, file_range, memory_range, occupies_file, occupies_memory}
use Rattle.elf_format.specs.Ranges.{Range, all_apart, apart, end_of, lies_in}
use Rattle.elf_format.specs.Records.{SegmentHeader}
use Rattle.elf_format.specs.Views.{byte_at}
use Rattle.elf_format.proofs.Placed.{range-Keeps}

-- ## Tests in general

Decides-itself : (b : Bool) → Decides b (b ≡ true)
Decides-itself b = (λ h. h, λ h. h)

Decides-leb : (a b : ℕ) → Decides (leb a b) (a ≤ b)
Decides-leb a b = (leb-true a b, le-leb a b)

Decides-implies : {P Q : Type 0} → (a b : Bool) → Decides a P → Decides b Q → Decides (not a || b) (P → Q)
Decides-implies true b p q = (λ e x. q.0 e, λ h. q.1 (h (p.0 refl)))
Decides-implies false b p q = (λ e x. absurd (false≢true (p.1 x)), λ h. refl)

module _ {X : Type 0} (test : X → Bool) (P : X → Type 0) (means : (x : X) → Decides (test x) (P x)) where
  all_means : (xs : List X) → Decides (list_all test xs) (All P xs)
  all_means xs = Decides-by_and test P (list_all test) means refl (λ x ys. refl) xs

  any_means : (xs : List X) → Decides (list_any test xs) (Any P xs)
  any_means xs = (
    (λ e. let found = Any-from_list_any test xs e in (found.0, found.1, found.2, found.3, (means found.1).0 found.4)),
    (λ found. list_any-from_Any test xs (found.0, found.1, found.2, found.3, (means found.1).1 found.4)),
  )

  -- the elements that are picked
  picked_means : (pick : X → Bool) (xs : List X) → Decides (list_all test (filter pick xs)) (All (λ x. pick x ≡ true → P x) xs)
  picked_means pick xs =
      Decides-by_and (λ x. not (pick x) || test x) (λ x. pick x ≡ true → P x) (λ ys. list_all test (filter pick ys))
      (λ x. Decides-implies (pick x) (test x) (Decides-itself (pick x)) (means x)) refl (λ x ys. by_pick x ys (pick x)) xs
    where
      by_pick : (x : X) (ys : List X) (b : Bool) → list_all test (cond b (x ∷ filter pick ys) (filter pick ys)) ≡ ((not b || test x) && list_all test (filter pick ys))
      by_pick x ys true = refl
      by_pick x ys false = refl

-- ## Ranges

pub lies_in-means : (r outer : Range) → Decides (lies_in r outer) (LiesIn r outer)
lies_in-means r outer =
    Decides-like (lies_in r outer) (λ h. record { begins = h.0; ends = h.1 }) (λ h. (h.begins, h.ends))
    (Decides-and (leb outer.start r.start) (leb (end_of r) (end_of outer)) (Decides-leb outer.start r.start) (Decides-leb (end_of r) (end_of outer)))

pub apart-empty : (r s : Range) → r.size ≡ 0 → apart r s ≡ true
apart-empty r s e = grind (arith, nat_tests)

pub apart-from_empty : (r s : Range) → s.size ≡ 0 → apart r s ≡ true
apart-from_empty r s e = grind (arith, nat_tests)

pub apart-before : (r s : Range) → end_of r ≤ s.start → apart r s ≡ true
apart-before r s e = grind (arith, nat_tests)

pub apart-behind : (r s : Range) → end_of s ≤ r.start → apart r s ≡ true
apart-behind r s e = grind (arith, nat_tests)

pub apart-tells : (r s : Range) → apart r s ≡ true → (r.size ≡ 0) ⊎ ((s.size ≡ 0) ⊎ ((end_of r ≤ s.start) ⊎ (end_of s ≤ r.start)))
apart-tells r s h = grind (arith, nat_tests)

shares_nothing : (r s : Range) → apart r s ≡ true → SharesNothing r s
shares_nothing r s h position in_r in_s =
    let r_low : r.start ≤ position = in_r.from_start in
    let r_high : position < r.start + r.size = in_r.before_end in
    let s_low : s.start ≤ position = in_s.from_start in
    let s_high : position < s.start + s.size = in_s.before_end in
    elim (apart-tells r s h) [
      | inl e ↦ omega (arith, e)
      | inr (inl e) ↦ omega (arith, e)
      | inr (inr (inl e)) ↦ omega (arith, e)
      | inr (inr (inr e)) ↦ omega (arith, e)
    ]

-- ranges that meet share the greater of their starts
meets : (r s : Range) → 0 < r.size → 0 < s.size → s.start < end_of r → r.start < end_of s → SharesNothing r s → ⊥
meets r s r_filled s_filled before behind none =
    elim (cases_lt r.start s.start) [
      | inl later ↦ none s.start (record { from_start = omega arith; before_end = before }) (record { from_start = omega arith; before_end = omega arith })
      | inr earlier ↦ none r.start (record { from_start = omega arith; before_end = omega arith }) (record { from_start = earlier; before_end = behind })
    ]

apart_from : (r s : Range) → SharesNothing r s → apart r s ≡ true
apart_from r s none =
    elim (cases_eq r.size 0) [
      | inl e ↦ apart-empty r s e
      | inr r_filled ↦ elim (cases_eq s.size 0) [
        | inl e ↦ apart-from_empty r s e
        | inr s_filled ↦ elim (cases_lt s.start (end_of r)) [
          | inr e ↦ apart-before r s e
          | inl before ↦ elim (cases_lt r.start (end_of s)) [
            | inr e ↦ apart-behind r s e
            | inl behind ↦ absurd (meets r s (omega arith) (omega arith) before behind none)
          ]
        ]
      ]
    ]

pub apart-means : (r s : Range) → Decides (apart r s) (SharesNothing r s)
apart-means r s = (shares_nothing r s, apart_from r s)

share_nothing : (rs : List Range) → all_apart rs ≡ true → AllPairs SharesNothing rs
share_nothing [] h i j d less within = absurd (omega arith)
share_nothing (r ∷ rs) h zero zero d less within = absurd (omega arith)
share_nothing (r ∷ rs) h zero (suc j) d less within =
    let both = and_parts (list_all (λ s. apart r s) rs) (all_apart rs) h in
    (all_means (λ s. apart r s) (SharesNothing r) (apart-means r) rs).0 both.0 j d (omega arith)
share_nothing (r ∷ rs) h (suc i) zero d less within = absurd (omega arith)
share_nothing (r ∷ rs) h (suc i) (suc j) d less within =
    let both = and_parts (list_all (λ s. apart r s) rs) (all_apart rs) h in
    share_nothing rs both.1 i j d (omega arith) (omega arith)

all_apart_from : (rs : List Range) → AllPairs SharesNothing rs → all_apart rs ≡ true
all_apart_from [] h = refl
all_apart_from (r ∷ rs) h =
    and_from (list_all (λ s. apart r s) rs) (all_apart rs)
    ((all_means (λ s. apart r s) (SharesNothing r) (apart-means r) rs).1 (λ k d within. h 0 (suc k) d (omega arith) (omega arith)))
    (all_apart_from rs (λ i j d less within. h (suc i) (suc j) d (omega arith) (omega arith)))

pub all_apart-means : (rs : List Range) → Decides (all_apart rs) (AllPairs SharesNothing rs)
all_apart-means rs = (share_nothing rs, all_apart_from rs)

pub shows_at-means : (p : SegmentHeader) (r : Range) (address : ℕ) → Decides (shows_at p r address) (ShowsAt p r address)
shows_at-means p r address =
    Decides-like (shows_at p r address) (λ h. record { inside = h.0; distance = h.1 }) (λ h. (h.inside, h.distance))
    (Decides-and (lies_in r (file_part p)) (eqb (address + p.p_offset) (p.p_vaddr + r.start)) (lies_in-means r (file_part p)) (Decides-eqb (address + p.p_offset) (p.p_vaddr + r.start)))

-- ## The rules

pub ranges_in_file-means : (size : ℕ) (segments : List SegmentHeader) (places : List Place) → Decides (ranges_in_file size segments places) (AreRangesInFile size segments places)
ranges_in_file-means size segments places =
    Decides-like (ranges_in_file size segments places) (λ h. record { sections_lie = h.0; segments_lie = h.1 }) (λ h. (h.sections_lie, h.segments_lie))
    (Decides-and (list_all (λ s. ends_by size (file_range s)) (filter occupies_file places)) (list_all (λ p. ends_by size (file_part p)) (loads_of segments))
    (picked_means (λ s. ends_by size (file_range s)) (λ s. end_of (file_range s) ≤ size) (λ s. Decides-leb (end_of (file_range s)) size) occupies_file places)
    (all_means (λ p. ends_by size (file_part p)) (λ p. end_of (file_part p) ≤ size) (λ p. Decides-leb (end_of (file_part p)) size) (loads_of segments)))

pub file_parts_fit-means : (segments : List SegmentHeader) → Decides (file_parts_fit segments) (DoFilePartsFit segments)
file_parts_fit-means segments = all_means (λ p. leb p.p_filesz p.p_memsz) (λ p. p.p_filesz ≤ p.p_memsz) (λ p. Decides-leb p.p_filesz p.p_memsz) (loads_of segments)

pub addresses_apart-means : (segments : List SegmentHeader) → Decides (addresses_apart segments) (AllPairs SharesNothing (map memory_part (loads_of segments)))
addresses_apart-means segments = all_apart-means (map memory_part (loads_of segments))

pub segments_apart-means : (segments : List SegmentHeader) → Decides (segments_apart segments) (AreSegmentsApart segments)
segments_apart-means segments =
    Decides-like (segments_apart segments) (λ h. record { addresses_apart = h.0; bytes_apart = h.1 }) (λ h. (h.addresses_apart, h.bytes_apart))
    (Decides-and (addresses_apart segments) (all_apart (map file_part (loads_of segments))) (addresses_apart-means segments) (all_apart-means (map file_part (loads_of segments))))

held-means : (segments : List SegmentHeader) (s : Place) → Decides (list_any (λ p. holds p s) (loads_of segments) && not (eqb s.sh_offset 0)) (IsHeld segments s)
held-means segments s =
    let by_load : Bool = list_any (λ p. holds p s) (loads_of segments) in
    Decides-like (by_load && not (eqb s.sh_offset 0)) (λ h. record { by_load = h.0; not_first = h.1 }) (λ h. (h.by_load, h.not_first))
    (Decides-and by_load (not (eqb s.sh_offset 0))
    (any_means (λ p. holds p s) (λ p. ShowsAt p (file_range s) s.sh_addr) (λ p. shows_at-means p (file_range s) s.sh_addr) (loads_of segments))
    (Decides-not (eqb s.sh_offset 0) (Decides-eqb s.sh_offset 0)))

pub sections_held-means : (segments : List SegmentHeader) (places : List Place) → Decides (sections_held segments places) (All (λ s. is_stored s ≡ true → IsHeld segments s) places)
sections_held-means segments places =
    picked_means (λ s. list_any (λ p. holds p s) (loads_of segments) && not (eqb s.sh_offset 0)) (IsHeld segments) (held-means segments) is_stored places

something_loaded-means : (segments : List SegmentHeader) (places : List Place)
    → Decides (something_loaded segments places) (Any (λ s. occupies_memory s ≡ true) places → Any (λ p. is_loaded p ≡ true) segments)
something_loaded-means segments places =
    Decides-implies (list_any occupies_memory places) (list_any is_loaded segments)
    (any_means occupies_memory (λ s. occupies_memory s ≡ true) (λ s. Decides-itself (occupies_memory s)) places)
    (any_means is_loaded (λ p. is_loaded p ≡ true) (λ p. Decides-itself (is_loaded p)) segments)

stored_clear_of-means : (headers : List Range) (places : List Place) → Decides (stored_clear_of headers places) (All (λ h. All (SharesNothing h) (stored_ranges places)) headers)
stored_clear_of-means headers places =
    all_means (λ h. list_all (λ r. apart h r) (stored_ranges places)) (λ h. All (SharesNothing h) (stored_ranges places))
    (λ h. all_means (λ r. apart h r) (SharesNothing h) (apart-means h) (stored_ranges places)) headers

pub sections_loaded-means : (headers : List Range) (segments : List SegmentHeader) (places : List Place) → Decides (sections_loaded headers segments places) (AreSectionsLoaded headers segments places)
sections_loaded-means headers segments places =
    Decides-like (sections_loaded headers segments places) (λ h. record { held = h.0.0; something = h.0.1; stored_apart = h.1.0; headers_apart = h.1.1 })
    (λ h. ((h.held, h.something), (h.stored_apart, h.headers_apart)))
    (Decides-and (sections_held segments places && something_loaded segments places) (stored_apart headers places)
    (Decides-and (sections_held segments places) (something_loaded segments places) (sections_held-means segments places) (something_loaded-means segments places))
    (Decides-and (all_apart (stored_ranges places)) (stored_clear_of headers places) (all_apart-means (stored_ranges places)) (stored_clear_of-means headers places)))

clear_of_end-means : (s : Place) (p : SegmentHeader) → Decides (not (crosses_file_end p s)) ((file_end p ≤ s.sh_addr) ⊎ (end_of (memory_range s) ≤ file_end p))
clear_of_end-means s p = (tells, from)
  where
    tells : not (crosses_file_end p s) ≡ true → (file_end p ≤ s.sh_addr) ⊎ (end_of (memory_range s) ≤ file_end p)
    tells h = grind (arith, nat_tests)

    from : (file_end p ≤ s.sh_addr) ⊎ (end_of (memory_range s) ≤ file_end p) → not (crosses_file_end p s) ≡ true
    from (inl e) = grind (arith, nat_tests)
    from (inr e) = grind (arith, nat_tests)

pub uninitialized_clear-means : (segments : List SegmentHeader) (places : List Place) → Decides (uninitialized_clear segments places) (IsUninitializedClear segments places)
uninitialized_clear-means segments places =
    picked_means (λ s. list_all (λ p. not (crosses_file_end p s)) (loads_of segments)) (λ s. All (λ p. (file_end p ≤ s.sh_addr) ⊎ (end_of (memory_range s) ≤ file_end p)) (loads_of segments))
    (λ s. all_means (λ p. not (crosses_file_end p s)) (λ p. (file_end p ≤ s.sh_addr) ⊎ (end_of (memory_range s) ≤ file_end p)) (clear_of_end-means s) (loads_of segments)) is_uninitialized places

pub header_table_loaded-means : (table : Range) (segments : List SegmentHeader) → Decides (header_table_loaded table segments) (IsHeaderTableLoaded table segments)
header_table_loaded-means table segments =
    Decides-implies (list_any (λ p. eqb p.p_type PT_PHDR) segments) (list_any (λ p. lies_in table (file_part p)) (loads_of segments))
    (any_means (λ p. eqb p.p_type PT_PHDR) (λ p. p.p_type ≡ PT_PHDR) (λ p. Decides-eqb p.p_type PT_PHDR) segments)
    (any_means (λ p. lies_in table (file_part p)) (λ p. LiesIn table (file_part p)) (λ p. lies_in-means table (file_part p)) (loads_of segments))

-- ## What is seen

-- the bytes of a range that a loaded segment shows are those at its address
pub shown_range-Keeps : (file : List ℕ) (segments : List SegmentHeader) → DoFilePartsFit segments → AllPairs SharesNothing (map memory_part (loads_of segments))
    → (r : Range) (address : ℕ) → Any (λ p. ShowsAt p r address) (loads_of segments) → Keeps (memory_of (field r.size r.start file)) (from (byte_at segments file) address)
shown_range-Keeps file segments fit apart_parts r address shown =
    range-Keeps file segments ((file_parts_fit-means segments).1 fit) ((addresses_apart-means segments).1 apart_parts) r address
    ((any_means (λ p. shows_at p r address) (λ p. ShowsAt p r address) (λ p. shows_at-means p r address) (loads_of segments)).1 shown)

-- ## All of them

pub placement_tests_mean : PlacementTestsMean
placement_tests_mean = record {
  in_file = ranges_in_file-means;
  fit = file_parts_fit-means;
  apart = segments_apart-means;
  loaded = sections_loaded-means;
  clear = uninitialized_clear-means;
  header_table = header_table_loaded-means;
}
