-- Whether a program header is over notes, by counts of where sections begin and end.
use Rattle.std.proofs.Common.{◌≡◌, ℕ, zero, suc, ◌+◌, ◌-◌, ◌<◌, ◌≤◌, Bool, true, false, not, ◌&&◌, ◌||◌, cond, List, [], ◌∷◌, refl, sym, ap, ◌∙◌, inl, inr, arith}
use Rattle.std.specs.Prelude.{count_by, filter, nat_le, nat_lt, ◌==◌}
use Rattle.std.specs.List.{list_all, list_any}
use Rattle.std.proofs.lemmas.Bool.{and_from, and_left, and_parts, and_right, cases_lt, eqb-false, false_from_ne_true, ne_eqb, or_from, or_right, le-leb, le-ltb, leb-true, lt-leb, lt-ltb, ltb-true, true≢false}
use Rattle.std.proofs.lemmas.List.Sorted.{list_any-IsPermutation}
use Rattle.elf_format.specs.Placement.{file_part}
use Rattle.elf_format.specs.Places.{file_range, occupies_file}
use Rattle.elf_format.specs.Ranges.{apart, end_of}
use Rattle.elf_format.specs.declared.records.SegmentHeader.{SegmentHeader}
use Rattle.elf_layout_segments.specs.declared.file_ranges.FileRanges.{FileRanges}
use Rattle.elf_layout_segments.specs.declared.sections.SectionAt.{SectionAt}
use Rattle.elf_layout_segments.specs.Asked.{below, is_some_in}
use Rattle.elf_layout_segments.specs.FileRanges.{AreFileRanges, are_all_notes_by, ends_at, is_clear, is_over_counts, other_starts_at, starts_at}
use Rattle.elf_layout_segments.specs.InOrder.{is_in}
use Rattle.elf_layout_segments.specs.AnchorSearch.{are_notes_in}
use Rattle.elf_layout_segments.specs.Sections.{begins_in, has_bytes_at, is_loaded_note_at, is_note_at, place_at, shares_bytes_at}
use Rattle.elf_layout_segments.proofs.CountLaws.{all_agree, any-picked, as_many_pass, count-parted, count-permutation, count-picked, count_agree}

-- ## Tests of all elements

all-both : {X : Type 0} → (p q : X → Bool) (xs : List X) → (list_all p xs && list_all q xs) ≡ list_all (λ x. p x && q x) xs
all-both p q [] = refl
all-both p q (x ∷ xs) = by_tests (p x) (q x) (list_all p xs) (list_all q xs) (all-both p q xs)
  where
    by_tests : (a b c d : Bool) → (c && d) ≡ list_all (λ y. p y && q y) xs → ((a && c) && (b && d)) ≡ ((a && b) && list_all (λ y. p y && q y) xs)
    by_tests true true c d e = e
    by_tests true false true d e = refl
    by_tests true false false d e = refl
    by_tests false b c d e = refl

all-filter : {X : Type 0} → (p q : X → Bool) (xs : List X) → list_all q (filter p xs) ≡ list_all (λ x. not (p x) || q x) xs
all-filter p q [] = refl
all-filter p q (x ∷ xs) = by_test (p x) (all-filter p q xs)
  where
    by_test : (b : Bool) → list_all q (filter p xs) ≡ list_all (λ y. not (p y) || q y) xs
        → list_all q (cond b (x ∷ filter p xs) (filter p xs)) ≡ ((not b || q x) && list_all (λ y. not (p y) || q y) xs)
    by_test true e = ap (λ c. q x && c) e
    by_test false e = e

not-any : {X : Type 0} → (p : X → Bool) (xs : List X) → not (list_any p xs) ≡ list_all (λ x. not (p x)) xs
not-any p [] = refl
not-any p (x ∷ xs) = by_test (p x) (not-any p xs)
  where
    by_test : (b : Bool) → not (list_any p xs) ≡ list_all (λ y. not (p y)) xs → not (b || list_any p xs) ≡ (not b && list_all (λ y. not (p y)) xs)
    by_test true e = refl
    by_test false e = e

-- ## One section

-- A section begins before a range (x), before the range's end (y), it ends by the range's start (u), by its end (v); n, it is a note.
bool_law : (n x y u v : Bool) → (u ≡ true → x ≡ true) → (u ≡ true → v ≡ true) → (x ≡ true → y ≡ true) → (v ≡ true → y ≡ true)
    → (not (x && not u) && not (y && not v) && not (not n && (not x && y))) ≡ (not (not (false || false || u || not y)) || n && (not x && v))
bool_law true true true true true ux uv xy vy = refl
bool_law false true true true true ux uv xy vy = refl
bool_law true true true true false ux uv xy vy = absurd (true≢false (sym (uv refl)))
bool_law false true true true false ux uv xy vy = absurd (true≢false (sym (uv refl)))
bool_law true false true true true ux uv xy vy = absurd (true≢false (sym (ux refl)))
bool_law false false true true true ux uv xy vy = absurd (true≢false (sym (ux refl)))
bool_law true false true true false ux uv xy vy = absurd (true≢false (sym (ux refl)))
bool_law false false true true false ux uv xy vy = absurd (true≢false (sym (ux refl)))
bool_law true true false true true ux uv xy vy = absurd (true≢false (sym (xy refl)))
bool_law false true false true true ux uv xy vy = absurd (true≢false (sym (xy refl)))
bool_law true true false true false ux uv xy vy = absurd (true≢false (sym (uv refl)))
bool_law false true false true false ux uv xy vy = absurd (true≢false (sym (uv refl)))
bool_law true false false true true ux uv xy vy = absurd (true≢false (sym (ux refl)))
bool_law false false false true true ux uv xy vy = absurd (true≢false (sym (ux refl)))
bool_law true false false true false ux uv xy vy = absurd (true≢false (sym (ux refl)))
bool_law false false false true false ux uv xy vy = absurd (true≢false (sym (ux refl)))
bool_law true true true false true ux uv xy vy = refl
bool_law false true true false true ux uv xy vy = refl
bool_law true true true false false ux uv xy vy = refl
bool_law false true true false false ux uv xy vy = refl
bool_law true false true false true ux uv xy vy = refl
bool_law false false true false true ux uv xy vy = refl
bool_law true false true false false ux uv xy vy = refl
bool_law false false true false false ux uv xy vy = refl
bool_law true true false false true ux uv xy vy = absurd (true≢false (sym (xy refl)))
bool_law false true false false true ux uv xy vy = absurd (true≢false (sym (xy refl)))
bool_law true true false false false ux uv xy vy = absurd (true≢false (sym (xy refl)))
bool_law false true false false false ux uv xy vy = absurd (true≢false (sym (xy refl)))
bool_law true false false false true ux uv xy vy = absurd (true≢false (sym (vy refl)))
bool_law false false false false true ux uv xy vy = absurd (true≢false (sym (vy refl)))
bool_law true false false false false ux uv xy vy = refl
bool_law false false false false false ux uv xy vy = refl

above : (a n : ℕ) → nat_le a n ≡ not (nat_lt n a)
above a n = elim (cases_lt n a) [
  | inl less ↦ lt-leb a n less ∙ sym (ap not (lt-ltb n a less))
  | inr more ↦ le-leb a n more ∙ sym (ap not (le-ltb n a more))
]

by_next : (n a : ℕ) → nat_lt n (a + 1) ≡ nat_le n a
by_next n a = elim (cases_lt a n) [
  | inl more ↦ le-ltb n (a + 1) (omega (arith, more)) ∙ sym (lt-leb n a more)
  | inr less ↦ lt-ltb n (a + 1) (omega (arith, less)) ∙ sym (le-leb n a less)
]

module _ (p : SegmentHeader) (some : (p.p_filesz == 0) ≡ false) where
  abbrev from : ℕ
  from = p.p_offset

  abbrev to : ℕ
  to = end_of (file_part p)

  abbrev begins_before : ℕ → SectionAt → Bool
  begins_before n s = has_bytes_at s && nat_lt s.sh_offset n

  abbrev ends_before : ℕ → SectionAt → Bool
  ends_before n s = has_bytes_at s && nat_lt (end_of (file_range (place_at s))) n

  long : from < to
  long = elim (cases_lt 0 p.p_filesz) [
    | inl more ↦ omega (arith, more)
    | inr none ↦ absurd (eqb-false p.p_filesz 0 some (omega (arith, none)))
  ]

  has_size : (s : SectionAt) → has_bytes_at s ≡ true → 0 < s.sh_size
  has_size s h =
      let (there, nonzero) = and_parts (occupies_file (place_at s)) (not (s.sh_size == 0)) h in
      elim (cases_lt 0 s.sh_size) [
        | inl more ↦ more
        | inr none ↦ absurd (true≢false (sym nonzero ∙ ap (λ n. not (n == 0)) (let e : s.sh_size ≡ 0 = omega (arith, none) in e)))
      ]

  -- what ends by a place begins before a later one
  ends_later : (m n : ℕ) → m ≤ n → (s : SectionAt) → ends_before (m + 1) s ≡ true → begins_before n s ≡ true
  ends_later m n h s e =
      let (bytes, ends) = and_parts (has_bytes_at s) (nat_lt (end_of (file_range (place_at s))) (m + 1)) e in
      and_from (has_bytes_at s) (nat_lt s.sh_offset n) bytes (lt-ltb s.sh_offset n (omega (arith, h, has_size s bytes, ltb-true (s.sh_offset + s.sh_size) (m + 1) ends)))

  -- ## Those that share a byte

  apart_is : (s : SectionAt) → 0 < s.sh_size
      → apart (file_range (place_at s)) (file_part p) ≡ (false || false || nat_le (s.sh_offset + s.sh_size) from || not (nat_lt s.sh_offset to))
  apart_is s h =
      ap (λ b. b || p.p_filesz == 0 || nat_le (s.sh_offset + s.sh_size) from || nat_le to s.sh_offset) (lt_ne s.sh_size h)
      ∙ ap (λ b. false || b || nat_le (s.sh_offset + s.sh_size) from || nat_le to s.sh_offset) some
      ∙ ap (λ b. false || false || nat_le (s.sh_offset + s.sh_size) from || b) (above to s.sh_offset)
    where
      lt_ne : (n : ℕ) → 0 < n → (n == 0) ≡ false
      lt_ne zero g = absurd (omega (arith, g))
      lt_ne (suc n) g = ne_eqb (suc n) 0 (λ e. omega (arith, e))

  shares_number : (s : SectionAt) → 0 < s.sh_size
      → (nat_lt s.sh_offset to && not (nat_lt (s.sh_offset + s.sh_size) (from + 1))) ≡ not (apart (file_range (place_at s)) (file_part p))
  shares_number s h =
      ap (λ b. nat_lt s.sh_offset to && not b) (by_next (s.sh_offset + s.sh_size) from)
      ∙ by_tests (nat_lt s.sh_offset to) (nat_le (s.sh_offset + s.sh_size) from)
      ∙ ap not (sym (apart_is s h))
    where
      by_tests : (y u : Bool) → (y && not u) ≡ not (false || false || u || not y)
      by_tests true true = refl
      by_tests true false = refl
      by_tests false true = refl
      by_tests false false = refl

  shares_counted : (s : SectionAt) → (begins_before to s && not (ends_before (from + 1) s)) ≡ shares_bytes_at p s
  shares_counted s = by_bytes (has_bytes_at s) refl
    where
      by_bytes : (b : Bool) → has_bytes_at s ≡ b
          → ((b && nat_lt s.sh_offset to) && not (b && nat_lt (s.sh_offset + s.sh_size) (from + 1))) ≡ (b && not (apart (file_range (place_at s)) (file_part p)))
      by_bytes false e = refl
      by_bytes true e = shares_number s (has_size s e)

  sharers_counted : (xs : List SectionAt) → count_by (shares_bytes_at p) xs ≡ count_by (begins_before to) xs - count_by (ends_before (from + 1)) xs
  sharers_counted xs =
      let parted = count-parted (begins_before to) (ends_before (from + 1)) (ends_later from to (omega (arith, long))) xs in
      let same = count_agree (λ s. begins_before to s && not (ends_before (from + 1) s)) (shares_bytes_at p) shares_counted xs in
      omega (arith, parted, same)

  -- ## Those that are notes

  abbrev is_alone : SectionAt → Bool
  is_alone s =
      not (begins_before from s && not (ends_before (from + 1) s)) && not (begins_before to s && not (ends_before (to + 1) s))
      && not ((has_bytes_at s && not (is_loaded_note_at s)) && is_in (file_part p) s.sh_offset)

  alone_is : (s : SectionAt) → is_alone s ≡ (not (shares_bytes_at p s) || is_note_at p s)
  alone_is s = by_bytes (has_bytes_at s) refl
    where
      by_bytes : (b : Bool) → has_bytes_at s ≡ b
          → (not ((b && nat_lt s.sh_offset from) && not (b && nat_lt (s.sh_offset + s.sh_size) (from + 1)))
          && not ((b && nat_lt s.sh_offset to) && not (b && nat_lt (s.sh_offset + s.sh_size) (to + 1)))
          && not ((b && not (is_loaded_note_at s)) && (nat_le from s.sh_offset && nat_lt s.sh_offset to)))
          ≡ (not (b && not (apart (file_range (place_at s)) (file_part p))) || is_note_at p s)
      by_bytes false e = refl
      by_bytes true e =
          let size : 0 < s.sh_size = has_size s e in
          let ends : from < to = long in
          let x : Bool = nat_lt s.sh_offset from in
          let y : Bool = nat_lt s.sh_offset to in
          let u : Bool = nat_le (s.sh_offset + s.sh_size) from in
          let v : Bool = nat_le (s.sh_offset + s.sh_size) to in
          let n : Bool = is_loaded_note_at s in
          ap (λ b. not (x && not b) && not (y && not (nat_lt (s.sh_offset + s.sh_size) (to + 1))) && not (not n && (nat_le from s.sh_offset && y))) (by_next (s.sh_offset + s.sh_size) from)
          ∙ ap (λ b. not (x && not u) && not (y && not b) && not (not n && (nat_le from s.sh_offset && y))) (by_next (s.sh_offset + s.sh_size) to)
          ∙ ap (λ b. not (x && not u) && not (y && not v) && not (not n && (b && y))) (above from s.sh_offset)
          ∙ bool_law n x y u v
          (λ h. lt-ltb s.sh_offset from (omega (arith, size, leb-true (s.sh_offset + s.sh_size) from h)))
          (λ h. le-leb (s.sh_offset + s.sh_size) to (omega (arith, ends, leb-true (s.sh_offset + s.sh_size) from h)))
          (λ h. lt-ltb s.sh_offset to (omega (arith, ends, ltb-true s.sh_offset from h)))
          (λ h. lt-ltb s.sh_offset to (omega (arith, size, leb-true (s.sh_offset + s.sh_size) to h)))
          ∙ ap (λ b. not (not b) || n && (not x && v)) (sym (apart_is s size))
          ∙ ap (λ b. not (not (apart (file_range (place_at s)) (file_part p))) || n && (b && v)) (sym (above from s.sh_offset))

  -- ## By counts

  module _ (xs : List SectionAt) (ranges : FileRanges) (are : AreFileRanges xs ranges) where
    starts_below : (n : ℕ) → below ranges.starts n ≡ count_by (begins_before n) xs
    starts_below n =
        count-permutation (λ x. nat_lt x n) (starts_at xs) ranges.starts.numbers.items are.starts
        ∙ count-picked has_bytes_at (λ (s : SectionAt). s.sh_offset) (λ x. nat_lt x n) xs

    ends_below : (n : ℕ) → below ranges.ends n ≡ count_by (ends_before n) xs
    ends_below n =
        count-permutation (λ x. nat_lt x n) (ends_at xs) ranges.ends.numbers.items are.ends
        ∙ count-picked has_bytes_at (λ (s : SectionAt). end_of (file_range (place_at s))) (λ x. nat_lt x n) xs

    abbrev other_in : SectionAt → Bool
    other_in s = (has_bytes_at s && not (is_loaded_note_at s)) && is_in (file_part p) s.sh_offset

    some_other : is_some_in ranges.others (file_part p) ≡ list_any other_in xs
    some_other =
        sym (list_any-IsPermutation (is_in (file_part p)) (other_starts_at xs) ranges.others.numbers.items are.others)
        ∙ any-picked (λ (s : SectionAt). has_bytes_at s && not (is_loaded_note_at s)) (λ (s : SectionAt). s.sh_offset) (is_in (file_part p)) xs

    -- each section alone passes its test
    by_place : (m n : ℕ) → (below ranges.starts n == below ranges.ends (m + 1)) ≡ (count_by (begins_before n) xs == count_by (ends_before (m + 1)) xs)
    by_place m n = ap (λ k. k == below ranges.ends (m + 1)) (starts_below n) ∙ ap (λ k. count_by (begins_before n) xs == k) (ends_below (m + 1))

    none_before : (n : ℕ) → is_clear ranges n ≡ list_all (λ s. not (begins_before n s && not (ends_before (n + 1) s))) xs
    unfolding is_clear
    none_before n = by_place n n ∙ as_many_pass (begins_before n) (ends_before (n + 1)) (ends_later n n (omega arith)) xs

    all_alone : are_all_notes_by ranges (file_part p) ≡ list_all (is_note_at p) (filter (shares_bytes_at p) xs)
    unfolding are_all_notes_by
    all_alone =
        let before : SectionAt → Bool = λ s. not (begins_before from s && not (ends_before (from + 1) s)) in
        let until : SectionAt → Bool = λ s. not (begins_before to s && not (ends_before (to + 1) s)) in
        ap (λ b. b && is_clear ranges to && not (is_some_in ranges.others (file_part p))) (none_before from)
        ∙ ap (λ b. list_all before xs && b && not (is_some_in ranges.others (file_part p))) (none_before to)
        ∙ ap (λ b. list_all before xs && list_all until xs && not b) some_other
        ∙ ap (λ b. list_all before xs && list_all until xs && b) (not-any other_in xs)
        ∙ ap (λ b. b && list_all (λ s. not (other_in s)) xs) (all-both before until xs)
        ∙ all-both (λ s. before s && until s) (λ s. not (other_in s)) xs
        ∙ all_agree (λ s. (before s && until s) && not (other_in s)) (λ s. not (shares_bytes_at p s) || is_note_at p s) alone_is xs
        ∙ sym (all-filter (shares_bytes_at p) (is_note_at p) xs)

    pub over-counts : is_over_counts ranges (file_part p) ≡ are_notes_in p xs
    unfolding is_over_counts
    over-counts =
        let sharers : below ranges.starts to - below ranges.ends (from + 1) ≡ count_by (shares_bytes_at p) xs =
        ap (λ k. k - below ranges.ends (from + 1)) (starts_below to) ∙ ap (λ k. count_by (begins_before to) xs - k) (ends_below (from + 1)) ∙ sym (sharers_counted xs) in
        ap (λ k. nat_le 2 k && are_all_notes_by ranges (file_part p)) sharers
        ∙ ap (λ b. nat_le 2 (count_by (shares_bytes_at p) xs) && b) all_alone

-- ## Where those begin that share a byte

-- a section begins in a range with which it shares a byte, if it begins no earlier
pub shares_begins : (p : SegmentHeader) (s : SectionAt) → (shares_bytes_at p s ≡ true → p.p_offset ≤ s.sh_offset) → shares_bytes_at p s ≡ begins_in (file_part p) s
shares_begins p s later = by_bytes (has_bytes_at s) refl later
  where
    by_range : (0 < s.sh_size) → (not (apart (file_range (place_at s)) (file_part p)) ≡ true → p.p_offset ≤ s.sh_offset) → not (apart (file_range (place_at s)) (file_part p)) ≡ is_in (file_part p) s.sh_offset
    by_range size no_earlier = elim (cases_lt s.sh_offset (p.p_offset + p.p_filesz)) [
      | inl before ↦ elim (cases_lt s.sh_offset p.p_offset) [
        | inl early ↦
            false_from_ne_true (not (apart (file_range (place_at s)) (file_part p))) (λ e. absurd (omega (arith, early, no_earlier e)))
            ∙ sym (and_left (nat_le p.p_offset s.sh_offset) (nat_lt s.sh_offset (p.p_offset + p.p_filesz)) (lt-leb p.p_offset s.sh_offset early))
        | inr inside ↦
            ap not (or_from (s.sh_size == 0 || p.p_filesz == 0 || nat_le (s.sh_offset + s.sh_size) p.p_offset) (nat_le (p.p_offset + p.p_filesz) s.sh_offset)
            (or_from (s.sh_size == 0 || p.p_filesz == 0) (nat_le (s.sh_offset + s.sh_size) p.p_offset)
            (or_from (s.sh_size == 0) (p.p_filesz == 0) (ne_eqb s.sh_size 0 (λ e. omega (arith, e, size))) (ne_eqb p.p_filesz 0 (λ e. omega (arith, e, before, inside))))
            (lt-leb (s.sh_offset + s.sh_size) p.p_offset (omega (arith, size, inside))))
            (lt-leb (p.p_offset + p.p_filesz) s.sh_offset before))
            ∙ sym (and_from (nat_le p.p_offset s.sh_offset) (nat_lt s.sh_offset (p.p_offset + p.p_filesz)) (le-leb p.p_offset s.sh_offset inside) (lt-ltb s.sh_offset (p.p_offset + p.p_filesz) before))
      ]
      | inr behind ↦
          ap not (or_right (s.sh_size == 0 || p.p_filesz == 0 || nat_le (s.sh_offset + s.sh_size) p.p_offset) (nat_le (p.p_offset + p.p_filesz) s.sh_offset) (le-leb (p.p_offset + p.p_filesz) s.sh_offset behind))
          ∙ sym (and_right (nat_le p.p_offset s.sh_offset) (nat_lt s.sh_offset (p.p_offset + p.p_filesz)) (le-ltb s.sh_offset (p.p_offset + p.p_filesz) behind))
    ]

    by_bytes : (b : Bool) → has_bytes_at s ≡ b → ((b && not (apart (file_range (place_at s)) (file_part p))) ≡ true → p.p_offset ≤ s.sh_offset) → (b && not (apart (file_range (place_at s)) (file_part p))) ≡ (b && is_in (file_part p) s.sh_offset)
    by_bytes false e no_earlier = refl
    by_bytes true e no_earlier = by_range (size_there e) no_earlier
      where
        size_there : has_bytes_at s ≡ true → 0 < s.sh_size
        size_there h =
            let (there, nonzero) = and_parts (occupies_file (place_at s)) (not (s.sh_size == 0)) h in
            elim (cases_lt 0 s.sh_size) [
              | inl more ↦ more
              | inr none ↦ absurd (true≢false (sym nonzero ∙ ap (λ n. not (n == 0)) (let f : s.sh_size ≡ 0 = omega (arith, none) in f)))
            ]
