-- The first of the keys of a range, in their order, is that of the first section that has just those bytes.
use Rattle.std.proofs.Common.{◌≡◌, ℕ, suc, ◌<◌, ◌≤◌, Bool, true, false, ◌&&◌, ◌||◌, cond, List, [], ◌∷◌, length, map, get_or, refl, sym, ap, ◌∙◌, subst, inl, inr, Option, Some, None, option_map, arith}
use Rattle.std.specs.Prelude.{Contains, filter, find, if◌then◌else◌, nat_lt, ◌==◌, IsSorted}
use Rattle.std.specs.List.{AllByRecursion}
use Rattle.std.specs.List.Sorted.{IsPartitionPoint, IsPartitionedBy}
use Rattle.std.specs.Ordering.{is_lt}
use Rattle.std.proofs.lemmas.Bool.{and_from, and_parts, cases_lt, cases_order, eq-eqb, eqb-true, lt-ltb, ltb-true, or_cases, or_left, or_right, true≢false}
use Rattle.std.proofs.lemmas.List.Elements.{All-from_recursion}
use Rattle.std.proofs.lemmas.List.Sorted.{All-permutation, Contains-permutation, ranks_by, sorted_far}
use Rattle.std.proofs.lemmas.List.{get_or_default}
use Rattle.std.proofs.lemmas.Option.{same_Some}
use Rattle.elf_format.specs.declared.range.Range.{Range}
use Rattle.elf_format.specs.Placement.{file_part}
use Rattle.elf_format.specs.Places.{occupies_memory}
use Rattle.elf_format.specs.declared.records.SegmentHeader.{SegmentHeader}
use Rattle.elf_layout_segments.specs.declared.sections.SectionAt.{SectionAt}
use Rattle.elf_layout_segments.specs.Keys.{AreKeys, Key, Rise, is_just, is_keyed, key_cmp, key_of, keys_at, position_if}
use Rattle.elf_layout_segments.specs.Sections.{first_at, has_bytes_at, is_just_over_at, place_at}
use Rattle.elf_layout_moves.proofs.ForCallers.{by_three_total, cmp_equal, cmp_less}

-- ## Order

abbrev matches : Range → Key → Bool
matches part key = key.0 == part.start && key.1 == part.size

-- a key stands before all keys of the range
abbrev pub is_before : Range → Key → Bool
is_before part key = nat_lt key.0 part.start || key.0 == part.start && nat_lt key.1 part.size

-- a key that isn't before the range, and not behind one of the range's: it is of the range, and its position is no greater
moved_positions : (part : Range) (k m : Key) → is_before part k ≡ false → matches part m ≡ true → is_lt (key_cmp m k) ≡ false → (k.0 ≡ part.start) × (k.1 ≡ part.size) × (k.2 ≤ m.2)
moved_positions part k m after is up =
    let parts = and_parts (m.0 == part.start) (m.1 == part.size) is in
    let o : m.0 ≡ part.start = eqb-true m.0 part.start parts.0 in
    let z : m.1 ≡ part.size = eqb-true m.1 part.size parts.1 in
    elim (cases_order k.0 m.0) [
      | inl a ↦ elim (cases_order k.1 m.1) [
        | inl b ↦ elim (cases_lt m.2 k.2) [
          | inl less ↦
              let is_less : is_lt (key_cmp m k) ≡ true = rw (cmp_equal m.0 k.0 (sym a), cmp_equal m.1 k.1 (sym b), cmp_less m.2 k.2 less) in
              absurd (true≢false (sym is_less ∙ up))
          | inr more ↦ (a ∙ o, b ∙ z, more)
        ]
        | inr (inl less) ↦
            let before : is_before part k ≡ true = or_right (nat_lt k.0 part.start) (k.0 == part.start && nat_lt k.1 part.size)
            (and_from (k.0 == part.start) (nat_lt k.1 part.size) (eq-eqb k.0 part.start (a ∙ o)) (lt-ltb k.1 part.size (omega (arith, less, z)))) in
            absurd (true≢false (sym before ∙ after))
        | inr (inr more) ↦
            let is_less : is_lt (key_cmp m k) ≡ true = rw (cmp_equal m.0 k.0 (sym a), cmp_less m.1 k.1 more) in
            absurd (true≢false (sym is_less ∙ up))
      ]
      | inr (inl less) ↦
          let before : is_before part k ≡ true = or_left (nat_lt k.0 part.start) (k.0 == part.start && nat_lt k.1 part.size) (lt-ltb k.0 part.start (omega (arith, less, o))) in
          absurd (true≢false (sym before ∙ after))
      | inr (inr more) ↦
          let is_less : is_lt (key_cmp m k) ≡ true = rw (cmp_less m.0 k.0 more) in
          absurd (true≢false (sym is_less ∙ up))
    ]

-- a key that is not behind one that is before the range is before it too
before_too : (part : Range) (k m : Key) → is_before part m ≡ true → is_lt (key_cmp m k) ≡ false → is_before part k ≡ true
before_too part k m is up = elim (cases_order k.0 m.0) [
  | inl a ↦ elim (or_cases (nat_lt m.0 part.start) (m.0 == part.start && nat_lt m.1 part.size) is) [
    | inl less ↦ or_left (nat_lt k.0 part.start) (k.0 == part.start && nat_lt k.1 part.size) (lt-ltb k.0 part.start (omega (arith, a, ltb-true m.0 part.start less)))
    | inr same ↦
        let parts = and_parts (m.0 == part.start) (nat_lt m.1 part.size) same in
        let less : m.1 < part.size = ltb-true m.1 part.size parts.1 in
        elim (cases_lt m.1 k.1) [
          | inl more ↦
              let is_less : is_lt (key_cmp m k) ≡ true = rw (cmp_equal m.0 k.0 (sym a), cmp_less m.1 k.1 more) in
              absurd (true≢false (sym is_less ∙ up))
          | inr fewer ↦ or_right (nat_lt k.0 part.start) (k.0 == part.start && nat_lt k.1 part.size)
              (and_from (k.0 == part.start) (nat_lt k.1 part.size) (eq-eqb k.0 part.start (a ∙ eqb-true m.0 part.start parts.0)) (lt-ltb k.1 part.size (omega (arith, fewer, less))))
        ]
  ]
  | inr (inl less) ↦ or_left (nat_lt k.0 part.start) (k.0 == part.start && nat_lt k.1 part.size)
      (elim (or_cases (nat_lt m.0 part.start) (m.0 == part.start && nat_lt m.1 part.size) is) [
        | inl below ↦ lt-ltb k.0 part.start (omega (arith, less, ltb-true m.0 part.start below))
        | inr same ↦
            let start : m.0 ≡ part.start = eqb-true m.0 part.start (and_parts (m.0 == part.start) (nat_lt m.1 part.size) same).0 in
            lt-ltb k.0 part.start (omega (arith, less, start))
      ])
  | inr (inr more) ↦
      let is_less : is_lt (key_cmp m k) ≡ true = rw (cmp_less m.0 k.0 more) in
      absurd (true≢false (sym is_less ∙ up))
]

far : (keys : List Key) → IsSorted key_cmp keys → (i j : ℕ) (d : Key) → i ≤ j → j < length keys → is_lt (key_cmp (get_or keys j d) (get_or keys i d)) ≡ false
far keys sorted i j d h g = sorted_far (λ (a b : Key). is_lt (key_cmp a b)) (ranks_by by_three_total (λ (k : Key). k)) keys sorted i j d h g

pub parted_keys : (part : Range) (keys : List Key) → IsSorted key_cmp keys → IsPartitionedBy (is_before part) keys
parted_keys part keys sorted i j d h g is = before_too part (get_or keys i d) (get_or keys j d) is (far keys sorted i j d h g)

-- ## The keys of sections

module _ (loaded : Bool) (part : Range) where
  abbrev just : SectionAt → Bool
  just s = is_just loaded part s

  -- of the range's keys none
  none_match : (xs : List SectionAt) → find just xs ≡ None → AllByRecursion (λ (k : Key). matches part k ≡ false) (keys_at loaded xs)
  none_match [] e = tt
  none_match (x ∷ xs) e = by_tests (is_keyed loaded x) (matches part (key_of x)) refl (none_match xs) e
    where
      by_tests : (a b : Bool) → matches part (key_of x) ≡ b → (find just xs ≡ None → AllByRecursion (λ (k : Key). matches part k ≡ false) (keys_at loaded xs))
          → cond (a && b) (Some x) (find just xs) ≡ None
          → AllByRecursion (λ (k : Key). matches part k ≡ false) (map key_of (cond a (x ∷ filter (is_keyed loaded) xs) (filter (is_keyed loaded) xs)))
      by_tests true true m rest e = absurd (some_none x e)
        where
          some_none : (y : SectionAt) → Some y ≡ None → ⊥
          some_none y f = cc
      by_tests true false m rest e = (m, rest e)
      by_tests false b m rest e = rest e

  -- the positions of the keys of later sections
  later_keys : (n : ℕ) (xs : List SectionAt) → AllByRecursion (λ (t : SectionAt). n < t.position) xs → AllByRecursion (λ (k : Key). n ≤ k.2) (keys_at loaded xs)
  later_keys n [] all = tt
  later_keys n (x ∷ xs) (h, all) = by_test (is_keyed loaded x) (later_keys n xs all)
    where
      by_test : (a : Bool) → AllByRecursion (λ (k : Key). n ≤ k.2) (keys_at loaded xs)
          → AllByRecursion (λ (k : Key). n ≤ k.2) (map key_of (cond a (x ∷ filter (is_keyed loaded) xs) (filter (is_keyed loaded) xs)))
      by_test true rest = (omega (arith, h), rest)
      by_test false rest = rest

  weaker : (n : ℕ) (ks : List Key) → AllByRecursion (λ (k : Key). n ≤ k.2) ks → AllByRecursion (λ (k : Key). matches part k ≡ true → n ≤ k.2) ks
  weaker n [] all = tt
  weaker n (k ∷ ks) (h, all) = (λ _. h, weaker n ks all)

  -- the range's first section has the least position of the range's keys
  least_first : (xs : List SectionAt) (s : SectionAt) → Rise xs → find just xs ≡ Some s → AllByRecursion (λ (k : Key). matches part k ≡ true → s.position ≤ k.2) (keys_at loaded xs)
  least_first [] s rise e = tt
  least_first (x ∷ xs) s (after, rise) e = by_tests (is_keyed loaded x) (matches part (key_of x)) refl (λ f. least_first xs s rise f) e
    where
      by_tests : (a b : Bool) → matches part (key_of x) ≡ b
          → (find just xs ≡ Some s → AllByRecursion (λ (k : Key). matches part k ≡ true → s.position ≤ k.2) (keys_at loaded xs))
          → cond (a && b) (Some x) (find just xs) ≡ Some s
          → AllByRecursion (λ (k : Key). matches part k ≡ true → s.position ≤ k.2) (map key_of (cond a (x ∷ filter (is_keyed loaded) xs) (filter (is_keyed loaded) xs)))
      by_tests true true m rest e =
          let same : x.position ≡ s.position = ap (λ (t : SectionAt). t.position) (same_Some x s e) in
          (λ _. omega (arith, same), weaker s.position (keys_at loaded xs) (subst (λ n. AllByRecursion (λ (k : Key). n ≤ k.2) (keys_at loaded xs)) same (later_keys x.position xs after)))
      by_tests true false m rest e = (λ g. absurd (true≢false (sym g ∙ m)), rest e)
      by_tests false b m rest e = rest e

  -- the key of the range's first section is among the keys, and is one of the range
  has_first : (xs : List SectionAt) (s : SectionAt) → find just xs ≡ Some s → Contains (keys_at loaded xs) (key_of s) × (matches part (key_of s) ≡ true)
  has_first [] s e = absurd (none_some s e)
    where
      none_some : (y : SectionAt) → None ≡ Some y → ⊥
      none_some y f = cc
  has_first (x ∷ xs) s e = by_tests (is_keyed loaded x) (matches part (key_of x)) refl (λ f. has_first xs s f) e
    where
      by_tests : (a b : Bool) → matches part (key_of x) ≡ b
          → (find just xs ≡ Some s → Contains (keys_at loaded xs) (key_of s) × (matches part (key_of s) ≡ true))
          → cond (a && b) (Some x) (find just xs) ≡ Some s
          → Contains (map key_of (cond a (x ∷ filter (is_keyed loaded) xs) (filter (is_keyed loaded) xs))) (key_of s) × (matches part (key_of s) ≡ true)
      by_tests true true m rest e =
          let same : x ≡ s = same_Some x s e in
          ((0, omega arith, ap key_of same), ap (λ (t : SectionAt). matches part (key_of t)) (sym same) ∙ m)
      by_tests true false m rest e =
          let ((i, h, there), is) = rest e in
          ((suc i, omega (arith, h), there), is)
      by_tests false b m rest e = rest e

  -- ## The first key

  module _ (xs : List SectionAt) (keys : List Key) (rise : Rise xs) (are : AreKeys loaded xs keys) (at : ℕ)
      (point : IsPartitionPoint (λ (k : Key). is_before part k ≡ true) (λ (k : Key). is_before part k ≡ false) keys at) where
    -- the range's first section, by the place of its key
    found_at : (s : SectionAt) → find just xs ≡ Some s → (at < length keys) × ((d : Key) → position_if part (get_or keys at d) ≡ Some s.position)
    found_at s e =
        let first = has_first xs s e in
        let (j, within, there) = Contains-permutation (keys_at loaded xs) keys (key_of s) are.same first.0 in
        let m : Key = key_of s in
        let is : matches part m ≡ true = first.1 in
        let parts = and_parts (s.sh_offset == part.start) (s.sh_size == part.size) is in
        let past : at ≤ j = elim (cases_lt j at) [
          | inl before ↦
              let early : is_before part m ≡ true = ap (is_before part) (sym there) ∙ point.0 j m (omega arith) before in
              absurd (no_match m is early)
          | inr after ↦ after
        ] in
        let inside : at < length keys = omega (arith, within, past) in
        let all = All-permutation (λ (k : Key). matches part k ≡ true → s.position ≤ k.2) (keys_at loaded xs) keys are.same
        (All-from_recursion (λ (k : Key). matches part k ≡ true → s.position ≤ k.2) (keys_at loaded xs) (least_first xs s rise e)) in (
          inside,
          λ d.
              let k : Key = get_or keys at d in
              let default : get_or keys j d ≡ m = get_or_default keys j d m within ∙ there in
              let ends = moved_positions part k m (point.1 at d (omega arith) inside) is (ap (λ (n : Key). is_lt (key_cmp n k)) (sym default) ∙ far keys are.sorted at j d past within) in
              let same : matches part k ≡ true = and_from (k.0 == part.start) (k.1 == part.size) (eq-eqb k.0 part.start ends.0) (eq-eqb k.1 part.size ends.1) in
              let position : k.2 ≡ s.position = omega (arith, ends.2, all at d inside same) in
              ap (λ b. if b then Some k.2 else None) same ∙ ap Some position,
        )
      where
        no_match : (m : Key) → matches part m ≡ true → is_before part m ≡ true → ⊥
        no_match m is early =
            let parts = and_parts (m.0 == part.start) (m.1 == part.size) is in
            let o : m.0 ≡ part.start = eqb-true m.0 part.start parts.0 in
            let z : m.1 ≡ part.size = eqb-true m.1 part.size parts.1 in
            elim (or_cases (nat_lt m.0 part.start) (m.0 == part.start && nat_lt m.1 part.size) early) [
              | inl less ↦ omega (arith, o, ltb-true m.0 part.start less)
              | inr more ↦ omega (arith, z, ltb-true m.1 part.size (and_parts (m.0 == part.start) (nat_lt m.1 part.size) more).1)
            ]

    not_found : find just xs ≡ None → at < length keys → (d : Key) → position_if part (get_or keys at d) ≡ None
    not_found e inside d =
        let all = All-permutation (λ (k : Key). matches part k ≡ false) (keys_at loaded xs) keys are.same
        (All-from_recursion (λ (k : Key). matches part k ≡ false) (keys_at loaded xs) (none_match xs e)) in
        ap (λ b. if b then Some (get_or keys at d).2 else None) (all at d inside)

    pub first-key : at < length keys → (d : Key) → position_if part (get_or keys at d) ≡ first_at just xs
    first-key inside d = by_section (find just xs) refl
      where
        by_section : (o : Option SectionAt) → find just xs ≡ o → position_if part (get_or keys at d) ≡ option_map (λ (s : SectionAt). s.position) o
        by_section None e = not_found e inside d
        by_section (Some s) e = (found_at s e).1 d

    pub no_key : length keys ≤ at → None ≡ first_at just xs
    no_key past = by_section (find just xs) refl
      where
        by_section : (o : Option SectionAt) → find just xs ≡ o → None ≡ option_map (λ (s : SectionAt). s.position) o
        by_section None e = refl
        by_section (Some s) e = absurd (omega (arith, past, (found_at s e).0))

-- ## Under a program header

find_agree : {X : Type 0} → (p q : X → Bool) → ((x : X) → p x ≡ q x) → (xs : List X) → find p xs ≡ find q xs
find_agree p q same [] = refl
find_agree p q same (x ∷ xs) = ap (λ b. cond b (Some x) (find p xs)) (same x) ∙ ap (λ o. cond (q x) (Some x) o) (find_agree p q same xs)

pub just_loaded : (p : SegmentHeader) (xs : List SectionAt) → first_at (λ s. is_just true (file_part p) s) xs ≡ first_at (λ s. is_just_over_at p s && occupies_memory (place_at s)) xs
just_loaded p xs =
    ap (option_map (λ (s : SectionAt). s.position))
    (find_agree (λ s. is_just true (file_part p) s) (λ s. is_just_over_at p s && occupies_memory (place_at s))
    (λ s. regroup (has_bytes_at s) (occupies_memory (place_at s)) (s.sh_offset == p.p_offset) (s.sh_size == p.p_filesz)) xs)
  where
    last : (m b : Bool) → (m && b) ≡ (b && m)
    last true true = refl
    last true false = refl
    last false true = refl
    last false false = refl

    regroup : (b m o z : Bool) → ((b && m) && (o && z)) ≡ (((b && o) && z) && m)
    regroup false m o z = refl
    regroup true m o z = last m (o && z)

pub just_any : (p : SegmentHeader) (xs : List SectionAt) → first_at (λ s. is_just false (file_part p) s) xs ≡ first_at (is_just_over_at p) xs
just_any p xs =
    ap (option_map (λ (s : SectionAt). s.position))
    (find_agree (λ s. is_just false (file_part p) s) (is_just_over_at p) (λ s. regroup (has_bytes_at s) (s.sh_offset == p.p_offset) (s.sh_size == p.p_filesz)) xs)
  where
    regroup : (b o z : Bool) → ((b && true) && (o && z)) ≡ ((b && o) && z)
    regroup false o z = refl
    regroup true o z = refl
