-- Limits of sections tell how many sets of flags are needed.
use Rattle.std.proofs.Common.{◌≡◌, ◌≢◌, ℕ, zero, suc, ◌+◌, ◌<◌, ◌≤◌, List, [], ◌∷◌, Bool, true, false, not, ◌&&◌, ◌||◌, cond, Some, None, Option, length, map, min, refl, sym, ap, ◌∙◌, subst, inl, inr, arith}
use Rattle.std.specs.Prelude.{count_by, filter, if◌then◌else◌, nat_le, slice_get, ◌==◌}
use Rattle.std.specs.List.{cons_option, list_any}
use Rattle.std.proofs.lemmas.Bool.{and_from, and_parts, cases_eq, cases_lt, eq-eqb, eqb-true, false≢true, lt-leb, ne_eqb, le-leb}
use Rattle.std.proofs.lemmas.List.Folds.{list_any-append}
use Rattle.std.proofs.lemmas.Option.{slice_get-get_or, slice_get_cases, slice_get_within}
use Rattle.elf_format.specs.Image.{ImageSection, counted}
use Rattle.elf_format.specs.Options.{is_one_of}
use Rattle.elf_format.specs.Places.{is_set}
use Rattle.elf_format.specs.declared.constants.TheConstants.{SHF_EXECINSTR, SHF_WRITE, SHT_NOTE}
use Rattle.elf_format.proofs.ForCallers.Lengths.{length-counted, slice_index-counted}
use Rattle.elf_layout_plan.specs.Memory.{Resized, SizedSection, sized_sections}
use Rattle.elf_layout_plan.specs.Rounds.{added_flags, each_once, flags_for, sections_at}
use Rattle.elf_layout_plan.proofs.ForCallers.ApartLists.{Each, any-at, any-from, each-filter, each-more}
use Rattle.elf_layout_moves.specs.Limits.{limit_at}
use Rattle.elf_layout_moves.specs.declared.limits.TheConstants.{NEVER}
use Rattle.elf_layout_segments.specs.Forecasts.{IsFlagsLimit, does_flagged_move, needs_flags}
use Rattle.elf_layout_segments.specs.Sections.{AreSized}
use Rattle.elf_layout_segments.proofs.CountLaws.{count-cons}
use Rattle.elf_layout_segments.proofs.SplitSteps.{length-sized, sized-there}

same_if_both : (a b : Bool) → (a ≡ true → b ≡ true) → (b ≡ true → a ≡ true) → a ≡ b
same_if_both true b f g = sym (f refl)
same_if_both false true f g = absurd (false≢true (g refl))
same_if_both false false f g = refl

-- ## Each number once

abbrev count_of : ℕ → List ℕ → ℕ
count_of f ns = count_by (λ m. m == f) ns

-- without a number, another one is there as often
without_other : (n f : ℕ) → n ≢ f → (ns : List ℕ) → count_of f (filter (λ m. not (m == n)) ns) ≡ count_of f ns
without_other n f apart [] = refl
without_other n f apart (x ∷ xs) = elim (cases_eq x n) [
  | inl same ↦
      ap (λ (b : Bool). count_of f (cond (not b) (x ∷ filter (λ m. not (m == n)) xs) (filter (λ m. not (m == n)) xs))) (eq-eqb x n same)
      ∙ without_other n f apart xs
      ∙ sym (count-cons (λ m. m == f) x xs ∙ ap (λ (b : Bool). cond b 1 0 + count_of f xs) (ne_eqb x f (λ is. apart (sym same ∙ is))) ∙ zero_more (count_of f xs))
  | inr other ↦
      ap (λ (b : Bool). count_of f (cond (not b) (x ∷ filter (λ m. not (m == n)) xs) (filter (λ m. not (m == n)) xs))) (ne_eqb x n other)
      ∙ count-cons (λ m. m == f) x (filter (λ m. not (m == n)) xs)
      ∙ ap (λ (k : ℕ). cond (x == f) 1 0 + k) (without_other n f apart xs)
      ∙ sym (count-cons (λ m. m == f) x xs)
]
  where
    zero_more : (k : ℕ) → 0 + k ≡ k
    zero_more k = omega arith

-- without a number, that number is there never
without_it : (n : ℕ) (ns : List ℕ) → count_of n (filter (λ m. not (m == n)) ns) ≡ 0
without_it n [] = refl
without_it n (x ∷ xs) = elim (cases_eq x n) [
  | inl same ↦ ap (λ (b : Bool). count_of n (cond (not b) (x ∷ filter (λ m. not (m == n)) xs) (filter (λ m. not (m == n)) xs))) (eq-eqb x n same) ∙ without_it n xs
  | inr other ↦
      ap (λ (b : Bool). count_of n (cond (not b) (x ∷ filter (λ m. not (m == n)) xs) (filter (λ m. not (m == n)) xs))) (ne_eqb x n other)
      ∙ count-cons (λ m. m == n) x (filter (λ m. not (m == n)) xs)
      ∙ ap (λ (b : Bool). cond b 1 0 + count_of n (filter (λ m. not (m == n)) xs)) (ne_eqb x n other)
      ∙ zero_more (count_of n (filter (λ m. not (m == n)) xs)) ∙ without_it n xs
]
  where
    zero_more : (k : ℕ) → 0 + k ≡ k
    zero_more k = omega arith

abbrev as_number : Bool → ℕ
as_number b = cond b 1 0

one_more_than : {k : ℕ} → k ≡ 0 → as_number true + k ≡ as_number true
one_more_than none = omega (arith, none)

once : (f : ℕ) (ns : List ℕ) → count_of f (each_once ns) ≡ as_number (is_one_of ns f)
unfolding each_once
once f [] = refl
once f (n ∷ ns) = elim (cases_eq n f) [
  | inl same ↦
      count-cons (λ m. m == f) n (filter (λ m. not (m == n)) (each_once ns))
      ∙ ap (λ (b : Bool). cond b 1 0 + count_of f (filter (λ m. not (m == n)) (each_once ns))) (eq-eqb n f same)
      ∙ ap (λ (k : ℕ). cond true 1 0 + count_of k (filter (λ m. not (m == n)) (each_once ns))) (sym same)
      ∙ one_more_than (without_it n (each_once ns))
      ∙ sym (ap (λ (b : Bool). as_number (b || is_one_of ns f)) (eq-eqb n f same))
  | inr other ↦
      let rest = without_other n f other (each_once ns) ∙ once f ns in
      let here : as_number (n == f) ≡ 0 = ap as_number (ne_eqb n f other) in
      let whole = count-cons (λ m. m == f) n (filter (λ m. not (m == n)) (each_once ns)) in
      let after : as_number (is_one_of (n ∷ ns) f) ≡ as_number (is_one_of ns f) = ap (λ (b : Bool). as_number (b || is_one_of ns f)) (ne_eqb n f other) in
      omega (arith, rest, here, whole, after)
]

-- ## Flags

IsFlags : ℕ → Type 0
IsFlags n = (4 ≤ n) × (n ≤ 7)

flags_are : (leave : Bool) (s : ImageSection) → IsFlags (flags_for leave s)
unfolding IsFlags
flags_are leave s = by_tests (s.sh_type == SHT_NOTE) (leave || is_set SHF_WRITE s.sh_flags) (is_set SHF_EXECINSTR s.sh_flags)
  where
    by_tests : (a b c : Bool) → (4 ≤ (if a then 4 else 4 + (if b then 2 else 0) + (if c then 1 else 0))) × ((if a then 4 else 4 + (if b then 2 else 0) + (if c then 1 else 0)) ≤ 7)
    by_tests true b c = (omega arith, omega arith)
    by_tests false true true = (omega arith, omega arith)
    by_tests false true false = (omega arith, omega arith)
    by_tests false false true = (omega arith, omega arith)
    by_tests false false false = (omega arith, omega arith)

-- as many numbers as there are of each of the four sets of flags
four : (ns : List ℕ) → Each IsFlags ns → length ns ≡ count_of 4 ns + count_of 5 ns + count_of 6 ns + count_of 7 ns
unfolding IsFlags
four [] all = omega arith
four (n ∷ ns) (here, all) =
    let rest = four ns all in
    let a = count-cons (λ m. m == 4) n ns in
    let b = count-cons (λ m. m == 5) n ns in
    let c = count-cons (λ m. m == 6) n ns in
    let d = count-cons (λ m. m == 7) n ns in
    let one = one_of_four n here in
    omega (arith, rest, a, b, c, d, one)
  where
    one_of_four : (k : ℕ) → (4 ≤ k) × (k ≤ 7) → cond (k == 4) 1 0 + cond (k == 5) 1 0 + cond (k == 6) 1 0 + cond (k == 7) 1 0 ≡ 1
    one_of_four k (low, high) = elim (cases_eq k 4) [
      | inl is ↦ subst (λ (j : ℕ). cond (j == 4) 1 0 + cond (j == 5) 1 0 + cond (j == 6) 1 0 + cond (j == 7) 1 0 ≡ 1) (sym is) refl
      | inr not_four ↦ elim (cases_eq k 5) [
        | inl is ↦ subst (λ (j : ℕ). cond (j == 4) 1 0 + cond (j == 5) 1 0 + cond (j == 6) 1 0 + cond (j == 7) 1 0 ≡ 1) (sym is) refl
        | inr not_five ↦ elim (cases_eq k 6) [
          | inl is ↦ subst (λ (j : ℕ). cond (j == 4) 1 0 + cond (j == 5) 1 0 + cond (j == 6) 1 0 + cond (j == 7) 1 0 ≡ 1) (sym is) refl
          | inr not_six ↦
              let is : k ≡ 7 = omega (arith, low, high, not_four, not_five, not_six) in
              subst (λ (j : ℕ). cond (j == 4) 1 0 + cond (j == 5) 1 0 + cond (j == 6) 1 0 + cond (j == 7) 1 0 ≡ 1) (sym is) refl
        ]
      ]
    ]

each_once-each : (P : ℕ → Type 0) (ns : List ℕ) → Each P ns → Each P (each_once ns)
unfolding each_once
each_once-each P [] all = tt
each_once-each P (n ∷ ns) (here, all) =
    (here, each-more (λ m. (not (m == n) ≡ true) × P m) P (λ m h. h.1) (filter (λ m. not (m == n)) (each_once ns)) (each-filter P (λ m. not (m == n)) (each_once ns) (each_once-each P ns all)))

all_flags : (leave : Bool) (ss : List SizedSection) → Each IsFlags (map (λ (s : SizedSection). flags_for leave s.kept.section) ss)
all_flags leave [] = tt
all_flags leave (s ∷ ss) = (flags_are leave s.kept.section, all_flags leave ss)

-- ## Sections that move

module _ (r : Resized) (are : AreSized r) (limits moved : List ℕ) (end : ℕ)
    (tells : (position : ℕ) → position < length r.image.sections → is_one_of moved position ≡ nat_le (limit_at limits position) end) where
  abbrev has_flags : ℕ → Option SizedSection → Bool
  has_flags f None = false
  has_flags f (Some s) = flags_for r.image.moves_dynamic s.kept.section == f

  needs_at : (f q : ℕ) → has_flags f (slice_get (sized_sections r) q) ≡ needs_flags r.image.moves_dynamic r.image.sections f q
  unfolding needs_flags
  needs_at f q = elim (slice_get_cases r.image.sections q).1 [
    | inl (s, within, at, same) ↦
        ap (has_flags f) (sized-there r are q s at) ∙ sym (ap (λ (o : Option ImageSection). elim o [ Some t ↦ flags_for r.image.moves_dynamic t == f | None ↦ false ]) at)
    | inr (past, none) ↦ ap (has_flags f) (slice_get_past (sized_sections r) q (omega (arith, past, length-sized r are)))
        ∙ sym (ap (λ (o : Option ImageSection). elim o [ Some t ↦ flags_for r.image.moves_dynamic t == f | None ↦ false ]) none)
  ]
    where
      slice_get_past : {X : Type 0} (xs : List X) (k : ℕ) → length xs ≤ k → slice_get xs k ≡ None
      slice_get_past [] k past = refl
      slice_get_past (x ∷ xs) zero past = absurd (omega (arith, past))
      slice_get_past (x ∷ xs) (suc k) past = slice_get_past xs k (omega (arith, past))

  among_flags : (f : ℕ) (ms : List ℕ) → is_one_of (map (λ (s : SizedSection). flags_for r.image.moves_dynamic s.kept.section) (sections_at r ms)) f ≡ list_any (needs_flags r.image.moves_dynamic r.image.sections f) ms
  among_flags f [] = refl
  among_flags f (q ∷ ms) = by_section (slice_get (sized_sections r) q) ∙ ap (λ (t : Bool). t || is_one_of (map (λ (s : SizedSection). flags_for r.image.moves_dynamic s.kept.section) (sections_at r ms)) f) (needs_at f q)
      ∙ ap (λ (t : Bool). needs_flags r.image.moves_dynamic r.image.sections f q || t) (among_flags f ms)
    where
      by_section : (o : Option SizedSection) → is_one_of (map (λ (s : SizedSection). flags_for r.image.moves_dynamic s.kept.section) (cons_option o (sections_at r ms))) f
          ≡ (has_flags f o || is_one_of (map (λ (s : SizedSection). flags_for r.image.moves_dynamic s.kept.section) (sections_at r ms)) f)
      by_section (Some s) = refl
      by_section None = refl

  needed_there : (f q : ℕ) → needs_flags r.image.moves_dynamic r.image.sections f q ≡ true → q < length r.image.sections
  unfolding needs_flags
  needed_there f q is = elim (slice_get_cases r.image.sections q).1 [
    | inl (s, within, at, same) ↦ slice_get_within r.image.sections q s at
    | inr (past, none) ↦ absurd (false≢true (sym (ap (λ (o : Option ImageSection). elim o [ Some t ↦ flags_for r.image.moves_dynamic t == f | None ↦ false ]) none) ∙ is))
  ]

  counted_at : (n q : ℕ) → q < n → slice_get (counted n) q ≡ Some q
  counted_at n q within =
      slice_get-get_or (counted n) q 0 (omega (arith, length-counted n, within)) ∙ ap Some (slice_index-counted n q within)

  flagged : (f : ℕ) → list_any (needs_flags r.image.moves_dynamic r.image.sections f) moved ≡ does_flagged_move r.image.moves_dynamic limits r.image.sections end f
  flagged f =
      let n : ℕ = length r.image.sections in
      let both : ℕ → Bool = λ position. needs_flags r.image.moves_dynamic r.image.sections f position && nat_le (limit_at limits position) end in
      same_if_both (list_any (needs_flags r.image.moves_dynamic r.image.sections f) moved) (list_any both (counted n))
      (λ some.
      let (i, q, at, needs) = any-at (needs_flags r.image.moves_dynamic r.image.sections f) moved some in
      let within = needed_there f q needs in
      let is : is_one_of moved q ≡ true = any-from (λ x. x == q) moved i q at (eq-eqb q q refl) in
      any-from both (counted n) q q (counted_at n q within) (and_from (needs_flags r.image.moves_dynamic r.image.sections f q) (nat_le (limit_at limits q) end) needs (sym (tells q within) ∙ is)))
      (λ some.
      let (i, q, at, passes) = any-at both (counted n) some in
      let parts = and_parts (needs_flags r.image.moves_dynamic r.image.sections f q) (nat_le (limit_at limits q) end) passes in
      let (j, m, at_m, same) = any-at (λ x. x == q) moved (tells q (needed_there f q parts.0) ∙ parts.1) in
      any-from (needs_flags r.image.moves_dynamic r.image.sections f) moved j m at_m (ap (needs_flags r.image.moves_dynamic r.image.sections f) (eqb-true m q same) ∙ parts.0))

  pub flags_told : length (added_flags r moved) ≡ count_by (does_flagged_move r.image.moves_dynamic limits r.image.sections end) (4 ∷ 5 ∷ 6 ∷ 7 ∷ [])
  flags_told =
      let ns : List ℕ = map (λ (s : SizedSection). flags_for r.image.moves_dynamic s.kept.section) (sections_at r moved) in
      let d : ℕ → Bool = does_flagged_move r.image.moves_dynamic limits r.image.sections end in
      let all = four (each_once ns) (each_once-each IsFlags ns (all_flags r.image.moves_dynamic (sections_at r moved))) in
      let a = once 4 ns ∙ ap (λ (b : Bool). cond b 1 0) (among_flags 4 moved ∙ flagged 4) in
      let b = once 5 ns ∙ ap (λ (b : Bool). cond b 1 0) (among_flags 5 moved ∙ flagged 5) in
      let c = once 6 ns ∙ ap (λ (b : Bool). cond b 1 0) (among_flags 6 moved ∙ flagged 6) in
      let e = once 7 ns ∙ ap (λ (b : Bool). cond b 1 0) (among_flags 7 moved ∙ flagged 7) in
      let w = count-cons d 4 (5 ∷ 6 ∷ 7 ∷ []) in
      let x = count-cons d 5 (6 ∷ 7 ∷ []) in
      let y = count-cons d 6 (7 ∷ []) in
      let z = count-cons d 7 [] in
      let none : count_by d [] ≡ 0 = refl in
      omega (arith, all, a, b, c, e, w, x, y, z, none)

-- ## The limits of flags

-- ## One section after the other

or_false : (b : Bool) → (b || false) ≡ b
or_false true = refl
or_false false = refl

min_le : (a b end : ℕ) → nat_le (min a b) end ≡ (nat_le a end || nat_le b end)
min_le a b end = elim (cases_lt end a) [
  | inr le ↦ le-leb (min a b) end (omega (arith, le)) ∙ sym (ap (λ (t : Bool). t || nat_le b end) (le-leb a end le))
  | inl more ↦ elim (cases_lt end b) [
    | inr le ↦ le-leb (min a b) end (omega (arith, le)) ∙ sym (ap (λ (t : Bool). t || nat_le b end) (lt-leb a end more) ∙ le-leb b end le)
    | inl also ↦ lt-leb (min a b) end (omega (arith, more, also)) ∙ sym (ap (λ (t : Bool). t || nat_le b end) (lt-leb a end more) ∙ lt-leb b end also)
  ]
]

-- the least limit so far
pub record IsFlagsLimitBelow (leave : Bool) (limits : List ℕ) (sections : List ImageSection) (flags place least : ℕ) : Type 0 where
  pub tells : (end : ℕ) → end < NEVER → nat_le least end ≡ list_any (λ position. needs_flags leave sections flags position && nat_le (limit_at limits position) end) (counted place)

pub none_flagged : (leave : Bool) (limits : List ℕ) (sections : List ImageSection) (flags : ℕ) → IsFlagsLimitBelow leave limits sections flags 0 NEVER
unfolding counted
none_flagged leave limits sections flags = record { tells = λ end near. lt-leb NEVER end near }

one_more : (leave : Bool) (limits : List ℕ) (sections : List ImageSection) (flags place end : ℕ) → list_any (λ position. needs_flags leave sections flags position && nat_le (limit_at limits position) end) (counted (place + 1))
    ≡ (list_any (λ position. needs_flags leave sections flags position && nat_le (limit_at limits position) end) (counted place) || (needs_flags leave sections flags place && nat_le (limit_at limits place) end))
unfolding counted
one_more leave limits sections flags place end =
    let test : ℕ → Bool = λ position. needs_flags leave sections flags position && nat_le (limit_at limits position) end in
    let next : place + 1 ≡ suc place = omega arith in
    ap (λ (n : ℕ). list_any test (counted n)) next ∙ list_any-append test (counted place) (place ∷ []) ∙ ap (λ (t : Bool). list_any test (counted place) || t) (or_false (test place))

pub flagged_next : (leave : Bool) (limits : List ℕ) (sections : List ImageSection) (flags place least : ℕ) → needs_flags leave sections flags place ≡ true → IsFlagsLimitBelow leave limits sections flags place least
    → IsFlagsLimitBelow leave limits sections flags (place + 1) (min least (limit_at limits place))
flagged_next leave limits sections flags place least needs is = record {
  tells = λ end near. min_le least (limit_at limits place) end ∙ ap (λ (t : Bool). t || nat_le (limit_at limits place) end) (is.tells end near)
      ∙ ap (λ (t : Bool). list_any (λ position. needs_flags leave sections flags position && nat_le (limit_at limits position) end) (counted place) || (t && nat_le (limit_at limits place) end)) (sym needs)
      ∙ sym (one_more leave limits sections flags place end);
}

pub flagged_passed : (leave : Bool) (limits : List ℕ) (sections : List ImageSection) (flags place least : ℕ) → needs_flags leave sections flags place ≡ false → IsFlagsLimitBelow leave limits sections flags place least
    → IsFlagsLimitBelow leave limits sections flags (place + 1) least
flagged_passed leave limits sections flags place least isnt is = record {
  tells = λ end near. is.tells end near
      ∙ sym (or_false (list_any (λ position. needs_flags leave sections flags position && nat_le (limit_at limits position) end) (counted place)))
      ∙ ap (λ (t : Bool). list_any (λ position. needs_flags leave sections flags position && nat_le (limit_at limits position) end) (counted place) || (t && nat_le (limit_at limits place) end)) (sym isnt)
      ∙ sym (one_more leave limits sections flags place end);
}

pub needs_here : (leave : Bool) (sections : List ImageSection) (flags place : ℕ) (s : ImageSection) → slice_get sections place ≡ Some s → needs_flags leave sections flags place ≡ (flags_for leave s == flags)
unfolding needs_flags
needs_here leave sections flags place s at = ap (λ (o : Option ImageSection). elim o [ Some t ↦ flags_for leave t == flags | None ↦ false ]) at

pub all_flagged : (leave : Bool) (limits : List ℕ) (sections : List ImageSection) (flags place least : ℕ) → place ≡ length sections → IsFlagsLimitBelow leave limits sections flags place least → IsFlagsLimit leave limits sections flags least
all_flagged leave limits sections flags place least all is = record { tells = λ end near. is.tells end near ∙ ap (λ (n : ℕ). list_any (λ position. needs_flags leave sections flags position && nat_le (limit_at limits position) end) (counted n)) all }
