-- Blocks with a fixed one that gets longer: sections that move with the short one, and those between, may move with the long one.
use Rattle.std.proofs.Common.{◌≡◌, ◌⊎◌, ℕ, ◌+◌, ◌<◌, ◌≤◌, List, ◌∷◌, ◌++◌, Bool, true, false, not, ◌&&◌, ◌||◌, get_or, refl, sym, ap, ◌∙◌, inl, inr, arith}
use Rattle.std.specs.Prelude.{IsSome, None, Option, Some, is_some, nat_le, nat_lt, slice_get, ◌==◌}
use Rattle.std.specs.List.{list_any}
use Rattle.std.proofs.lemmas.Bool.{and_from, and_parts, both_ways, cases_Bool, cases_lt, eq-eqb, false_from_ne_true, false≢true, le-leb, leb-true, lt-ltb, ltb-true, not-true, not_from_false, or_cases, or_from, or_left, or_parts, or_right}
use Rattle.elf_format.specs.Options.{is_one_of, is_some_and}
use Rattle.elf_layout_plan.specs.Blocks.{Block, earlier_moves, has_cause, have_causes, is_block_of, is_block_of_some, is_earlier, is_kept_out, later_moves, overlaps, some_two, stay_apart}
use Rattle.elf_layout_plan.specs.Memory.{fixed_block}
use Rattle.elf_layout_plan.proofs.ForCallers.ApartLists.{Each, any-at, any-from, each-at, each-both, each-from, each-more, none-at, none-from}
use Rattle.elf_layout_moves.proofs.GrowthLists.{some_two-with}
use Rattle.elf_layout_moves.proofs.MovedLaws.{all_of, one_of}
use Rattle.elf_layout_moves.proofs.OneOrder.{earlier_on, one_is_earlier, starts_no_later, sizes_no_less}
use Rattle.elf_layout_moves.proofs.SomeTwo.{fails_of_two, none_of_two}

or_only : (x : Bool) → (x || false) ≡ true → x ≡ true
or_only true h = refl
or_only false h = h

or_last : (x y z : Bool) → (x || (y && false || z && false)) ≡ true → x ≡ true
or_last true y z h = refl
or_last false true true h = h
or_last false true false h = h
or_last false false true h = h
or_last false false false h = h

-- a block of one of some sections is one of more sections
more_sections : (moved also : List ℕ) → ((q : ℕ) → is_one_of moved q ≡ true → is_one_of also q ≡ true) → (o : Option ℕ)
    → is_some_and (is_one_of moved) o ≡ true → is_some_and (is_one_of also) o ≡ true
more_sections moved also more None is = is
more_sections moved also more (Some q) is = more q is

-- what a test says of any two blocks another one says that holds less often
fails_less : (test other : Block → Block → Bool) → ((a b : Block) → other a b ≡ true → test a b ≡ true) → (bs : List Block) → some_two test bs ≡ false → some_two other bs ≡ false
fails_less test other less bs none = none_of_two other bs (λ m n d apart p q.
    false_from_ne_true (other (get_or bs m d) (get_or bs n d)) (λ is.
    both_ways (test (get_or bs m d) (get_or bs n d)) (fails_of_two test bs none m n d apart p q) (less (get_or bs m d) (get_or bs n d) is)))

module _ (start size more : ℕ) (some : 0 < size) (grows : size ≤ more) (short_first : is_earlier (fixed_block start size) (fixed_block start more) ≡ true) where
  abbrev short : Block
  short = fixed_block start size

  abbrev long : Block
  long = fixed_block start more

  abbrev is_between : Block → Bool
  is_between b = nat_le (start + size) b.start && nat_lt b.start (start + more)

  -- ## How a block meets them

  over_this : (c : Block) (length : ℕ) → is_earlier (fixed_block start length) c ≡ true → c.start < start + length → overlaps (fixed_block start length) c ≡ true
  over_this c length after near = and_from (is_earlier (fixed_block start length) c) (nat_lt c.start (start + length) || is_kept_out (fixed_block start length) c) after
      (or_left (nat_lt c.start (start + length)) (is_kept_out (fixed_block start length) c) (lt-ltb c.start (start + length) near))

  into_this : (c : Block) (length : ℕ) → is_earlier c (fixed_block start length) ≡ true → start < c.start + c.size → overlaps c (fixed_block start length) ≡ true
  into_this c length before past = and_from (is_earlier c (fixed_block start length)) (nat_lt start (c.start + c.size) || is_kept_out c (fixed_block start length)) before
      (or_left (nat_lt start (c.start + c.size)) (is_kept_out c (fixed_block start length)) (lt-ltb start (c.start + c.size) past))

  this_over : (c : Block) (length : ℕ) → overlaps (fixed_block start length) c ≡ true → (is_earlier (fixed_block start length) c ≡ true) × (c.start < start + length)
  this_over c length over =
      let parts = and_parts (is_earlier (fixed_block start length) c) (nat_lt c.start (start + length) || is_kept_out (fixed_block start length) c) over in
      (parts.0, ltb-true c.start (start + length) (or_only (nat_lt c.start (start + length)) parts.1))

  this_into : (c : Block) (length : ℕ) → overlaps c (fixed_block start length) ≡ true → (is_earlier c (fixed_block start length) ≡ true) × (start < c.start + c.size)
  this_into c length over =
      let parts = and_parts (is_earlier c (fixed_block start length)) (nat_lt start (c.start + c.size) || is_kept_out c (fixed_block start length)) over in
      (parts.0, ltb-true start (c.start + c.size) (or_last (nat_lt start (c.start + c.size)) c.is_displaced c.is_load_start parts.1))

  moves_later : (c : Block) (length : ℕ) → overlaps (fixed_block start length) c ≡ true → 0 < c.priority → later_moves (fixed_block start length) c ≡ true
  moves_later c length over can = and_from (overlaps (fixed_block start length) c) (nat_lt 0 c.priority) over (lt-ltb 0 c.priority can)

  moves_earlier : (c : Block) (length : ℕ) → overlaps c (fixed_block start length) ≡ true → 0 < c.priority → earlier_moves c (fixed_block start length) ≡ true
  moves_earlier c length over can = and_from (overlaps c (fixed_block start length) && nat_lt 0 c.priority) (nat_le 0 c.priority)
      (and_from (overlaps c (fixed_block start length)) (nat_lt 0 c.priority) over (lt-ltb 0 c.priority can)) (le-leb 0 c.priority (omega arith))

  -- a block that starts before the long one's end behind the short one's start meets the long one, if it can move
  meets_near : (c : Block) → is_earlier short c ≡ true → c.start < start + more → c.start < start + size ⊎ (start + size ≤ c.start) → 0 < c.priority
      → (later_moves long c ≡ true) ⊎ (earlier_moves c long ≡ true)
  meets_near c after near side can = elim (cases_Bool (is_earlier long c)) [
    | inl behind ↦ inl (moves_later c more (over_this c more behind near) can)
    | inr isnt ↦ elim (one_is_earlier c long) [
      | inl before ↦
          let at : c.start ≡ start = omega (arith, starts_no_later c long before, starts_no_later short c after) in
          let large : size ≤ c.size = sizes_no_less short c after (sym at) in
          inr (moves_earlier c more (into_this c more before (omega (arith, at, large, some))) can)
      | inr behind ↦ absurd (both_ways (is_earlier long c) isnt behind)
    ]
  ]

  meets_on : (c : Block) → (later_moves short c ≡ true) ⊎ (earlier_moves c short ≡ true) → (later_moves long c ≡ true) ⊎ (earlier_moves c long ≡ true)
  meets_on c (inl later) =
      let parts = and_parts (overlaps short c) (nat_lt 0 c.priority) later in
      let (after, near) = this_over c size parts.0 in
      meets_near c after (omega (arith, near, grows)) (inl near) (ltb-true 0 c.priority parts.1)
  meets_on c (inr earlier) =
      let parts = and_parts (overlaps c short && nat_lt 0 c.priority) (nat_le 0 c.priority) earlier in
      let front_parts = and_parts (overlaps c short) (nat_lt 0 c.priority) parts.0 in
      let (before, past) = this_into c size front_parts.0 in
      inr (moves_earlier c more (into_this c more (earlier_on c short long before short_first) past) (ltb-true 0 c.priority front_parts.1))

  between_parts : (c : Block) → is_between c ≡ true → (start + size ≤ c.start) × (c.start < start + more)
  between_parts c is = let parts = and_parts (nat_le (start + size) c.start) (nat_lt c.start (start + more)) is in (leb-true (start + size) c.start parts.0, ltb-true c.start (start + more) parts.1)

  -- a block behind the short one's start is the later one
  behind_short : (c : Block) → start < c.start → is_earlier short c ≡ true
  behind_short c past = elim (one_is_earlier short c) [
    | inl is ↦ is
    | inr back ↦ absurd (omega (arith, past, starts_no_later c short back))
  ]

  meets_between : (c : Block) → is_between c ≡ true → c.priority ≡ 2 → (later_moves long c ≡ true) ⊎ (earlier_moves c long ≡ true)
  meets_between c is two =
      let (past, near) = between_parts c is in
      meets_near c (behind_short c (omega (arith, past, some))) near (inr past) (omega (arith, two))

  -- ## Causes

  module _ (front back : List Block) where
    abbrev others : List Block
    others = front ++ back

    abbrev with_block : ℕ → List Block
    with_block length = front ++ fixed_block start length ∷ back

    abbrev causes : ℕ → Block → Block → Bool
    causes q a b = is_block_of q a && earlier_moves a b || is_block_of q b && later_moves a b

    -- the block is of the section, and meets the fixed one
    abbrev caused : ℕ → ℕ → Block → Bool
    caused q length c = causes q (fixed_block start length) c || causes q c (fixed_block start length)

    caused_from : (q length : ℕ) (c : Block) → is_block_of q c ≡ true → (later_moves (fixed_block start length) c ≡ true) ⊎ (earlier_moves c (fixed_block start length) ≡ true) → caused q length c ≡ true
    caused_from q length c own (inl later) = or_left (causes q (fixed_block start length) c) (causes q c (fixed_block start length)) (and_from (is_block_of q c) (later_moves (fixed_block start length) c) own later)
    caused_from q length c own (inr earlier) = or_right (causes q (fixed_block start length) c) (causes q c (fixed_block start length))
        (or_left (is_block_of q c && earlier_moves c (fixed_block start length)) false (and_from (is_block_of q c) (earlier_moves c (fixed_block start length)) own earlier))

    caused_parts : (q length : ℕ) (c : Block) → caused q length c ≡ true → (is_block_of q c ≡ true) × ((later_moves (fixed_block start length) c ≡ true) ⊎ (earlier_moves c (fixed_block start length) ≡ true))
    caused_parts q length c is = elim (or_cases (causes q (fixed_block start length) c) (causes q c (fixed_block start length)) is) [
      | inl later ↦ let parts = and_parts (is_block_of q c) (later_moves (fixed_block start length) c) later in (parts.0, inl parts.1)
      | inr earlier ↦
          let parts = and_parts (is_block_of q c) (earlier_moves c (fixed_block start length)) (or_only (is_block_of q c && earlier_moves c (fixed_block start length)) earlier) in
          (parts.0, inr parts.1)
    ]

    cause_with : (q length : ℕ) → has_cause (with_block length) q ≡ (list_any (caused q length) others || some_two (causes q) others)
    cause_with q length = some_two-with (causes q) front back (fixed_block start length)

    cause_from : (q length : ℕ) → (list_any (caused q length) others || some_two (causes q) others) ≡ true → has_cause (with_block length) q ≡ true
    cause_from q length is = cause_with q length ∙ is

    cause_on : (q : ℕ) → has_cause (with_block size) q ≡ true → has_cause (with_block more) q ≡ true
    cause_on q is = elim (or_cases (list_any (caused q size) others) (some_two (causes q) others) (sym (cause_with q size) ∙ is)) [
      | inl met ↦
          let (i, c, at, here) = any-at (caused q size) others met in
          let (own, meets) = caused_parts q size c here in
          cause_from q more (or_left (list_any (caused q more) others) (some_two (causes q) others) (any-from (caused q more) others i c at (caused_from q more c own (meets_on c meets))))
      | inr among ↦ cause_from q more (or_right (list_any (caused q more) others) (some_two (causes q) others) among)
    ]

    module _ (readily : Each (λ b. is_between b ≡ true → b.priority ≡ 2) others) where
      abbrev between_of : ℕ → Bool
      between_of q = list_any (λ b. is_block_of q b && is_between b) others

      cause_between : (q : ℕ) → between_of q ≡ true → has_cause (with_block more) q ≡ true
      cause_between q is =
          let (i, c, at, here) = any-at (λ b. is_block_of q b && is_between b) others is in
          let parts = and_parts (is_block_of q c) (is_between c) here in
          let two : c.priority ≡ 2 = each-at (λ b. is_between b ≡ true → b.priority ≡ 2) others readily i c at parts.1 in
          cause_from q more (or_left (list_any (caused q more) others) (some_two (causes q) others) (any-from (caused q more) others i c at (caused_from q more c parts.0 (meets_between c parts.1 two))))

      module _ (moved also : List ℕ) (all : (q : ℕ) → is_one_of also q ≡ (is_one_of moved q || between_of q)) where
        pub causes_on : have_causes (with_block size) moved ≡ true → have_causes (with_block more) also ≡ true
        causes_on caused_all = all_of (has_cause (with_block more)) also (λ q is. elim (or_cases (is_one_of moved q) (between_of q) (sym (all q) ∙ is)) [
          | inl before ↦ cause_on q (one_of (has_cause (with_block size)) moved q caused_all before)
          | inr between ↦ cause_between q between
        ])

        -- ## What stays

        abbrev both_stay : List ℕ → Block → Block → Bool
        both_stay ms a b = overlaps a b && not (is_block_of_some ms a) && not (is_block_of_some ms b)

        moves_also : (b : Block) → is_block_of_some moved b ≡ true → is_block_of_some also b ≡ true
        moves_also b is = more_sections moved also (λ q before. all q ∙ or_left (is_one_of moved q) (between_of q) before) b.section is

        stays_before : (b : Block) → not (is_block_of_some also b) ≡ true → not (is_block_of_some moved b) ≡ true
        stays_before b stays = not_from_false (is_block_of_some moved b) (false_from_ne_true (is_block_of_some moved b) (λ is.
            both_ways (is_block_of_some also b) (not-true (is_block_of_some also b) stays) (moves_also b is)))

        fewer_stay : (a b : Block) → both_stay also a b ≡ true → both_stay moved a b ≡ true
        fewer_stay a b is =
            let parts = and_parts (overlaps a b && not (is_block_of_some also a)) (not (is_block_of_some also b)) is in
            let front_parts = and_parts (overlaps a b) (not (is_block_of_some also a)) parts.0 in
            and_from (overlaps a b && not (is_block_of_some moved a)) (not (is_block_of_some moved b))
            (and_from (overlaps a b) (not (is_block_of_some moved a)) front_parts.0 (stays_before a front_parts.1)) (stays_before b parts.1)

        -- a block between is of a section that moves
        moves_between : Each (λ b. 0 < b.priority → IsSome b.section) others → Each (λ b. is_between b ≡ true → is_block_of_some also b ≡ true) others
        moves_between owned = each-from (λ b. is_between b ≡ true → is_block_of_some also b ≡ true) others (λ i b at is.
            let two : b.priority ≡ 2 = each-at (λ c. is_between c ≡ true → c.priority ≡ 2) others readily i b at is in
            by_section i b at is b.section refl (each-at (λ c. 0 < c.priority → IsSome c.section) others owned i b at (omega (arith, two))))
          where
            by_section : (i : ℕ) (b : Block) → slice_get others i ≡ Some b → is_between b ≡ true → (o : Option ℕ) → b.section ≡ o → IsSome b.section → is_block_of_some also b ≡ true
            by_section i b at is None e there = let no : false ≡ true = sym (ap (λ (o : Option ℕ). is_some o) e) ∙ there in absurd (false≢true no)
            by_section i b at is (Some q) e there =
                let own : is_block_of q b ≡ true = ap (λ (o : Option ℕ). is_some_and (λ p. p == q) o) e ∙ eq-eqb q q refl in
                ap (λ (o : Option ℕ). is_some_and (is_one_of also) o) e
                ∙ all q ∙ or_right (is_one_of moved q) (between_of q) (any-from (λ c. is_block_of q c && is_between c) others i b at (and_from (is_block_of q b) (is_between b) own is))

        -- of two one that stays is the fixed one
        abbrev stays_with : List ℕ → ℕ → Block → Bool
        stays_with ms length c = both_stay ms (fixed_block start length) c || both_stay ms c (fixed_block start length)

        stays_over : (c : Block) → overlaps short c ≡ true → not (is_block_of_some moved c) ≡ true → stays_with moved size c ≡ true
        stays_over c over stays = or_left (both_stay moved short c) (both_stay moved c short)
            (and_from (overlaps short c && true) (not (is_block_of_some moved c)) (and_from (overlaps short c) true over refl) stays)

        stays_into : (c : Block) → overlaps c short ≡ true → not (is_block_of_some moved c) ≡ true → stays_with moved size c ≡ true
        stays_into c over stays = or_right (both_stay moved short c) (both_stay moved c short)
            (and_from (overlaps c short && not (is_block_of_some moved c)) true (and_from (overlaps c short) (not (is_block_of_some moved c)) over stays) refl)

        none_long : (c : Block) → stays_with moved size c ≡ false → (is_between c ≡ true → is_block_of_some also c ≡ true) → stays_with also more c ≡ false
        none_long c none between = or_from (both_stay also long c) (both_stay also c long)
            (false_from_ne_true (both_stay also long c) (λ is.
            let parts = and_parts (overlaps long c && true) (not (is_block_of_some also c)) is in
            let (after, near) = this_over c more (and_parts (overlaps long c) true parts.0).0 in
            elim (cases_lt c.start (start + size)) [
              | inl before ↦ both_ways (stays_with moved size c) none (stays_over c (over_this c size (earlier_on short long c short_first after) before) (stays_before c parts.1))
              | inr past ↦ both_ways (is_block_of_some also c) (not-true (is_block_of_some also c) parts.1)
                  (between (and_from (nat_le (start + size) c.start) (nat_lt c.start (start + more)) (le-leb (start + size) c.start past) (lt-ltb c.start (start + more) near)))
            ]))
            (false_from_ne_true (both_stay also c long) (λ is.
            let parts = and_parts (overlaps c long && not (is_block_of_some also c)) true is in
            let front_parts = and_parts (overlaps c long) (not (is_block_of_some also c)) parts.0 in
            let (before, past) = this_into c more front_parts.0 in
            let stays = stays_before c front_parts.1 in
            elim (cases_Bool (is_earlier c short)) [
              | inl first ↦ both_ways (stays_with moved size c) none (stays_into c (into_this c size first past) stays)
              | inr later ↦ elim (one_is_earlier short c) [
                | inl after ↦ both_ways (stays_with moved size c) none (stays_over c (over_this c size after (omega (arith, starts_no_later c long before, some))) stays)
                | inr first ↦ both_ways (is_earlier c short) later first
              ]
            ]))

        pub apart_on : Each (λ b. 0 < b.priority → IsSome b.section) others → stay_apart moved (with_block size) ≡ true → stay_apart also (with_block more) ≡ true
        apart_on owned apart =
            let none : some_two (both_stay moved) (with_block size) ≡ false = not-true (some_two (both_stay moved) (with_block size)) apart in
            let parts = or_parts (list_any (stays_with moved size) others) (some_two (both_stay moved) others) (sym (some_two-with (both_stay moved) front back short) ∙ none) in
            not_from_false (some_two (both_stay also) (with_block more))
            (some_two-with (both_stay also) front back long
            ∙ or_from (list_any (stays_with also more) others) (some_two (both_stay also) others)
            (none-from (stays_with also more) others (each-more (λ c. (stays_with moved size c ≡ false) × (is_between c ≡ true → is_block_of_some also c ≡ true)) (λ c. stays_with also more c ≡ false) (λ c h. none_long c h.0 h.1) others
            (each-both (λ c. stays_with moved size c ≡ false) (λ c. is_between c ≡ true → is_block_of_some also c ≡ true) others (none-at (stays_with moved size) others parts.0) (moves_between owned))))
            (fails_less (both_stay moved) (both_stay also) fewer_stay others parts.1))
