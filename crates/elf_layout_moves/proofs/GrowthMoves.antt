-- Blocks with a fixed one that gets longer: which of them move, and that those that can't are still apart.
use Rattle.std.proofs.Common.{◌≡◌, ℕ, ◌+◌, ◌<◌, ◌≤◌, ◌⊎◌, List, [], ◌∷◌, ◌++◌, Bool, true, false, not, ◌&&◌, ◌||◌, refl, sym, ap, ◌∙◌, inl, inr, arith}
use Rattle.std.specs.Prelude.{Some, filter, nat_le, nat_lt, slice_get, ◌==◌}
use Rattle.std.specs.List.{list_any}
use Rattle.std.proofs.lemmas.Bool.{and_from, and_left, and_parts, and_right, both_ways, cases_Bool, cases_lt, eq-eqb, le-leb, lt-ltb, eqb-true, false_from_ne_true, false≢true, ltb-true, not_from_false, or_cases, or_from, or_left, or_parts, or_right}
use Rattle.std.proofs.lemmas.List.Elements.{filter-append}
use Rattle.std.proofs.lemmas.List.Folds.{list_any-append}
use Rattle.elf_layout_plan.specs.Blocks.{Block, earlier_moves, has_load, in_order, is_earlier, is_kept_out, is_stuck, is_stuck_pair, later_moves, movers, movers_in_order, moves_as_displaced, overlaps, put_in, rank, some_two}
use Rattle.elf_layout_plan.specs.Marks.{marked_of, marks}
use Rattle.elf_layout_plan.specs.Memory.{fixed_block}
use Rattle.elf_layout_plan.proofs.ForCallers.ApartLists.{Each, Pairs, each-at, each-both, each-filter, each-more, pairs-less, same_at}
use Rattle.elf_layout_plan.proofs.ForCallers.ThreeNumbers.{comes_from}
use Rattle.elf_layout_moves.proofs.GrowthLists.{any-in_order, any-parted, any-with, each-any_none, filter-with, filter-without, in_order-with, none-each, some_two-with}
use Rattle.elf_layout_moves.proofs.GrowthWalk.{Fits, does_earlier_move, does_later_move, grown_marks}
use Rattle.elf_layout_moves.proofs.OneOrder.{Rises, alike, earlier_on, in_order_each, in_order_rises, one_is_earlier, put_each, put_rises, starts_no_later}
use Rattle.elf_layout_moves.proofs.SameMarks.{same_marks}

-- ## Blocks of which none is kept out

-- a block isn't taken out as a displaced one, and marks the start of a loaded segment only where there is one
abbrev IsIn : Bool → Block → Type 0
IsIn loaded b = (moves_as_displaced loaded b ≡ false) × (b.is_load_start ≡ true → loaded ≡ true)

clear_of : (loaded : Bool) (a b : Block) → IsIn loaded a → IsIn loaded b → is_kept_out a b ≡ false
clear_of true a b here there =
    or_from (a.is_displaced && b.is_load_start) (a.is_load_start && b.is_displaced) (and_left a.is_displaced b.is_load_start here.0) (and_right a.is_load_start b.is_displaced there.0)
clear_of false a b here there =
    or_from (a.is_displaced && b.is_load_start) (a.is_load_start && b.is_displaced) (and_right a.is_displaced b.is_load_start (none b.is_load_start there.1)) (and_left a.is_load_start b.is_displaced (none a.is_load_start here.1))
  where
    none : (s : Bool) → (s ≡ true → false ≡ true) → s ≡ false
    none s started = false_from_ne_true s (λ is. false≢true (started is))

rises_pairs : (bs : List Block) → Rises bs → Pairs (λ a b. is_earlier a b ≡ true) bs
rises_pairs [] up = tt
rises_pairs (b ∷ bs) up = (up.0, rises_pairs bs up.1)

-- marks go by where blocks start and end alone
plain_marks : (loaded : Bool) (bs : List Block) → Rises bs → Each (IsIn loaded) bs → marks earlier_moves later_moves bs ≡ marks does_earlier_move does_later_move bs
plain_marks loaded bs up all = same_marks earlier_moves later_moves does_earlier_move does_later_move bs bs refl (λ i j a c b d less at_a at_c at_b at_d.
    let in_a = each-at (IsIn loaded) bs all i a at_a in
    let in_c = each-at (IsIn loaded) bs all j c at_c in
    let before = pairs-less (λ x y. is_earlier x y ≡ true) bs (rises_pairs bs up) i j a c less at_a at_c in
    let same : a ≡ b = the_same i a b at_a at_b in
    let also : c ≡ d = the_same j c d at_c at_d in
    let over : overlaps a c ≡ nat_lt d.start (b.start + b.size) = plain_overlaps a c before (clear_of loaded a c in_a in_c) ∙ ap (λ (x : Block). nat_lt c.start (x.start + x.size)) same ∙ ap (λ (x : Block). nat_lt x.start (b.start + b.size)) also in (
      ap (λ (o : Bool). o && nat_lt 0 a.priority && nat_le c.priority a.priority) over
          ∙ ap (λ (x : Block). nat_lt d.start (b.start + b.size) && nat_lt 0 x.priority && nat_le c.priority x.priority) same
          ∙ ap (λ (x : Block). nat_lt d.start (b.start + b.size) && nat_lt 0 b.priority && nat_le x.priority b.priority) also,
      ap (λ (o : Bool). o && nat_lt a.priority c.priority) over
          ∙ ap (λ (x : Block). nat_lt d.start (b.start + b.size) && nat_lt x.priority c.priority) same
          ∙ ap (λ (x : Block). nat_lt d.start (b.start + b.size) && nat_lt b.priority x.priority) also,
    ))
  where
    the_same : (i : ℕ) (x y : Block) → slice_get bs i ≡ Some x → slice_get bs i ≡ Some y → x ≡ y
    the_same i x y at_x at_y = same_at bs i x y at_x at_y

    plain_overlaps : (x y : Block) → is_earlier x y ≡ true → is_kept_out x y ≡ false → overlaps x y ≡ nat_lt y.start (x.start + x.size)
    plain_overlaps x y before clear =
        ap (λ (e : Bool). e && (nat_lt y.start (x.start + x.size) || is_kept_out x y)) before
        ∙ ap (λ (k : Bool). nat_lt y.start (x.start + x.size) || k) clear ∙ or_false (nat_lt y.start (x.start + x.size))
      where
        or_false : (b : Bool) → (b || false) ≡ b
        or_false true = refl
        or_false false = refl

-- ## One fixed block among others

module _ (front back : List Block) (fixed : Each (λ b. b ≡ fixed_block b.start b.size) front) where
  abbrev others : List Block
  others = front ++ back

  abbrev loaded : Bool
  loaded = has_load others

  abbrev is_out : Block → Bool
  is_out b = moves_as_displaced loaded b

  abbrev outs : List Block
  outs = filter (λ b. is_out b) others

  abbrev ins : List Block
  ins = filter (λ b. not (is_out b)) others

  abbrev with_block : Block → List Block
  with_block t = front ++ t ∷ back

  ins_in : Each (IsIn loaded) ins
  ins_in = each-more (λ b. (not (is_out b) ≡ true) × (b.is_load_start ≡ true → loaded ≡ true)) (IsIn loaded) (λ b h. (out_not (is_out b) h.0, h.1)) ins
      (each-filter (λ b. b.is_load_start ≡ true → loaded ≡ true) (λ b. not (is_out b)) others (starts_load others))
    where
      out_not : (o : Bool) → not o ≡ true → o ≡ false
      out_not true h = sym h
      out_not false h = refl

      starts_load : (bs : List Block) → Each (λ b. b.is_load_start ≡ true → has_load bs ≡ true) bs
      starts_load [] = tt
      starts_load (b ∷ bs) = (
        λ is. or_left b.is_load_start (has_load bs) is,
        each-more (λ c. c.is_load_start ≡ true → has_load bs ≡ true) (λ c. c.is_load_start ≡ true → has_load (b ∷ bs) ≡ true) (λ c h is. or_right b.is_load_start (has_load bs) (h is)) bs (starts_load bs),
      )

  module _ (start size : ℕ) where
    abbrev this : Block
    this = fixed_block start size

    this_in : is_out this ≡ false
    this_in = and_right loaded false refl

    told : (h : Block) → h ≡ fixed_block h.start h.size → is_earlier h this ≡ true → is_earlier this h ≡ true → h ≡ this
    told h is before after =
        let (at, as_large, ranks) = alike h this before after in
        is ∙ ap (λ (n : ℕ). fixed_block n h.size) at ∙ ap (λ (n : ℕ). fixed_block start n) as_large

    in_order_this : in_order (filter (λ b. not (is_out b)) (with_block this)) ≡ put_in this (in_order ins)
    in_order_this =
        let inside : Block → Bool = λ b. not (is_out b) in
        ap in_order (filter-with inside front back this (not_from_false (is_out this) this_in))
        ∙ in_order-with (filter inside front) (filter inside back) this
        (each-more (λ h. (inside h ≡ true) × (h ≡ fixed_block h.start h.size)) (λ h. is_earlier h this ≡ true → is_earlier this h ≡ true → h ≡ this) (λ h is. told h is.1) (filter inside front)
        (each-filter (λ h. h ≡ fixed_block h.start h.size) inside front fixed))
        ∙ ap (λ (l : List Block). put_in this (in_order l)) (sym (filter-append inside front back))

    marks_this : marks earlier_moves later_moves (put_in this (in_order ins)) ≡ marks does_earlier_move does_later_move (put_in this (in_order ins))
    marks_this = plain_marks loaded (put_in this (in_order ins)) (put_rises this (in_order ins) (in_order_rises ins))
        (put_each (IsIn loaded) this (in_order ins) (this_in, λ is. absurd (false≢true is)) (in_order_each (IsIn loaded) ins ins_in))

    -- what moves with the block: the displaced ones, and the marked ones of the others with it
    pub movers_with : (p : Block → Bool) → list_any p (movers (with_block this))
        ≡ (list_any p outs || list_any p (marked_of (put_in this (in_order ins)) (marks does_earlier_move does_later_move (put_in this (in_order ins)))))
    unfolding movers
    movers_with p =
        ap (λ (l : Bool). list_any p (filter (λ b. moves_as_displaced l b) (with_block this) ++ movers_in_order (in_order (filter (λ b. not (moves_as_displaced l b)) (with_block this)))))
        (any-with (λ b. b.is_load_start) front back this)
        ∙ list_any-append p (filter (λ b. is_out b) (with_block this)) (movers_in_order (in_order (filter (λ b. not (is_out b)) (with_block this))))
        ∙ ap (λ (l : List Block). list_any p l || list_any p (movers_in_order (in_order (filter (λ b. not (is_out b)) (with_block this))))) (filter-without (λ b. is_out b) front back this this_in)
        ∙ ap (λ (l : List Block). list_any p outs || list_any p (movers_in_order l)) in_order_this
        ∙ ap (λ (ms : List Bool). list_any p outs || list_any p (marked_of (put_in this (in_order ins)) ms)) marks_this

  -- ## Two sizes

  module _ (start size more : ℕ) (some : 0 < size) (grows : size ≤ more) (below : Each (λ b. b.priority ≤ 2) others)
      (free : is_stuck (with_block (fixed_block start size)) ≡ false) where
    abbrev short : Block
    short = fixed_block start size

    abbrev long : Block
    long = fixed_block start more

    abbrev pub is_between : Block → Bool
    is_between b = nat_le (start + size) b.start && nat_lt b.start (start + more)

    pub short_first : is_earlier short long ≡ true
    short_first = comes_from start size start more (nat_le (rank short) (rank long)) (inr (refl, by_size))
      where
        by_size : (size < more) ⊎ ((size ≡ more) × (nat_le (rank short) (rank long) ≡ true))
        by_size = elim (cases_lt size more) [ inl less ↦ inl less | inr same ↦ inr (omega arith, refl) ]

    -- nothing that can't move overlaps the short one
    unstuck : Each (λ b. (is_stuck_pair short b || is_stuck_pair b short) ≡ false) others
    unstuck = each-any_none (λ b. is_stuck_pair short b || is_stuck_pair b short) others
        (or_parts (list_any (λ b. is_stuck_pair short b || is_stuck_pair b short) others) (some_two is_stuck_pair others) (sym (some_two-with is_stuck_pair front back short) ∙ free)).0

    can_near : (b : Block) → (is_stuck_pair short b || is_stuck_pair b short) ≡ false → is_earlier short b ≡ true → b.start < start + size → 0 < b.priority
    can_near b none after near = elim (cases_lt 0 b.priority) [
      | inl can ↦ can
      | inr cant ↦
          let over : overlaps short b ≡ true = and_from (is_earlier short b) (nat_lt b.start (start + size) || is_kept_out short b) after
          (or_left (nat_lt b.start (start + size)) (is_kept_out short b) (lt-ltb b.start (start + size) near)) in
          let stuck : is_stuck_pair short b ≡ true = and_from (overlaps short b && true) (b.priority == 0) (and_from (overlaps short b) true over refl) (eq-eqb b.priority 0 (omega arith)) in
          absurd (both_ways (is_stuck_pair short b) (or_parts (is_stuck_pair short b) (is_stuck_pair b short) none).0 stuck)
    ]

    module _ (readily : Each (λ b. is_between b ≡ true → b.priority ≡ 2) others) where
      module _ (p : Block → Bool) (short_fails : p short ≡ false) (long_fails : p long ≡ false) where
        fits : Each (Fits p short long refl some grows short_first refl refl short_fails long_fails) others
        fits =
            each-more (λ b. (b.priority ≤ 2) × (((is_stuck_pair short b || is_stuck_pair b short) ≡ false) × (is_between b ≡ true → b.priority ≡ 2)))
            (Fits p short long refl some grows short_first refl refl short_fails long_fails)
            (λ b h. record { below = h.0; near = can_near b h.1.0; far = h.1.1 }) others
            (each-both (λ b. b.priority ≤ 2) (λ b. ((is_stuck_pair short b || is_stuck_pair b short) ≡ false) × (is_between b ≡ true → b.priority ≡ 2)) others below
            (each-both (λ b. (is_stuck_pair short b || is_stuck_pair b short) ≡ false) (λ b. is_between b ≡ true → b.priority ≡ 2) others unstuck readily))

        fits_in : Each (Fits p short long refl some grows short_first refl refl short_fails long_fails) (in_order ins)
        fits_in =
            let F : Block → Type 0 = Fits p short long refl some grows short_first refl refl short_fails long_fails in
            in_order_each F ins (each-more (λ b. (not (is_out b) ≡ true) × F b) F (λ b h. h.1) ins (each-filter F (λ b. not (is_out b)) others fits))

        -- what passes the test and moves with the long one does so with the short one, or starts in between
        pub movers_grow : list_any p (movers (with_block long)) ≡ (list_any p (movers (with_block short)) || list_any (λ b. p b && is_between b) others)
        movers_grow =
            let q : Block → Bool = λ b. p b && is_between b in
            movers_with start more p
            ∙ ap (λ (t : Bool). list_any p outs || t) (grown_marks p short long refl some grows short_first refl refl short_fails long_fails (in_order ins) (in_order_rises ins) fits_in)
            ∙ ap (λ (t : Bool). list_any p outs || (list_any p (marked_of (put_in short (in_order ins)) (marks does_earlier_move does_later_move (put_in short (in_order ins)))) || t)) (any-in_order q ins)
            ∙ all_of (list_any p outs) (list_any p (marked_of (put_in short (in_order ins)) (marks does_earlier_move does_later_move (put_in short (in_order ins))))) (list_any q ins) (list_any q outs) (fewer outs)
            ∙ ap (λ (t : Bool). (list_any p outs || list_any p (marked_of (put_in short (in_order ins)) (marks does_earlier_move does_later_move (put_in short (in_order ins))))) || t) (sym (any-parted q (λ b. is_out b) others))
            ∙ ap (λ (t : Bool). t || list_any q others) (sym (movers_with start size p))
          where
            all_of : (o m i x : Bool) → (x ≡ true → o ≡ true) → (o || (m || i)) ≡ ((o || m) || (x || i))
            all_of true m i x is = refl
            all_of false m i true is = absurd (false≢true (is refl))
            all_of false m i false is = refl

            fewer : (bs : List Block) → list_any (λ b. p b && is_between b) bs ≡ true → list_any p bs ≡ true
            fewer [] is = is
            fewer (b ∷ bs) is = elim (or_cases (p b && is_between b) (list_any (λ b. p b && is_between b) bs) is) [
              | inl here ↦ or_left (p b) (list_any p bs) (and_parts (p b) (is_between b) here).0
              | inr there ↦ or_right (p b) (list_any p bs) (fewer bs there)
            ]

      -- nothing that can't move overlaps the long one
      unstuck_long : (b : Block) → (is_stuck_pair short b || is_stuck_pair b short) ≡ false → (is_between b ≡ true → b.priority ≡ 2) → (is_stuck_pair long b || is_stuck_pair b long) ≡ false
      unstuck_long b none two = or_from (is_stuck_pair long b) (is_stuck_pair b long)
          (false_from_ne_true (is_stuck_pair long b) (λ is.
          let parts = and_parts (overlaps long b && true) (b.priority == 0) is in
          let cant : b.priority ≡ 0 = eqb-true b.priority 0 parts.1 in
          let over = and_parts (is_earlier long b) (nat_lt b.start (start + more) || is_kept_out long b) (and_parts (overlaps long b) true parts.0).0 in
          let near : b.start < start + more = ltb-true b.start (start + more) (or_only (nat_lt b.start (start + more)) over.1) in
          elim (cases_lt b.start (start + size)) [
            | inl before ↦ omega (arith, cant, can_near b none (earlier_on short long b short_first over.0) before)
            | inr past ↦
                let is_two = two (and_from (nat_le (start + size) b.start) (nat_lt b.start (start + more)) (le-leb (start + size) b.start past) (lt-ltb b.start (start + more) near)) in
                omega (arith, is_two, cant)
          ]))
          (false_from_ne_true (is_stuck_pair b long) (λ is.
          let parts = and_parts (overlaps b long && b.priority == 0) true is in
          let front_parts = and_parts (overlaps b long) (b.priority == 0) parts.0 in
          let cant : b.priority ≡ 0 = eqb-true b.priority 0 front_parts.1 in
          let over = and_parts (is_earlier b long) (nat_lt start (b.start + b.size) || is_kept_out b long) front_parts.0 in
          let past : start < b.start + b.size = ltb-true start (b.start + b.size) (or_last (nat_lt start (b.start + b.size)) b.is_displaced b.is_load_start over.1) in
          elim (cases_Bool (is_earlier b short)) [
            | inl first ↦
                let stuck : is_stuck_pair b short ≡ true = and_from (overlaps b short && b.priority == 0) true (and_from (overlaps b short) (b.priority == 0)
                (and_from (is_earlier b short) (nat_lt start (b.start + b.size) || is_kept_out b short) first (or_left (nat_lt start (b.start + b.size)) (is_kept_out b short) (lt-ltb start (b.start + b.size) past))) front_parts.1) refl in
                both_ways (is_stuck_pair b short) (or_parts (is_stuck_pair short b) (is_stuck_pair b short) none).1 stuck
            | inr later ↦ elim (one_is_earlier short b) [
              | inl after ↦ omega (arith, cant, can_near b none after (omega (arith, starts_no_later b long over.0, some)))
              | inr first ↦ both_ways (is_earlier b short) later first
            ]
          ]))
        where
          or_only : (x : Bool) → (x || false) ≡ true → x ≡ true
          or_only true h = refl
          or_only false h = h

          or_last : (x y z : Bool) → (x || (y && false || z && false)) ≡ true → x ≡ true
          or_last true y z h = refl
          or_last false true true h = h
          or_last false true false h = h
          or_last false false true h = h
          or_last false false false h = h

      pub still_free : is_stuck (with_block long) ≡ false
      still_free = some_two-with is_stuck_pair front back long
          ∙ or_from (list_any (λ b. is_stuck_pair long b || is_stuck_pair b long) others) (some_two is_stuck_pair others)
          (none-each (λ b. is_stuck_pair long b || is_stuck_pair b long) others
          (each-more (λ b. ((is_stuck_pair short b || is_stuck_pair b short) ≡ false) × (is_between b ≡ true → b.priority ≡ 2)) (λ b. (is_stuck_pair long b || is_stuck_pair b long) ≡ false) (λ b h. unstuck_long b h.0 h.1) others
          (each-both (λ b. (is_stuck_pair short b || is_stuck_pair b short) ≡ false) (λ b. is_between b ≡ true → b.priority ≡ 2) others unstuck readily)))
          (or_parts (list_any (λ b. is_stuck_pair short b || is_stuck_pair b short) others) (some_two is_stuck_pair others) (sym (some_two-with is_stuck_pair front back short) ∙ free)).1
