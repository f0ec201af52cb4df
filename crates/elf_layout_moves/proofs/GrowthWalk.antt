-- A fixed block that grows, among blocks in their order: the blocks that move are those before and those that it swallows.
use Rattle.std.proofs.Common.{◌≡◌, ℕ, ◌+◌, ◌<◌, ◌≤◌, List, [], ◌∷◌, Bool, true, false, ◌&&◌, ◌||◌, refl, sym, ap, ◌∙◌, inl, inr, arith}
use Rattle.std.specs.Prelude.{nat_le, nat_lt, if◌then◌else◌}
use Rattle.std.specs.List.{list_any}
use Rattle.std.proofs.lemmas.Bool.{and_left, and_right, and_from, both_ways, cases_Bool, cases_lt, le-leb, le-ltb, lt-leb, lt-ltb}
use Rattle.elf_layout_plan.specs.Blocks.{Block, is_earlier, put_in}
use Rattle.elf_layout_plan.specs.Marks.{all_marks, marked_of, marks, marks_behind, past_last, past_mover}
use Rattle.elf_layout_plan.proofs.ForCallers.ApartLists.{Each, each-more}
use Rattle.elf_layout_moves.proofs.OneOrder.{Rises, earlier_on, one_is_earlier, put_here, put_on, sizes_no_less, starts_no_later}

-- ## Two blocks in their order, of which none is kept out

abbrev pub does_earlier_move : Block → Block → Bool
does_earlier_move a b = nat_lt b.start (a.start + a.size) && nat_lt 0 a.priority && nat_le b.priority a.priority

abbrev pub does_later_move : Block → Block → Bool
does_later_move a b = nat_lt b.start (a.start + a.size) && nat_lt a.priority b.priority

later_moves_there : (a b : Block) → b.start < a.start + a.size → a.priority < b.priority → does_later_move a b ≡ true
later_moves_there a b past more = and_from (nat_lt b.start (a.start + a.size)) (nat_lt a.priority b.priority) (lt-ltb b.start (a.start + a.size) past) (lt-ltb a.priority b.priority more)

not_later_apart : (a b : Block) → a.start + a.size ≤ b.start → does_later_move a b ≡ false
not_later_apart a b apart = and_left (nat_lt b.start (a.start + a.size)) (nat_lt a.priority b.priority) (le-ltb b.start (a.start + a.size) apart)

not_later_readily : (a b : Block) → b.priority ≤ a.priority → does_later_move a b ≡ false
not_later_readily a b no_more = and_right (nat_lt b.start (a.start + a.size)) (nat_lt a.priority b.priority) (le-ltb a.priority b.priority no_more)

-- a block that doesn't give way to a second one meets it as it meets a fixed one that starts with it
meets_alike : (l b t : Block) → b.start ≡ t.start → t.priority ≡ 0 → 0 < b.priority → does_later_move l b ≡ false → does_earlier_move l b ≡ does_earlier_move l t
meets_alike l b t start fixed can isnt = elim (cases_lt b.start (l.start + l.size)) [
  | inr apart ↦
      and_left (nat_lt b.start (l.start + l.size) && nat_lt 0 l.priority) (nat_le b.priority l.priority) (and_left (nat_lt b.start (l.start + l.size)) (nat_lt 0 l.priority) (le-ltb b.start (l.start + l.size) apart))
      ∙ sym (and_left (nat_lt t.start (l.start + l.size) && nat_lt 0 l.priority) (nat_le t.priority l.priority) (and_left (nat_lt t.start (l.start + l.size)) (nat_lt 0 l.priority) (le-ltb t.start (l.start + l.size) (omega (arith, apart, start)))))
  | inl past ↦
      let readily : b.priority ≤ l.priority = elim (cases_lt l.priority b.priority) [
        | inl more ↦ absurd (both_ways (does_later_move l b) isnt (later_moves_there l b past more))
        | inr no_more ↦ no_more
      ] in
      moves_there l b past (omega (arith, can, readily)) readily ∙ sym (moves_there l t (omega (arith, past, start)) (omega (arith, can, readily)) (omega (arith, fixed)))
]
  where
    moves_there : (x y : Block) → y.start < x.start + x.size → 0 < x.priority → y.priority ≤ x.priority → does_earlier_move x y ≡ true
    moves_there x y past can readily =
        and_from (nat_lt y.start (x.start + x.size) && nat_lt 0 x.priority) (nat_le y.priority x.priority)
        (and_from (nat_lt y.start (x.start + x.size)) (nat_lt 0 x.priority) (lt-ltb y.start (x.start + x.size) past) (lt-ltb 0 x.priority can)) (le-leb y.priority x.priority readily)

-- ## Tests

either_way : (a b c : Bool) → (a || (b || c)) ≡ (b || (a || c))
either_way true true c = refl
either_way true false c = refl
either_way false b c = refl

or_on : (p a b g s : Bool) → a ≡ (b || g) → (p || a) ≡ ((p || b) || ((p && s) || g))
or_on true a b g s is = refl
or_on false a b g s is = is

or_past : (x a b g : Bool) → a ≡ (b || g) → (x || a) ≡ ((x || b) || g)
or_past true a b g is = refl
or_past false a b g is = is

or_gave_way : (p a b g : Bool) → (p || a) ≡ (p || (b || g)) → (p || a) ≡ (b || ((p && true) || g))
or_gave_way true a true g is = refl
or_gave_way true a false g is = refl
or_gave_way false a b g is = is

or_gave_on : (q e p a b g : Bool) → (p || a) ≡ (p || (b || g)) → (q || (p || a)) ≡ (q || (((q && e) || b) || ((p && true) || g)))
or_gave_on true e p a b g is = refl
or_gave_on false e p a b g is = or_gave_way p a b g is

or_gave_up : (q e b g : Bool) → g ≡ false → (q || b) ≡ (q || (((q && e) || b) || g))
or_gave_up true e b g none = refl
or_gave_up false e true g none = refl
or_gave_up false e false g none = sym none

or_overtaken : (p x b g s : Bool) → (p || ((x || b) || g)) ≡ ((x || (p || b)) || ((p && s) || g))
or_overtaken true true b g s = refl
or_overtaken true false b g s = refl
or_overtaken false x b g s = refl

or_overtook : (x p b g s : Bool) → (x || (((p && true) || b) || g)) ≡ ((x || (p || b)) || ((p && s) || g))
or_overtook true p b g s = refl
or_overtook false true b g s = refl
or_overtook false false b g s = refl

or_none : (b g : Bool) → g ≡ false → b ≡ (b || g)
or_none true g none = refl
or_none false g none = sym none

-- ## A block that passes a test is marked

module _ (p : Block → Bool) where
  -- the first block or one behind it
  abbrev pub is_some_marked : Block → List Block → Bool
  is_some_marked last bs = list_any p (marked_of (last ∷ bs) (all_marks (marks_behind does_earlier_move does_later_move last bs)))

  none_behind : (last : Block) → is_some_marked last [] ≡ false
  unfolding marks_behind
  none_behind last = refl

  own_mark : (last b : Block) (rest : List Block) (own : Bool) → list_any p (if own then last ∷ b ∷ rest else b ∷ rest) ≡ (p b || list_any p (if own then last ∷ rest else rest))
  own_mark last b rest true = either_way (p last) (p b) (list_any p rest)
  own_mark last b rest false = refl

  last_mark : (last : Block) (rest : List Block) (own : Bool) → list_any p (if own then last ∷ rest else rest) ≡ ((p last && own) || list_any p rest)
  last_mark last rest true = by_test (p last)
    where
      by_test : (q : Bool) → (q || list_any p rest) ≡ ((q && true) || list_any p rest)
      by_test true = refl
      by_test false = refl
  last_mark last rest false = by_test (p last)
    where
      by_test : (q : Bool) → list_any p rest ≡ ((q && false) || list_any p rest)
      by_test true = refl
      by_test false = refl

  -- the next block moves
  some_over : (last b : Block) (bs : List Block) → does_later_move last b ≡ true → is_some_marked last (b ∷ bs) ≡ (p b || is_some_marked last bs)
  unfolding marks_behind
  some_over last b bs is =
      let behind : Bool × List Bool = marks_behind does_earlier_move does_later_move last bs in
      let on : Bool × List Bool = past_last (does_earlier_move last b) (marks_behind does_earlier_move does_later_move b bs) in
      ap (λ (t : Bool). list_any p (marked_of (last ∷ b ∷ bs) (all_marks (if t then past_mover behind else on)))) is
      ∙ own_mark last b (marked_of bs behind.1) behind.0

  -- the next block stays so far
  some_on : (last b : Block) (bs : List Block) → does_later_move last b ≡ false → is_some_marked last (b ∷ bs) ≡ ((p last && does_earlier_move last b) || is_some_marked b bs)
  unfolding marks_behind
  some_on last b bs isnt =
      let over : Bool × List Bool = past_mover (marks_behind does_earlier_move does_later_move last bs) in
      let behind : Bool × List Bool = marks_behind does_earlier_move does_later_move b bs in
      ap (λ (t : Bool). list_any p (marked_of (last ∷ b ∷ bs) (all_marks (if t then over else past_last (does_earlier_move last b) behind)))) isnt
      ∙ last_mark last (marked_of (b ∷ bs) (all_marks behind)) (does_earlier_move last b)

  -- ## A fixed block with two sizes

  module _ (short long : Block) (start : long.start ≡ short.start) (some : 0 < short.size) (grows : short.size ≤ long.size) (earlier : is_earlier short long ≡ true)
      (short_fixed : short.priority ≡ 0) (long_fixed : long.priority ≡ 0) (short_fails : p short ≡ false) (long_fails : p long ≡ false) where
    -- a block starts where the short one ends or behind, and before the long one does
    abbrev pub is_between : Block → Bool
    is_between b = nat_le (short.start + short.size) b.start && nat_lt b.start (long.start + long.size)

    abbrev pub is_some_between : List Block → Bool
    is_some_between bs = list_any (λ b. p b && is_between b) bs

    -- What is known of each block: neither of the two is stuck with it.
    pub record Fits (b : Block) : Type 0 where
      pub below : b.priority ≤ 2
      pub near : is_earlier short b ≡ true → b.start < short.start + short.size → 0 < b.priority
      pub far : is_between b ≡ true → b.priority ≡ 2

    abbrev Behind : Block → Type 0
    Behind b = is_earlier short b ≡ true

    before_long : (b : Block) → b.start < short.start + short.size → is_between b ≡ false
    before_long b near = and_left (nat_le (short.start + short.size) b.start) (nat_lt b.start (long.start + long.size)) (lt-leb (short.start + short.size) b.start near)

    none_beyond : (bs : List Block) → Each (λ b. long.start + long.size ≤ b.start) bs → is_some_between bs ≡ false
    none_beyond [] all = refl
    none_beyond (b ∷ bs) all =
        let none : (p b && is_between b) ≡ false = and_right (p b) (is_between b) (and_right (nat_le (short.start + short.size) b.start) (nat_lt b.start (long.start + long.size)) (le-ltb b.start (long.start + long.size) all.0)) in
        ap (λ (t : Bool). t || is_some_between bs) none ∙ none_beyond bs all.1

    none_behind_one : (b : Block) (bs : List Block) → Rises (b ∷ bs) → long.start + long.size ≤ b.start → is_some_between (b ∷ bs) ≡ false
    none_behind_one b bs up past =
        none_beyond (b ∷ bs) (past, each-more (λ c. is_earlier b c ≡ true) (λ c. long.start + long.size ≤ c.start) (λ c after. omega (arith, past, starts_no_later b c after)) bs up.0)

    -- a block that neither gives way to counts for neither
    fixed_mark : (t b : Block) (bs : List Block) → p t ≡ false → does_later_move t b ≡ false → is_some_marked t (b ∷ bs) ≡ is_some_marked b bs
    fixed_mark t b bs fails isnt = some_on t b bs isnt ∙ ap (λ (q : Bool). (q && does_earlier_move t b) || is_some_marked b bs) fails

    -- what the short one gave way to has moved against the long one, and so has all up to its end
    gave_way : (z : Block) (bs : List Block) → z.priority ≡ 2 → short.start + short.size ≤ z.start → Rises (z ∷ bs) → Each Fits bs
        → (p z || is_some_marked long bs) ≡ (p z || (is_some_marked z bs || is_some_between bs))
    gave_way z [] two past up fits = ap (λ (t : Bool). p z || t) (none_behind long ∙ sym (ap (λ (t : Bool). t || false) (none_behind z)))
    gave_way z (b ∷ bs) two past up (fit, fits) =
        let after : z.start ≤ b.start = starts_no_later z b up.0.0 in
        let on = some_on z b bs (not_later_readily z b (omega (arith, two, fit.below))) in
        elim (cases_lt b.start (long.start + long.size)) [
          | inl inside ↦
              let between : is_between b ≡ true =
              and_from (nat_le (short.start + short.size) b.start) (nat_lt b.start (long.start + long.size)) (le-leb (short.start + short.size) b.start (omega (arith, past, after))) (lt-ltb b.start (long.start + long.size) inside) in
              let b_two : b.priority ≡ 2 = fit.far between in
              let over = some_over long b bs (later_moves_there long b inside (omega (arith, b_two, long_fixed))) in
              let rest = gave_way b bs b_two (omega (arith, past, after)) up.1 fits in
              ap (λ (t : Bool). p z || t) over
              ∙ or_gave_on (p z) (does_earlier_move z b) (p b) (is_some_marked long bs) (is_some_marked b bs) (is_some_between bs) rest
              ∙ ap (λ (t : Bool). p z || (((p z && does_earlier_move z b) || is_some_marked b bs) || ((p b && t) || is_some_between bs))) (sym between)
              ∙ ap (λ (t : Bool). p z || (t || is_some_between (b ∷ bs))) (sym on)
          | inr beyond ↦
              ap (λ (t : Bool). p z || t) (fixed_mark long b bs long_fails (not_later_apart long b beyond))
              ∙ or_gave_up (p z) (does_earlier_move z b) (is_some_marked b bs) (is_some_between (b ∷ bs)) (none_behind_one b bs up.1 beyond)
              ∙ ap (λ (t : Bool). p z || (t || is_some_between (b ∷ bs))) (sym on)
        ]

    -- behind the block
    grown : (bs : List Block) → Rises bs → Each Behind bs → Each Fits bs → is_some_marked long bs ≡ (is_some_marked short bs || is_some_between bs)
    grown [] up behind fits = none_behind long ∙ sym (ap (λ (t : Bool). t || false) (none_behind short))
    grown (b ∷ bs) up (after, behind) (fit, fits) = elim (cases_lt b.start (short.start + short.size)) [
      | inl near ↦
          let can : 0 < b.priority = fit.near after near in
          let over = some_over long b bs (later_moves_there long b (omega (arith, near, start, grows)) (omega (arith, can, long_fixed))) in
          let also = some_over short b bs (later_moves_there short b near (omega (arith, can, short_fixed))) in
          over ∙ or_on (p b) (is_some_marked long bs) (is_some_marked short bs) (is_some_between bs) (is_between b) (grown bs up.1 behind fits)
          ∙ ap (λ (t : Bool). t || is_some_between (b ∷ bs)) (sym also)
      | inr past ↦
          let on = fixed_mark short b bs short_fails (not_later_apart short b past) in
          elim (cases_lt b.start (long.start + long.size)) [
            | inl inside ↦
                let between : is_between b ≡ true =
                and_from (nat_le (short.start + short.size) b.start) (nat_lt b.start (long.start + long.size)) (le-leb (short.start + short.size) b.start past) (lt-ltb b.start (long.start + long.size) inside) in
                let two : b.priority ≡ 2 = fit.far between in
                some_over long b bs (later_moves_there long b inside (omega (arith, two, long_fixed)))
                ∙ or_gave_way (p b) (is_some_marked long bs) (is_some_marked b bs) (is_some_between bs) (gave_way b bs two past up fits)
                ∙ ap (λ (t : Bool). is_some_marked b bs || ((p b && t) || is_some_between bs)) (sym between)
                ∙ ap (λ (t : Bool). t || is_some_between (b ∷ bs)) (sym on)
            | inr beyond ↦
                fixed_mark long b bs long_fails (not_later_apart long b beyond)
                ∙ or_none (is_some_marked b bs) (is_some_between (b ∷ bs)) (none_behind_one b bs up beyond)
                ∙ ap (λ (t : Bool). t || is_some_between (b ∷ bs)) (sym on)
          ]
    ]

    meets_both : (l : Block) → does_earlier_move l long ≡ does_earlier_move l short
    meets_both l = ap (λ (n : ℕ). nat_lt n (l.start + l.size) && nat_lt 0 l.priority && nat_le long.priority l.priority) start
        ∙ ap (λ (n : ℕ). nat_lt short.start (l.start + l.size) && nat_lt 0 l.priority && nat_le n l.priority) (long_fixed ∙ sym short_fixed)

    -- a block meets the long one, behind those that the short one stood before
    overtaken : (l : Block) (bs : List Block) → Rises bs → Each Behind bs → Each Fits bs
        → is_some_marked l (put_in long bs) ≡ (((p l && does_earlier_move l short) || is_some_marked short bs) || is_some_between bs)
    unfolding put_in
    overtaken l [] up behind fits =
        some_on l long [] (not_later_readily l long (omega (arith, long_fixed)))
        ∙ ap (λ (t : Bool). (p l && t) || is_some_marked long []) (meets_both l)
        ∙ or_past (p l && does_earlier_move l short) (is_some_marked long []) (is_some_marked short []) false (grown [] tt tt tt)
    overtaken l (b ∷ bs) up (after, behind) (fit, fits) = elim (cases_Bool (is_earlier long b)) [
      | inl first ↦
          ap (is_some_marked l) (put_here long b bs first)
          ∙ some_on l long (b ∷ bs) (not_later_readily l long (omega (arith, long_fixed)))
          ∙ ap (λ (t : Bool). (p l && t) || is_some_marked long (b ∷ bs)) (meets_both l)
          ∙ or_past (p l && does_earlier_move l short) (is_some_marked long (b ∷ bs)) (is_some_marked short (b ∷ bs)) (is_some_between (b ∷ bs)) (grown (b ∷ bs) up (after, behind) (fit, fits))
      | inr later ↦
          let at_start : b.start ≡ short.start = starts_with b later after in
          let size : short.size ≤ b.size = no_smaller b at_start after in
          let near : b.start < short.start + short.size = omega (arith, at_start, some) in
          let can : 0 < b.priority = fit.near after near in
          let also = some_over short b bs (later_moves_there short b near (omega (arith, can, short_fixed))) in
          let e : Bool = does_earlier_move l short in
          elim (cases_Bool (does_later_move l b)) [
            | inl moves ↦
                ap (is_some_marked l) (put_on long b bs later)
                ∙ some_over l b (put_in long bs) moves
                ∙ ap (λ (t : Bool). p b || t) (overtaken l bs up.1 behind fits)
                ∙ or_overtaken (p b) (p l && e) (is_some_marked short bs) (is_some_between bs) (is_between b)
                ∙ ap (λ (t : Bool). ((p l && e) || t) || is_some_between (b ∷ bs)) (sym also)
            | inr stays ↦
                let own : does_earlier_move b short ≡ true = moved_there b at_start size can in
                ap (is_some_marked l) (put_on long b bs later)
                ∙ some_on l b (put_in long bs) stays
                ∙ ap (λ (t : Bool). (p l && t) || is_some_marked b (put_in long bs)) (meets_alike l b short at_start short_fixed can stays)
                ∙ ap (λ (t : Bool). (p l && e) || t) (overtaken b bs up.1 behind fits)
                ∙ ap (λ (t : Bool). (p l && e) || (((p b && t) || is_some_marked short bs) || is_some_between bs)) own
                ∙ or_overtook (p l && e) (p b) (is_some_marked short bs) (is_some_between bs) (is_between b)
                ∙ ap (λ (t : Bool). ((p l && e) || t) || is_some_between (b ∷ bs)) (sym also)
          ]
    ]
      where
        starts_with : (c : Block) → is_earlier long c ≡ false → is_earlier short c ≡ true → c.start ≡ short.start
        starts_with c later after = elim (one_is_earlier c long) [
          | inl before ↦ omega (arith, starts_no_later c long before, starts_no_later short c after, start)
          | inr first ↦ absurd (both_ways (is_earlier long c) later first)
        ]

        no_smaller : (c : Block) → c.start ≡ short.start → is_earlier short c ≡ true → short.size ≤ c.size
        no_smaller c same after = sizes_no_less short c after (sym same)

        moved_there : (c : Block) → c.start ≡ short.start → short.size ≤ c.size → 0 < c.priority → does_earlier_move c short ≡ true
        moved_there c same size can =
            and_from (nat_lt short.start (c.start + c.size) && nat_lt 0 c.priority) (nat_le short.priority c.priority)
            (and_from (nat_lt short.start (c.start + c.size)) (nat_lt 0 c.priority) (lt-ltb short.start (c.start + c.size) (omega (arith, same, size, some))) (lt-ltb 0 c.priority can))
            (le-leb short.priority c.priority (omega (arith, short_fixed)))

    -- behind a block, with the fixed one put among those that follow
    grown_behind : (l : Block) (bs : List Block) → Rises bs → Each Fits bs
        → is_some_marked l (put_in long bs) ≡ (is_some_marked l (put_in short bs) || is_some_between bs)
    unfolding put_in
    grown_behind l [] up fits =
        overtaken l [] tt tt tt
        ∙ ap (λ (t : Bool). t || false) (sym (some_on l short [] (not_later_readily l short (omega (arith, short_fixed)))))
    grown_behind l (b ∷ bs) up (fit, fits) = elim (cases_Bool (is_earlier short b)) [
      | inl first ↦
          overtaken l (b ∷ bs) up (first, each-more (λ c. is_earlier b c ≡ true) Behind (λ c after. earlier_on short b c first after) bs up.0) (fit, fits)
          ∙ ap (λ (t : Bool). t || is_some_between (b ∷ bs)) (sym (ap (is_some_marked l) (put_here short b bs first) ∙ some_on l short (b ∷ bs) (not_later_readily l short (omega (arith, short_fixed)))))
      | inr later ↦
          let also : is_earlier long b ≡ false = not_first b later in
          elim (cases_Bool (does_later_move l b)) [
            | inl moves ↦
                ap (is_some_marked l) (put_on long b bs also)
                ∙ some_over l b (put_in long bs) moves
                ∙ or_on (p b) (is_some_marked l (put_in long bs)) (is_some_marked l (put_in short bs)) (is_some_between bs) (is_between b) (grown_behind l bs up.1 fits)
                ∙ ap (λ (t : Bool). t || is_some_between (b ∷ bs)) (sym (ap (is_some_marked l) (put_on short b bs later) ∙ some_over l b (put_in short bs) moves))
            | inr stays ↦
                let e : Bool = does_earlier_move l b in
                let none : (p b && is_between b) ≡ false = and_right (p b) (is_between b) (before_long b (starts_before b later)) in
                ap (is_some_marked l) (put_on long b bs also)
                ∙ some_on l b (put_in long bs) stays
                ∙ or_past (p l && e) (is_some_marked b (put_in long bs)) (is_some_marked b (put_in short bs)) (is_some_between bs) (grown_behind b bs up.1 fits)
                ∙ ap (λ (t : Bool). ((p l && e) || is_some_marked b (put_in short bs)) || (t || is_some_between bs)) (sym none)
                ∙ ap (λ (t : Bool). t || is_some_between (b ∷ bs)) (sym (ap (is_some_marked l) (put_on short b bs later) ∙ some_on l b (put_in short bs) stays))
          ]
    ]
      where
        not_first : (c : Block) → is_earlier short c ≡ false → is_earlier long c ≡ false
        not_first c later = elim (cases_Bool (is_earlier long c)) [
          | inl first ↦ absurd (both_ways (is_earlier short c) later (earlier_on short long c earlier first))
          | inr isnt ↦ isnt
        ]

        starts_before : (c : Block) → is_earlier short c ≡ false → c.start < short.start + short.size
        starts_before c later = elim (one_is_earlier c short) [
          | inl before ↦ omega (arith, starts_no_later c short before, some)
          | inr first ↦ absurd (both_ways (is_earlier short c) later first)
        ]

    -- a first block that overlaps nothing
    abbrev nothing : Block
    nothing = record { start = 0; size = 0; priority = 0; section = short.section; is_displaced = false; is_load_start = false }

    abbrev pub is_one_marked : List Block → Bool
    is_one_marked bs = list_any p (marked_of bs (marks does_earlier_move does_later_move bs))

    from_nothing : (bs : List Block) → is_one_marked bs ≡ is_some_marked nothing bs
    from_nothing [] = sym (none_behind nothing)
    from_nothing (b ∷ bs) = sym (some_on nothing b bs (not_later_apart nothing b (omega arith)) ∙ ap (λ (t : Bool). t || is_some_marked b bs) (and_right (p nothing) (does_earlier_move nothing b)
        (and_left (nat_lt b.start 0 && nat_lt 0 0) (nat_le b.priority 0) (and_right (nat_lt b.start 0) (nat_lt 0 0) (le-ltb 0 0 (omega arith))))))

    -- blocks that pass the test and move with the long one do so with the short one, or start in between
    pub grown_marks : (bs : List Block) → Rises bs → Each Fits bs → is_one_marked (put_in long bs) ≡ (is_one_marked (put_in short bs) || is_some_between bs)
    grown_marks bs up fits =
        from_nothing (put_in long bs) ∙ grown_behind nothing bs up fits ∙ ap (λ (t : Bool). t || is_some_between bs) (sym (from_nothing (put_in short bs)))
