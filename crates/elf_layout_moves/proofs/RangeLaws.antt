-- What the walk over ranges says of the blocks in their order.
use Rattle.std.proofs.Common.{◌≡◌, ◌≢◌, ℕ, ◌+◌, ◌<◌, ◌≤◌, ◌⊎◌, List, Bool, true, false, not, ◌&&◌, ◌||◌, length, get_or, refl, sym, ap, ◌∙◌, subst, inl, inr, arith}
use Rattle.std.specs.Prelude.{Some, slice_get, nat_lt, nat_le, ◌==◌}
use Rattle.std.proofs.lemmas.Bool.{and_from, and_left, and_parts, and_right, cases_Bool, cases_lt, eq-eqb, eqb-true, false_from_ne_true, le-leb, le-ltb, lt-ltb, ltb-true, not-true, or_cases, or_from, or_left, or_right}
use Rattle.std.proofs.lemmas.Option.{same_Some, slice_get-get_or, slice_get_cases, slice_get_within}
use Rattle.elf_layout_plan.specs.declared.block.Block.{Block as Ranged}
use Rattle.elf_layout_plan.specs.Marks.{marks}
use Rattle.elf_layout_plan.specs.MovedBlocks as ranged
use Rattle.elf_layout_plan.specs.MovedBlocks.{EarlierMoves, HasStuck, IsOrdered, LaterMoves, MoveForCause, Overlap, Pair, StayApart}
use Rattle.elf_layout_plan.specs.Blocks.{Block, earlier_moves, has_cause, is_block_of, is_block_of_some, is_earlier, is_kept_out, is_stuck_pair, later_moves, overlaps, rank, some_two}
use Rattle.elf_layout_plan.specs.declared.fault.LayoutFault.{LayoutFault}
use Rattle.elf_layout_plan.specs.declared.fault.LayoutFault.TheVariants as faults
use Rattle.elf_layout_moves.specs.BlockSteps.{AreClear, AreOrdered, AreRanges, HasStuckFault, IsRangeOf, IsStuckFault}
use Rattle.elf_layout_moves.proofs.SameMarks.{same_marks}
use Rattle.elf_layout_moves.proofs.SomeTwo.{holds_of_two, none_of_two}

-- ## Two blocks

-- the first starts before the second, or with it and is no larger
pub earlier_means : (x y : Block) → is_earlier x y ≡ true → (x.start < y.start) ⊎ (x.start ≡ y.start) × (x.size ≤ y.size)
earlier_means x y h = elim (or_cases (nat_lt x.start y.start) (x.start == y.start && (nat_lt x.size y.size || x.size == y.size && nat_le (rank x) (rank y))) h) [
  | inl less ↦ inl (ltb-true x.start y.start less)
  | inr same ↦
      let parts = and_parts (x.start == y.start) (nat_lt x.size y.size || x.size == y.size && nat_le (rank x) (rank y)) same in
      inr (
        eqb-true x.start y.start parts.0,
        elim (or_cases (nat_lt x.size y.size) (x.size == y.size && nat_le (rank x) (rank y)) parts.1) [
          | inl less ↦ omega (arith, ltb-true x.size y.size less)
          | inr as_large ↦ omega (arith, eqb-true x.size y.size (and_parts (x.size == y.size) (nat_le (rank x) (rank y)) as_large).0)
        ],
      )
]

-- the earlier one overlaps the later one where it ends past its start
overlaps_here : (x y : Block) → is_earlier x y ≡ true → y.start < x.start + x.size → overlaps x y ≡ true
overlaps_here x y earlier past =
    and_from (is_earlier x y) (nat_lt y.start (x.start + x.size) || is_kept_out x y) earlier
    (or_left (nat_lt y.start (x.start + x.size)) (is_kept_out x y) (lt-ltb y.start (x.start + x.size) past))

-- of two blocks that overlap the earlier one ends past the start of the later one, where none is kept out
past_from_overlaps : (x y : Block) → is_kept_out x y ≡ false → overlaps x y ≡ true → y.start < x.start + x.size
past_from_overlaps x y clear over =
    elim (or_cases (nat_lt y.start (x.start + x.size)) (is_kept_out x y) (and_parts (is_earlier x y) (nat_lt y.start (x.start + x.size) || is_kept_out x y) over).1) [
      | inl less ↦ ltb-true y.start (x.start + x.size) less
      | inr kept ↦ cc (kept, clear)
    ]

past_from_back : (x y : Block) → is_earlier x y ≡ true → is_kept_out y x ≡ false → overlaps y x ≡ true → y.start < x.start + x.size
past_from_back x y earlier clear over =
    let past : x.start < y.start + y.size = past_from_overlaps y x clear over in
    let back : is_earlier y x ≡ true = (and_parts (is_earlier y x) (nat_lt x.start (y.start + y.size) || is_kept_out y x) over).0 in
    elim (earlier_means x y earlier) [
      | inl less ↦ elim (earlier_means y x back) [ inl more ↦ absurd (omega (arith, less, more)) | inr same ↦ absurd (omega (arith, less, same.0)) ]
      | inr same ↦ elim (earlier_means y x back) [ inl more ↦ absurd (omega (arith, same.0, more)) | inr also ↦ omega (arith, past, same.0, same.1, also.1) ]
    ]

kept_out_none : (x y : Block) → (x.is_displaced ≡ false) × (y.is_displaced ≡ false) ⊎ (x.is_load_start ≡ false) × (y.is_load_start ≡ false) → is_kept_out x y ≡ false
kept_out_none x y (inl none) =
    or_from (x.is_displaced && y.is_load_start) (x.is_load_start && y.is_displaced) (and_left x.is_displaced y.is_load_start none.0) (and_right x.is_load_start y.is_displaced none.1)
kept_out_none x y (inr none) =
    or_from (x.is_displaced && y.is_load_start) (x.is_load_start && y.is_displaced) (and_right x.is_displaced y.is_load_start none.1) (and_left x.is_load_start y.is_displaced none.0)

clear_of_each_other : (blocks : List Block) (i j : ℕ) (x y : Block) → AreClear blocks → slice_get blocks i ≡ Some x → slice_get blocks j ≡ Some y → is_kept_out x y ≡ false
clear_of_each_other blocks i j x y (inl none) at_i at_j = kept_out_none x y (inl (none i x at_i, none j y at_j))
clear_of_each_other blocks i j x y (inr none) at_i at_j = kept_out_none x y (inr (none i x at_i, none j y at_j))

-- ## Blocks and their ranges

-- A block with its range.
record Both (blocks : List Block) (ranges : List Ranged) (place : ℕ) : Type 0 where
  block : Block
  range : Ranged
  at_block : slice_get blocks place ≡ Some block
  at_range : slice_get ranges place ≡ Some range
  is : IsRangeOf blocks place block range

-- Two ranges that overlap, as their blocks do.
record Overlapping (ranges : List Ranged) (i j : ℕ) (x y : Block) : Type 0 where
  pair : Pair ranges
  first : pair.first ≡ i
  second : pair.second ≡ j
  over : Overlap pair.earlier pair.later
  earlier_priority : pair.earlier.priority ≡ x.priority
  later_priority : pair.later.priority ≡ y.priority

-- Two blocks whose ranges overlap.
record Overlapped (blocks : List Block) (i j : ℕ) (a b : Ranged) : Type 0 where
  earlier : Block
  later : Block
  at_earlier : slice_get blocks i ≡ Some earlier
  at_later : slice_get blocks j ≡ Some later
  over : overlaps earlier later ≡ true
  earlier_priority : a.priority ≡ earlier.priority
  later_priority : b.priority ≡ later.priority

module _ (blocks : List Block) (ranges : List Ranged) (ordered : AreOrdered blocks) (clear : AreClear blocks) (are : AreRanges blocks ranges) where
  both_at_range : (i : ℕ) (w : Ranged) → slice_get ranges i ≡ Some w → Both blocks ranges i
  both_at_range i w at = elim (slice_get_cases blocks i).1 [
    | inl found ↦ record { block = found.0; range = w; at_block = found.2; at_range = at; is = are.each i found.0 w found.2 at }
    | inr past ↦ absurd (omega (arith, past.0, are.as_many, slice_get_within ranges i w at))
  ]

  both_at_block : (i : ℕ) (x : Block) → slice_get blocks i ≡ Some x → Both blocks ranges i
  both_at_block i x at = elim (slice_get_cases ranges i).1 [
    | inl found ↦ record { block = x; range = found.0; at_block = at; at_range = found.2; is = are.each i x found.0 at found.2 }
    | inr past ↦ absurd (omega (arith, past.0, are.as_many, slice_get_within blocks i x at))
  ]

  -- each range starts behind those before it
  pub ranges_ordered : IsOrdered ranges
  ranges_ordered p =
      let a = both_at_range p.first p.earlier p.at_first in
      let b = both_at_range p.second p.later p.at_second in
      let ia = are.each p.first a.block p.earlier a.at_block p.at_first in
      let ib = are.each p.second b.block p.later b.at_block p.at_second in
      inl (omega (arith, p.ordered, ia.start, ib.start))

  -- ranges that overlap are of blocks that do
  overlapped : (p : Pair ranges) → Overlap p.earlier p.later → Overlapped blocks p.first p.second p.earlier p.later
  overlapped p over =
      let a = both_at_range p.first p.earlier p.at_first in
      let b = both_at_range p.second p.later p.at_second in
      let ia = are.each p.first a.block p.earlier a.at_block p.at_first in
      let ib = are.each p.second b.block p.later b.at_block p.at_second in
      let within : p.second < p.first + p.earlier.size = omega (arith, over, ia.start, ib.start) in
      let past : b.block.start < a.block.start + a.block.size = (ia.reaches p.second b.block p.ordered b.at_block).0 within in
      record {
        earlier = a.block;
        later = b.block;
        at_earlier = a.at_block;
        at_later = b.at_block;
        over = overlaps_here a.block b.block (ordered p.first p.second a.block b.block p.ordered a.at_block b.at_block) past;
        earlier_priority = ia.priority;
        later_priority = ib.priority;
      }

  -- ranges of blocks that overlap do
  overlapping : (i j : ℕ) (x y : Block) → i < j → slice_get blocks i ≡ Some x → slice_get blocks j ≡ Some y → y.start < x.start + x.size
      → Overlapping ranges i j x y
  overlapping i j x y less at_i at_j past =
      let a = both_at_block i x at_i in
      let b = both_at_block j y at_j in
      let ia = are.each i x a.range at_i a.at_range in
      let ib = are.each j y b.range at_j b.at_range in
      let within : j < i + a.range.size = (ia.reaches j y less at_j).1 past in
      record {
        pair = record { first = i; second = j; earlier = a.range; later = b.range; ordered = less; at_first = a.at_range; at_second = b.at_range };
        first = refl;
        second = refl;
        over = omega (arith, within, ia.start, ib.start);
        earlier_priority = ia.priority;
        later_priority = ib.priority;
      }

  -- two blocks of which one overlaps the other, in the order of their places
  in_order : (m n : ℕ) (a b : Block) → m ≢ n → slice_get blocks m ≡ Some a → slice_get blocks n ≡ Some b → overlaps a b ≡ true
      → Overlapping ranges m n a b ⊎ Overlapping ranges n m b a
  in_order m n a b apart at_m at_n over = elim (cases_lt m n) [
    | inl less ↦ inl (overlapping m n a b less at_m at_n (past_from_overlaps a b (clear_of_each_other blocks m n a b clear at_m at_n) over))
    | inr more ↦
        let less : n < m = omega (arith, more, apart) in
        inr (overlapping n m b a less at_n at_m (past_from_back b a (ordered n m b a less at_n at_m) (clear_of_each_other blocks m n a b clear at_m at_n) over))
  ]

  -- ranges overlap just where their blocks do
  same_overlap : (i j : ℕ) (x y : Block) (a b : Ranged) → i < j → slice_get blocks i ≡ Some x → slice_get blocks j ≡ Some y → slice_get ranges i ≡ Some a → slice_get ranges j ≡ Some b
      → nat_lt b.start (a.start + a.size) ≡ overlaps x y
  same_overlap i j x y a b less at_x at_y at_a at_b =
      let ia = are.each i x a at_x at_a in
      let ib = are.each j y b at_y at_b in
      elim (cases_lt b.start (a.start + a.size)) [
        | inl within ↦
            let past : y.start < x.start + x.size = (ia.reaches j y less at_y).0 (omega (arith, within, ia.start, ib.start)) in
            lt-ltb b.start (a.start + a.size) within ∙ sym (overlaps_here x y (ordered i j x y less at_x at_y) past)
        | inr beyond ↦ le-ltb b.start (a.start + a.size) beyond ∙ sym (false_from_ne_true (overlaps x y) (λ over.
            let past : y.start < x.start + x.size = past_from_overlaps x y (clear_of_each_other blocks i j x y clear at_x at_y) over in
            let within : j < i + a.size = (ia.reaches j y less at_y).1 past in
            omega (arith, within, beyond, ia.start, ib.start)))
      ]

  -- the marks of ranges are those of their blocks
  pub range_marks : ranged.marks_of ranges ≡ marks earlier_moves later_moves blocks
  range_marks = same_marks ranged.earlier_moves ranged.later_moves earlier_moves later_moves ranges blocks are.as_many (λ i j a b x y less at_a at_b at_x at_y.
      let over = same_overlap i j x y a b less at_x at_y at_a at_b in
      let first : a.priority ≡ x.priority = (are.each i x a at_x at_a).priority in
      let second : b.priority ≡ y.priority = (are.each j y b at_y at_b).priority in (
        ap (λ (o : Bool). o && nat_lt 0 a.priority && nat_le b.priority a.priority) over
            ∙ ap (λ (n : ℕ). overlaps x y && nat_lt 0 n && nat_le b.priority n) first
            ∙ ap (λ (n : ℕ). overlaps x y && nat_lt 0 x.priority && nat_le n x.priority) second,
        ap (λ (o : Bool). o && nat_lt a.priority b.priority) over
            ∙ ap (λ (n : ℕ). overlaps x y && nat_lt n b.priority) first
            ∙ ap (λ (n : ℕ). overlaps x y && nat_lt x.priority n) second,
      ))

  -- ## Two that can't move

  pub stuck_there : HasStuck ranges → some_two is_stuck_pair blocks ≡ true
  stuck_there (p, stuck) =
      let o = overlapped p stuck.overlap in
      holds_of_two is_stuck_pair blocks p.first p.second o.earlier o.later (omega (arith, p.ordered)) o.at_earlier o.at_later
      (and_from (overlaps o.earlier o.later && o.earlier.priority == 0) (o.later.priority == 0)
      (and_from (overlaps o.earlier o.later) (o.earlier.priority == 0) o.over (eq-eqb o.earlier.priority 0 (omega (arith, stuck.earlier_stays, o.earlier_priority))))
      (eq-eqb o.later.priority 0 (omega (arith, stuck.later_stays, o.later_priority))))

  -- the fault of ranges is that of their blocks
  pub stuck_fault : (fault : LayoutFault) → HasStuckFault ranges fault → IsStuckFault blocks fault
  stuck_fault faults.Overlap stuck = stuck_there stuck
  stuck_fault faults.NumberTooLarge never = never
  stuck_fault faults.Memory given = given

  not_these : (i j : ℕ) (x y : Block) → (HasStuck ranges → ⊥) → x.priority ≡ 0 → y.priority ≡ 0 → Overlapping ranges i j x y → ⊥
  not_these i j x y none stays also o =
      none (o.pair, record { overlap = o.over; earlier_stays = o.earlier_priority ∙ stays; later_stays = o.later_priority ∙ also })

  not_stuck : (m n : ℕ) (a b : Block) → (HasStuck ranges → ⊥) → m ≢ n → slice_get blocks m ≡ Some a → slice_get blocks n ≡ Some b → is_stuck_pair a b ≡ true → ⊥
  not_stuck m n a b none apart at_m at_n stuck =
      let parts = and_parts (overlaps a b && a.priority == 0) (b.priority == 0) stuck in
      let front = and_parts (overlaps a b) (a.priority == 0) parts.0 in
      let a_stays = eqb-true a.priority 0 front.1 in
      let b_stays = eqb-true b.priority 0 parts.1 in
      elim (in_order m n a b apart at_m at_n front.0) [
        | inl o ↦ not_these m n a b none a_stays b_stays o
        | inr o ↦ not_these n m b a none b_stays a_stays o
      ]

  pub none_stuck_there : (HasStuck ranges → ⊥) → some_two is_stuck_pair blocks ≡ false
  none_stuck_there none = none_of_two is_stuck_pair blocks (λ m n d apart p q.
      false_from_ne_true (is_stuck_pair (get_or blocks m d) (get_or blocks n d))
      (not_stuck m n (get_or blocks m d) (get_or blocks n d) none apart (slice_get-get_or blocks m d p) (slice_get-get_or blocks n d q)))

  -- ## Marks of those that move

  module _ (marks : List Bool) (many : length marks ≡ length ranges) (moved : List ℕ)
      (told : (k : ℕ) (x : Block) → slice_get marks k ≡ Some true → slice_get blocks k ≡ Some x → is_block_of_some moved x ≡ true) where
    -- what isn't told isn't marked
    unmarked : (k : ℕ) (x : Block) → slice_get blocks k ≡ Some x → is_block_of_some moved x ≡ false → slice_get marks k ≡ Some false
    unmarked k x at stays = elim (slice_get_cases marks k).1 [
      | inl found ↦ elim (cases_Bool found.0) [
        | inl is ↦
            let there = told k x (found.2 ∙ ap Some is) at in
            cc (stays, there)
        | inr isnt ↦ found.2 ∙ ap Some isnt
      ]
      | inr past ↦ absurd (omega (arith, past.0, many, are.as_many, slice_get_within blocks k x at))
    ]

    abbrev clash : Block → Block → Bool
    clash a b = overlaps a b && not (is_block_of_some moved a) && not (is_block_of_some moved b)

    not_apart : (i j : ℕ) (x y : Block) → StayApart ranges marks → slice_get blocks i ≡ Some x → slice_get blocks j ≡ Some y
        → is_block_of_some moved x ≡ false → is_block_of_some moved y ≡ false → Overlapping ranges i j x y → ⊥
    not_apart i j x y apart at_i at_j stays also o =
        let here = subst (λ (k : ℕ). slice_get marks k ≡ Some false) (sym o.first) (unmarked i x at_i stays) in
        let there = subst (λ (k : ℕ). slice_get marks k ≡ Some false) (sym o.second) (unmarked j y at_j also) in
        let ends = apart o.pair here there in
        omega (arith, ends, o.over)

    no_clash : (m n : ℕ) (a b : Block) → StayApart ranges marks → m ≢ n → slice_get blocks m ≡ Some a → slice_get blocks n ≡ Some b → clash a b ≡ true → ⊥
    no_clash m n a b stay apart at_m at_n both =
        let parts = and_parts (overlaps a b && not (is_block_of_some moved a)) (not (is_block_of_some moved b)) both in
        let front = and_parts (overlaps a b) (not (is_block_of_some moved a)) parts.0 in
        let a_stays = not-true (is_block_of_some moved a) front.1 in
        let b_stays = not-true (is_block_of_some moved b) parts.1 in
        elim (in_order m n a b apart at_m at_n front.0) [
          | inl o ↦ not_apart m n a b stay at_m at_n a_stays b_stays o
          | inr o ↦ not_apart n m b a stay at_n at_m b_stays a_stays o
        ]

    pub stay_apart_there : StayApart ranges marks → some_two clash blocks ≡ false
    stay_apart_there stay = none_of_two clash blocks (λ m n d apart p q.
        false_from_ne_true (clash (get_or blocks m d) (get_or blocks n d))
        (no_clash m n (get_or blocks m d) (get_or blocks n d) stay apart (slice_get-get_or blocks m d p) (slice_get-get_or blocks n d q)))

  -- ## Causes

  -- what a mark says: the block can move
  pub marked_can : (marks : List Bool) (k : ℕ) (x : Block) → MoveForCause ranges marks → slice_get marks k ≡ Some true → slice_get blocks k ≡ Some x → 0 < x.priority
  marked_can marks k x causes marked at = let (p, moves) = causes k marked in elim moves [
    | inl here ↦
        let o = overlapped p here.1.overlap in
        let same : o.earlier ≡ x = same_Some o.earlier x (sym o.at_earlier ∙ ap (λ (i : ℕ). slice_get blocks i) here.0 ∙ at) in
        omega (arith, here.1.can, o.earlier_priority, ap (λ (b : Block). b.priority) same)
    | inr here ↦
        let o = overlapped p here.1.overlap in
        let same : o.later ≡ x = same_Some o.later x (sym o.at_later ∙ ap (λ (i : ℕ). slice_get blocks i) here.0 ∙ at) in
        omega (arith, here.1.readily, o.later_priority, ap (λ (b : Block). b.priority) same)
  ]

  module _ (position : ℕ) where
    abbrev moves_here : Block → Block → Bool
    moves_here a b = is_block_of position a && earlier_moves a b || is_block_of position b && later_moves a b

    earlier_goes : (p : Pair ranges) (x : Block) → slice_get blocks p.first ≡ Some x → EarlierMoves p.earlier p.later → is_block_of position x ≡ true
        → some_two moves_here blocks ≡ true
    earlier_goes p x at moves is =
        let o = overlapped p moves.overlap in
        let same : x ≡ o.earlier = same_Some x o.earlier (sym at ∙ o.at_earlier) in
        let here : is_block_of position o.earlier ≡ true = subst (λ (b : Block). is_block_of position b ≡ true) same is in
        let can : 0 < o.earlier.priority = omega (arith, moves.can, o.earlier_priority) in
        let readily : o.later.priority ≤ o.earlier.priority = omega (arith, moves.readily, o.earlier_priority, o.later_priority) in
        let goes : earlier_moves o.earlier o.later ≡ true =
        and_from (overlaps o.earlier o.later && nat_lt 0 o.earlier.priority) (nat_le o.later.priority o.earlier.priority)
        (and_from (overlaps o.earlier o.later) (nat_lt 0 o.earlier.priority) o.over (lt-ltb 0 o.earlier.priority can)) (le-leb o.later.priority o.earlier.priority readily) in
        holds_of_two moves_here blocks p.first p.second o.earlier o.later (omega (arith, p.ordered)) o.at_earlier o.at_later
        (or_left (is_block_of position o.earlier && earlier_moves o.earlier o.later) (is_block_of position o.later && later_moves o.earlier o.later)
        (and_from (is_block_of position o.earlier) (earlier_moves o.earlier o.later) here goes))

    later_goes : (p : Pair ranges) (y : Block) → slice_get blocks p.second ≡ Some y → LaterMoves p.earlier p.later → is_block_of position y ≡ true
        → some_two moves_here blocks ≡ true
    later_goes p y at moves is =
        let o = overlapped p moves.overlap in
        let same : y ≡ o.later = same_Some y o.later (sym at ∙ o.at_later) in
        let here : is_block_of position o.later ≡ true = subst (λ (b : Block). is_block_of position b ≡ true) same is in
        let readily : o.earlier.priority < o.later.priority = omega (arith, moves.readily, o.earlier_priority, o.later_priority) in
        let goes : later_moves o.earlier o.later ≡ true =
        and_from (overlaps o.earlier o.later) (nat_lt o.earlier.priority o.later.priority) o.over (lt-ltb o.earlier.priority o.later.priority readily) in
        holds_of_two moves_here blocks p.first p.second o.earlier o.later (omega (arith, p.ordered)) o.at_earlier o.at_later
        (or_right (is_block_of position o.earlier && earlier_moves o.earlier o.later) (is_block_of position o.later && later_moves o.earlier o.later)
        (and_from (is_block_of position o.later) (later_moves o.earlier o.later) here goes))

    pub has_cause_there : (marks : List Bool) (k : ℕ) (x : Block) → MoveForCause ranges marks → slice_get marks k ≡ Some true → slice_get blocks k ≡ Some x
        → is_block_of position x ≡ true → has_cause blocks position ≡ true
    has_cause_there marks k x causes marked at is = let (p, moves) = causes k marked in elim moves [
      | inl here ↦ earlier_goes p x (ap (λ (i : ℕ). slice_get blocks i) here.0 ∙ at) here.1 is
      | inr here ↦ later_goes p x (ap (λ (i : ℕ). slice_get blocks i) here.0 ∙ at) here.1 is
    ]
