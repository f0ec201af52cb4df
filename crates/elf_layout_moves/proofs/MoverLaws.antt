-- The blocks that move: those that are displaced, and those that the walk marks among the others.
use Rattle.std.proofs.Common.{◌≡◌, ◌≢◌, ℕ, zero, suc, ◌+◌, ◌<◌, ◌⊎◌, List, [], ◌∷◌, ◌++◌, Bool, true, false, not, ◌&&◌, ◌||◌, add-one, append_assoc, drop, length, refl, sym, ap, ◌∙◌, subst, inl, inr, get_or, arith}
use Rattle.std.specs.Prelude.{IsSome, None, Option, Some, slice_get, nat_lt, nat_le, ◌==◌, All, Contains, filter, IsPermutation}
use Rattle.std.specs.List.{cons_option, filter_map, list_all, list_any}
use Rattle.std.proofs.lemmas.Bool.{and_cases, and_from, and_left, and_parts, and_right, both_ways, cases_Bool, cases_eq, eq-eqb, eqb-true, le-leb, lt-ltb, ne_eqb, not-true, not_from_false, not_from_true, or_left, or_right}
use Rattle.std.proofs.lemmas.List.Elements.{All-contains, All-contains_itself, All-filter, filter_passes}
use Rattle.std.proofs.lemmas.List.Folds.{Any-from_list_any, list_any_at}
use Rattle.std.proofs.lemmas.List.Sorted.{All-permutation, IsPermutation-append_right, IsPermutation-filter_both, IsPermutation-refl, IsPermutation-trans}
use Rattle.std.proofs.lemmas.Option.{get_or_from_slice_get, same_Some, slice_get-get_or, slice_get_within}
use Rattle.elf_layout_plan.specs.declared.block.Block.{Block as Ranged}
use Rattle.elf_layout_plan.specs.Marks.{marked_of}
use Rattle.elf_layout_plan.specs.MovedBlocks.{HasStuck, MoveForCause, StayApart}
use Rattle.elf_format.specs.Options.{is_one_of}
use Rattle.elf_layout_plan.specs.Blocks.{Block, earlier_moves, has_cause, has_load, have_causes, in_order, is_block_of, is_block_of_some, is_earlier, is_kept_out, is_stuck, is_stuck_pair, later_moves, movers, movers_in_order, moves_as_displaced, overlaps, some_two, stay_apart}
use Rattle.elf_layout_plan.specs.declared.fault.LayoutFault.{LayoutFault}
use Rattle.elf_layout_plan.specs.declared.fault.LayoutFault.TheVariants as faults
use Rattle.elf_layout_moves.specs.BlockSteps.{AreClear, AreMovers, AreOrdered, AreRanges, AreTold, IsStuckFault, IsWhole}
use Rattle.elf_layout_plan.proofs.ForCallers.ApartLists.{Each, each-from}
use Rattle.elf_layout_moves.proofs.OneOrder.{in_order_is, one_is_earlier}
use Rattle.elf_layout_moves.proofs.RangeLaws.{has_cause_there, marked_can, none_stuck_there, stay_apart_there}
use Rattle.elf_layout_moves.proofs.SomeTwo.{holds_of_two, some_two-IsPermutation, some_two-part, some_two-without}

-- what holds of each element holds of one at a place
pub at_place : {X : Type 0} (P : X → Type 0) (xs : List X) (k : ℕ) (x : X) → All P xs → slice_get xs k ≡ Some x → P x
at_place P xs k x all at = subst P (get_or_from_slice_get xs k x x at) (all k x (slice_get_within xs k x at))

-- ## Marked blocks

-- what is left from a place on begins with what stands there
drop_next : {X : Type 0} (xs : List X) (k : ℕ) (x : X) → slice_get xs k ≡ Some x → drop k xs ≡ x ∷ drop (suc k) xs
drop_next [] k x at = absurd (omega (arith, slice_get_within [] k x at))
drop_next (y ∷ xs) zero x at = ap (λ z. z ∷ xs) (same_Some y x at)
drop_next (y ∷ xs) (suc k) x at = drop_next xs k x at

pub drop_here : {X : Type 0} (xs : List X) (k : ℕ) (x : X) → slice_get xs k ≡ Some x → drop k xs ≡ x ∷ drop (k + 1) xs
drop_here xs k x at = drop_next xs k x at ∙ ap (λ n. x ∷ drop n xs) (sym (add-one k))

marked_from : (bs : List Block) (ms : List Bool) (k : ℕ) (x : Block) → slice_get (marked_of bs ms) k ≡ Some x
    → (j : ℕ) × (slice_get bs j ≡ Some x) × (slice_get ms j ≡ Some true)
marked_from [] ms k x at = absurd (omega (arith, slice_get_within [] k x at))
marked_from (b ∷ bs) [] k x at = absurd (omega (arith, slice_get_within [] k x at))
marked_from (b ∷ bs) (true ∷ ms) zero x at = (zero, at, refl)
marked_from (b ∷ bs) (true ∷ ms) (suc k) x at = let (j, is, marked) = marked_from bs ms k x at in (suc j, is, marked)
marked_from (b ∷ bs) (false ∷ ms) k x at = let (j, is, marked) = marked_from bs ms k x at in (suc j, is, marked)

marked_in : (bs : List Block) (ms : List Bool) (j : ℕ) (x : Block) → slice_get bs j ≡ Some x → slice_get ms j ≡ Some true
    → (k : ℕ) × (slice_get (marked_of bs ms) k ≡ Some x)
marked_in [] ms j x at marked = absurd (omega (arith, slice_get_within [] j x at))
marked_in (b ∷ bs) [] j x at marked = absurd (omega (arith, slice_get_within [] j true marked))
marked_in (b ∷ bs) (true ∷ ms) zero x at marked = (zero, at)
marked_in (b ∷ bs) (true ∷ ms) (suc j) x at marked = let (k, is) = marked_in bs ms j x at marked in (suc k, is)
marked_in (b ∷ bs) (false ∷ ms) zero x at marked = cc marked
marked_in (b ∷ bs) (false ∷ ms) (suc j) x at marked = marked_in bs ms j x at marked

-- the next block is marked, or it isn't
pub marked_more : (blocks : List Block) (marks : List Bool) (place : ℕ) (b : Block) (found made all : List Block) → slice_get blocks place ≡ Some b → slice_get marks place ≡ Some true
    → made ≡ found ++ b ∷ [] → found ++ marked_of (drop place blocks) (drop place marks) ≡ all → made ++ marked_of (drop (place + 1) blocks) (drop (place + 1) marks) ≡ all
marked_more blocks marks place b found made all at marked is before =
    let next : marked_of (drop place blocks) (drop place marks) ≡ b ∷ marked_of (drop (place + 1) blocks) (drop (place + 1) marks) =
    rw (drop_here blocks place b at, drop_here marks place true marked) in
    rw (is, append_assoc) (sym (ap (λ (l : List Block). found ++ l) next) ∙ before)

pub marked_none : (blocks : List Block) (marks : List Bool) (place : ℕ) (b : Block) (found made all : List Block) → slice_get blocks place ≡ Some b → slice_get marks place ≡ Some false
    → made ≡ found → found ++ marked_of (drop place blocks) (drop place marks) ≡ all → made ++ marked_of (drop (place + 1) blocks) (drop (place + 1) marks) ≡ all
marked_none blocks marks place b found made all at isnt is before =
    let next : marked_of (drop place blocks) (drop place marks) ≡ marked_of (drop (place + 1) blocks) (drop (place + 1) marks) =
    rw (drop_here blocks place b at, drop_here marks place false isnt) in
    rw is (sym (ap (λ (l : List Block). found ++ l) next) ∙ before)

-- a section's block is that of its position
pub is_its_block : (position : ℕ) (x : Block) → x.section ≡ Some position → is_block_of position x ≡ true
is_its_block position x owned = rw owned (eq-eqb position position refl)

module _ (blocks : List Block) (ranges : List Ranged) (marks : List Bool) (ordered : AreOrdered blocks) (clear : AreClear blocks) (are : AreRanges blocks ranges)
    (many : length marks ≡ length ranges) (free : HasStuck ranges → ⊥) (apart : StayApart ranges marks) (causes : MoveForCause ranges marks) where
  -- the blocks that the walk marks move
  pub marked_move : AreMovers blocks (marked_of blocks marks)
  marked_move = record {
    there = λ k x at. let (j, is, marked) = marked_from blocks marks k x at in (j, slice_get_within blocks j x is, get_or_from_slice_get blocks j x x is);
    can = λ k x at. let (j, is, marked) = marked_from blocks marks k x at in marked_can blocks ranges ordered clear are marks j x causes marked is;
    causes = λ k x position at owned. let (j, is, marked) = marked_from blocks marks k x at in
        has_cause_there blocks ranges ordered clear are position marks j x causes marked is (is_its_block position x owned);
    apart = λ moved told. not_from_false _ (stay_apart_there blocks ranges ordered clear are marks many moved
        (λ j x marked at. let (k, is) = marked_in blocks marks j x at marked in told k x is) apart);
    free = none_stuck_there blocks ranges ordered clear are free;
  }

-- ## Stray blocks

-- a displaced block and the start of a loaded segment overlap
displaced_overlaps : (o c : Block) → o.is_displaced ≡ true → c.is_load_start ≡ true → (overlaps o c ≡ true) ⊎ (overlaps c o ≡ true)
displaced_overlaps o c displaced load = elim (one_is_earlier o c) [
  | inl first ↦ inl (and_from (is_earlier o c) (nat_lt c.start (o.start + o.size) || is_kept_out o c) first
      (or_right (nat_lt c.start (o.start + o.size)) (is_kept_out o c)
      (or_left (o.is_displaced && c.is_load_start) (o.is_load_start && c.is_displaced) (and_from o.is_displaced c.is_load_start displaced load))))
  | inr second ↦ inr (and_from (is_earlier c o) (nat_lt o.start (c.start + c.size) || is_kept_out c o) second
      (or_right (nat_lt o.start (c.start + c.size)) (is_kept_out c o)
      (or_right (c.is_displaced && o.is_load_start) (c.is_load_start && o.is_displaced) (and_from c.is_load_start o.is_displaced load displaced))))
]

-- A displaced block and the start of a loaded segment, at their places.
record Meeting (blocks : List Block) (o : Block) : Type 0 where
  there : ℕ
  load_there : ℕ
  load : Block
  at : slice_get blocks there ≡ Some o
  at_load : slice_get blocks load_there ≡ Some load
  apart : there ≢ load_there
  fixed : load.priority ≡ 0
  over : (overlaps o load ≡ true) ⊎ (overlaps load o ≡ true)

module _ (blocks : List Block) (wholes : All IsWhole blocks) where
  -- where there is a loaded segment, each displaced block meets its start
  meeting : (o : Block) → Contains blocks o → o.is_displaced ≡ true → has_load blocks ≡ true → Meeting blocks o
  meeting o (m, within, here) displaced loaded =
      let (n, c, inside, there, load) = Any-from_list_any (λ (b : Block). b.is_load_start) blocks loaded in
      let at : slice_get blocks m ≡ Some o = slice_get-get_or blocks m o within ∙ ap Some here in
      let at_load : slice_get blocks n ≡ Some c = slice_get-get_or blocks n c inside ∙ ap Some there in
      let whole : IsWhole c = at_place IsWhole blocks n c wholes at_load in
      let straight : c.is_displaced ≡ false = whole.placed load in
      record {
        there = m;
        load_there = n;
        load = c;
        at = at;
        at_load = at_load;
        apart = λ same.
            let is : o ≡ c = same_Some o c (sym at ∙ ap (λ (k : ℕ). slice_get blocks k) same ∙ at_load) in
            let both : o.is_displaced ≡ c.is_displaced = ap (λ (b : Block). b.is_displaced) is in
            both_ways o.is_displaced (both ∙ straight) displaced;
        fixed = whole.fixed load;
        over = displaced_overlaps o c displaced load;
      }

  -- a displaced block that can't move is stuck
  pub displaced_stuck : (o : Block) → Contains blocks o → o.is_displaced ≡ true → has_load blocks ≡ true → o.priority ≡ 0 → is_stuck blocks ≡ true
  displaced_stuck o here displaced loaded stays =
      let m = meeting o here displaced loaded in
      let zero_o = eq-eqb o.priority 0 stays in
      let zero_c = eq-eqb m.load.priority 0 m.fixed in
      elim m.over [
        | inl over ↦ holds_of_two is_stuck_pair blocks m.there m.load_there o m.load m.apart m.at m.at_load
            (and_from (overlaps o m.load && o.priority == 0) (m.load.priority == 0) (and_from (overlaps o m.load) (o.priority == 0) over zero_o) zero_c)
        | inr over ↦ holds_of_two is_stuck_pair blocks m.load_there m.there m.load o (λ same. m.apart (sym same)) m.at_load m.at
            (and_from (overlaps m.load o && m.load.priority == 0) (o.priority == 0) (and_from (overlaps m.load o) (m.load.priority == 0) over zero_c) zero_o)
      ]

  -- one that can move has a cause
  displaced_has_cause : (o : Block) (position : ℕ) → Contains blocks o → o.is_displaced ≡ true → has_load blocks ≡ true → 0 < o.priority → o.section ≡ Some position
      → has_cause blocks position ≡ true
  displaced_has_cause o position here displaced loaded can owned =
      let m = meeting o here displaced loaded in
      let its = is_its_block position o owned in
      let moves_here : Block → Block → Bool = λ a b. is_block_of position a && earlier_moves a b || is_block_of position b && later_moves a b in
      elim m.over [
        | inl over ↦ holds_of_two moves_here blocks m.there m.load_there o m.load m.apart m.at m.at_load
            (or_left (is_block_of position o && earlier_moves o m.load) (is_block_of position m.load && later_moves o m.load)
            (and_from (is_block_of position o) (earlier_moves o m.load) its
            (and_from (overlaps o m.load && nat_lt 0 o.priority) (nat_le m.load.priority o.priority)
            (and_from (overlaps o m.load) (nat_lt 0 o.priority) over (lt-ltb 0 o.priority can)) (le-leb m.load.priority o.priority (omega (arith, m.fixed))))))
        | inr over ↦ holds_of_two moves_here blocks m.load_there m.there m.load o (λ same. m.apart (sym same)) m.at_load m.at
            (or_right (is_block_of position m.load && earlier_moves m.load o) (is_block_of position o && later_moves m.load o)
            (and_from (is_block_of position o) (later_moves m.load o) its
            (and_from (overlaps m.load o) (nat_lt m.load.priority o.priority) over (lt-ltb m.load.priority o.priority (omega (arith, m.fixed, can))))))
      ]

-- ## All of them

in_either : {A : Type 0} (xs ys : List A) (k : ℕ) (x : A) → slice_get (xs ++ ys) k ≡ Some x → (slice_get xs k ≡ Some x) ⊎ (j : ℕ) × (slice_get ys j ≡ Some x)
in_either [] ys k x at = inr (k, at)
in_either (y ∷ xs) ys zero x at = inl at
in_either (y ∷ xs) ys (suc k) x at = in_either xs ys k x at

in_first : {A : Type 0} (xs ys : List A) (k : ℕ) (x : A) → slice_get xs k ≡ Some x → slice_get (xs ++ ys) k ≡ Some x
in_first [] ys k x at = absurd (omega (arith, slice_get_within [] k x at))
in_first (y ∷ xs) ys zero x at = at
in_first (y ∷ xs) ys (suc k) x at = in_first xs ys k x at

in_second : {A : Type 0} (xs ys : List A) (k : ℕ) (x : A) → slice_get ys k ≡ Some x → (j : ℕ) × (slice_get (xs ++ ys) j ≡ Some x)
in_second [] ys k x at = (k, at)
in_second (y ∷ xs) ys k x at = let (j, there) = in_second xs ys k x at in (suc j, there)

module _ (blocks sorted : List Block) (loaded : Bool) (told : loaded ≡ has_load blocks) (wholes : All IsWhole blocks)
    (same : IsPermutation (filter (λ b. not (moves_as_displaced loaded b)) blocks) sorted) where
  abbrev outs : List Block
  outs = filter (λ b. moves_as_displaced loaded b) blocks

  abbrev others : List Block
  others = filter (λ b. not (moves_as_displaced loaded b)) blocks

  same_two : (test : Block → Block → Bool) → some_two test blocks ≡ some_two test (outs ++ sorted)
  same_two test = some_two-IsPermutation test blocks (outs ++ sorted)
      (IsPermutation-trans blocks (outs ++ others) (outs ++ sorted) (IsPermutation-filter_both (λ b. moves_as_displaced loaded b) (λ b. not (moves_as_displaced loaded b)) (λ b. refl) blocks)
      (IsPermutation-append_right outs others sorted same))

  -- no block of the others is displaced where there is a loaded segment
  none_displaced : loaded ≡ true → All (λ (b : Block). b.is_displaced ≡ false) others
  none_displaced is k d within =
      let passes : not (moves_as_displaced loaded (get_or others k d)) ≡ true = filter_passes (λ b. not (moves_as_displaced loaded b)) blocks k d within in
      elim (and_cases loaded (get_or others k d).is_displaced (not-true (moves_as_displaced loaded (get_or others k d)) passes)) [
        | inl isnt ↦ absurd (both_ways loaded isnt is)
        | inr straight ↦ straight
      ]

  no_load : loaded ≡ false → All (λ (b : Block). b.is_load_start ≡ false) blocks
  no_load isnt k d within = elim (cases_Bool (get_or blocks k d).is_load_start) [
    | inl is ↦ absurd (both_ways loaded isnt (told ∙ list_any_at (λ (b : Block). b.is_load_start) blocks k d within is))
    | inr other ↦ other
  ]

  pub clear_of_all : AreClear sorted
  clear_of_all = elim (cases_Bool loaded) [
    | inl is ↦ inl (λ k x at. at_place (λ (b : Block). b.is_displaced ≡ false) sorted k x
        (All-permutation (λ (b : Block). b.is_displaced ≡ false) others sorted same (none_displaced is)) at)
    | inr isnt ↦ inr (λ k x at. at_place (λ (b : Block). b.is_load_start ≡ false) sorted k x
        (All-permutation (λ (b : Block). b.is_load_start ≡ false) others sorted same
        (All-filter (λ b. not (moves_as_displaced loaded b)) (λ (b : Block). b.is_load_start ≡ false) blocks (no_load isnt))) at)
  ]

  -- what is stuck among the others is stuck
  pub others_stuck : is_stuck sorted ≡ true → is_stuck blocks ≡ true
  others_stuck stuck = same_two is_stuck_pair ∙ some_two-part is_stuck_pair outs sorted stuck

  pub others_fault : (fault : LayoutFault) → IsStuckFault sorted fault → IsStuckFault blocks fault
  others_fault faults.Overlap stuck = others_stuck stuck
  others_fault faults.NumberTooLarge never = never
  others_fault faults.Memory given = given

  each_other : (bs : List Block) → All (Contains blocks) bs → Each (Contains blocks) bs
  each_other bs all = each-from (Contains blocks) bs (λ k x at. at_place (Contains blocks) bs k x all at)

  -- the displaced blocks, and what moves of the others in their order, are the blocks that move
  pub all_chosen : AreTold blocks → AreOrdered sorted → outs ++ movers_in_order sorted ≡ movers blocks
  unfolding movers
  all_chosen apart ordered =
      let these : All (Contains blocks) others = All-filter (λ b. not (moves_as_displaced loaded b)) (Contains blocks) blocks (All-contains_itself blocks) in
      let one : sorted ≡ in_order others = in_order_is (Contains blocks) apart others sorted same ordered (each_other others these)
      (each_other sorted (All-permutation (Contains blocks) others sorted same these)) in
      ap (λ (bs : List Block). outs ++ movers_in_order bs) one
      ∙ ap (λ (t : Bool). filter (λ b. moves_as_displaced t b) blocks ++ movers_in_order (in_order (filter (λ b. not (moves_as_displaced t b)) blocks))) told

  -- a displaced block is one of the image's, where there is a loaded segment
  out_is : (k : ℕ) (o : Block) → slice_get outs k ≡ Some o → Contains blocks o × (o.is_displaced ≡ true) × (has_load blocks ≡ true)
  out_is k o at =
      let passes = at_place (λ (b : Block). moves_as_displaced loaded b ≡ true) outs k o (filter_passes (λ b. moves_as_displaced loaded b) blocks) at in
      let parts = and_parts loaded o.is_displaced passes in
      (at_place (Contains blocks) outs k o (All-filter (λ b. moves_as_displaced loaded b) (Contains blocks) blocks (All-contains_itself blocks)) at, parts.1, sym told ∙ parts.0)

  pub out_stuck : (k : ℕ) (o : Block) → slice_get outs k ≡ Some o → o.priority ≡ 0 → is_stuck blocks ≡ true
  out_stuck k o at stays = let is = out_is k o at in displaced_stuck blocks wholes o is.0 is.1 is.2 stays

  module _ (can : All (λ (b : Block). 0 < b.priority) outs) where
    -- no displaced block that can move is stuck
    out_free : (k : ℕ) (o x : Block) → slice_get outs k ≡ Some o → (is_stuck_pair o x ≡ false) × (is_stuck_pair x o ≡ false)
    out_free k o x at =
        let more : (o.priority == 0) ≡ false = ne_eqb o.priority 0 (λ zero_o. omega (arith, at_place (λ (b : Block). 0 < b.priority) outs k o can at, zero_o)) in (
          and_left (overlaps o x && o.priority == 0) (x.priority == 0) (and_right (overlaps o x) (o.priority == 0) more),
          and_right (overlaps x o && x.priority == 0) (o.priority == 0) more,
        )

    module _ (found : List Block) (move : AreMovers sorted found) where
      all_can : (k : ℕ) (x : Block) → slice_get (outs ++ found) k ≡ Some x → 0 < x.priority
      all_can k x at = elim (in_either outs found k x at) [
        | inl out ↦ at_place (λ (b : Block). 0 < b.priority) outs k x can out
        | inr other ↦ move.can other.0 x other.1
      ]

      all_cause : (k : ℕ) (x : Block) (position : ℕ) → slice_get (outs ++ found) k ≡ Some x → x.section ≡ Some position → has_cause blocks position ≡ true
      all_cause k x position at owned = elim (in_either outs found k x at) [
        | inl out ↦ let is = out_is k x out in displaced_has_cause blocks wholes x position is.0 is.1 is.2 (at_place (λ (b : Block). 0 < b.priority) outs k x can out) owned
        | inr other ↦ same_two _ ∙ some_two-part _ outs sorted (move.causes other.0 x position other.1 owned)
      ]

      module _ (moved : List ℕ) (all_told : (k : ℕ) (x : Block) → slice_get (outs ++ found) k ≡ Some x → is_block_of_some moved x ≡ true) where
        abbrev clash : Block → Block → Bool
        clash a b = overlaps a b && not (is_block_of_some moved a) && not (is_block_of_some moved b)

        out_of_way : (k : ℕ) (o x : Block) → slice_get outs k ≡ Some o → (clash o x ≡ false) × (clash x o ≡ false)
        out_of_way k o x at =
            let gone : not (is_block_of_some moved o) ≡ false = not_from_true (is_block_of_some moved o) (all_told k o (in_first outs found k o at)) in (
              and_left (overlaps o x && not (is_block_of_some moved o)) (not (is_block_of_some moved x)) (and_right (overlaps o x) (not (is_block_of_some moved o)) gone),
              and_right (overlaps x o && not (is_block_of_some moved x)) (not (is_block_of_some moved o)) gone,
            )

        all_apart : stay_apart moved blocks ≡ true
        all_apart =
            let others_apart : some_two clash sorted ≡ false = not-true (some_two clash sorted)
            (move.apart moved (λ k x at. let (j, there) = in_second outs found k x at in all_told j x there)) in
            not_from_false (some_two clash blocks) (same_two clash ∙ some_two-without clash outs sorted out_of_way ∙ others_apart)

      all_there : (k : ℕ) (x : Block) → slice_get (outs ++ found) k ≡ Some x → Contains blocks x
      all_there k x at = elim (in_either outs found k x at) [
        | inl out ↦ (out_is k x out).0
        | inr other ↦ All-contains (Contains blocks) sorted x (All-permutation (Contains blocks) others sorted same
            (All-filter (λ b. not (moves_as_displaced loaded b)) (Contains blocks) blocks (All-contains_itself blocks))) (move.there other.0 x other.1)
      ]

      pub all_movers : AreMovers blocks (outs ++ found)
      all_movers = record {
        there = all_there;
        can = all_can;
        causes = all_cause;
        apart = all_apart;
        free = same_two is_stuck_pair ∙ some_two-without is_stuck_pair outs sorted out_free ∙ move.free;
      }

-- ## Tests of all displaced blocks

-- a displaced block can't move: it is stuck
pub fixed_stuck : (blocks : List Block) (loaded : Bool) → loaded ≡ has_load blocks → All IsWhole blocks
    → list_any (λ b. b.priority == 0) (filter (λ b. moves_as_displaced loaded b) blocks) ≡ true → is_stuck blocks ≡ true
fixed_stuck blocks loaded told wholes some =
    let found : List Block = filter (λ b. moves_as_displaced loaded b) blocks in
    let (k, o, within, there, stays) = Any-from_list_any (λ (b : Block). b.priority == 0) found some in
    out_stuck blocks (filter (λ b. not (moves_as_displaced loaded b)) blocks) loaded told wholes (IsPermutation-refl (filter (λ b. not (moves_as_displaced loaded b)) blocks)) k o
    (slice_get-get_or found k o within ∙ ap Some there) (eqb-true o.priority 0 stays)

-- no block is one that can't move
pub can_all : (blocks : List Block) → list_any (λ b. b.priority == 0) blocks ≡ false → All (λ (b : Block). 0 < b.priority) blocks
can_all blocks none k d within = elim (cases_eq (get_or blocks k d).priority 0) [
  | inl stays ↦ absurd (both_ways _ none (list_any_at (λ (b : Block). b.priority == 0) blocks k d within (eq-eqb (get_or blocks k d).priority 0 stays)))
  | inr other ↦ omega arith
]

-- ## The sections

some_of : {A : Type 0} (o : Option A) → IsSome o → (x : A) × (o ≡ Some x)
some_of None there = cc there
some_of (Some x) there = (x, refl)

any_behind : (test : ℕ → Bool) (o : Option ℕ) (ys : List ℕ) → list_any test ys ≡ true → list_any test (cons_option o ys) ≡ true
any_behind test None ys h = h
any_behind test (Some y) ys h = or_right (test y) (list_any test ys) h

-- the position of each block's section is told
pub is_told : (xs : List Block) (k : ℕ) (x : Block) (position : ℕ) → slice_get xs k ≡ Some x → x.section ≡ Some position
    → is_one_of (filter_map (λ b. b.section) xs) position ≡ true
is_told [] k x position at owned = absurd (omega (arith, slice_get_within [] k x at))
is_told (y ∷ xs) zero x position at owned =
    let own : y.section ≡ Some position = ap (λ (b : Block). b.section) (same_Some y x at) ∙ owned in
    rw own (or_left (position == position) (is_one_of (filter_map (λ b. b.section) xs) position) (eq-eqb position position refl))
is_told (y ∷ xs) (suc k) x position at owned = any_behind (λ n. n == position) y.section (filter_map (λ b. b.section) xs) (is_told xs k x position at owned)

all_behind : (test : ℕ → Bool) (o : Option ℕ) (ys : List ℕ) → ((p : ℕ) → o ≡ Some p → test p ≡ true) → list_all test ys ≡ true → list_all test (cons_option o ys) ≡ true
all_behind test None ys first h = h
all_behind test (Some y) ys first h = and_from (test y) (list_all test ys) (first y refl) h

-- the position of each block's section passes what that of each block passes
pub all_told : (test : ℕ → Bool) (xs : List Block) → ((k : ℕ) (x : Block) (position : ℕ) → slice_get xs k ≡ Some x → x.section ≡ Some position → test position ≡ true)
    → list_all test (filter_map (λ b. b.section) xs) ≡ true
all_told test [] each = refl
all_told test (y ∷ xs) each =
    all_behind test y.section (filter_map (λ b. b.section) xs) (λ p owned. each zero y p refl owned)
    (all_told test xs (λ k x position at owned. each (suc k) x position at owned))

module _ (blocks movers : List Block) (wholes : All IsWhole blocks) (move : AreMovers blocks movers) where
  -- each section of a block that moves has a cause
  pub sections_have_causes : have_causes blocks (filter_map (λ b. b.section) movers) ≡ true
  sections_have_causes = all_told (has_cause blocks) movers move.causes

  section_told : (k : ℕ) (x : Block) → slice_get movers k ≡ Some x → is_block_of_some (filter_map (λ b. b.section) movers) x ≡ true
  section_told k x at =
      let whole = All-contains IsWhole blocks x wholes (move.there k x at) in
      let (position, owned) = some_of x.section (whole.owned (move.can k x at)) in
      rw owned (is_told movers k x position at owned)

  -- once they move, the others are apart
  pub sections_apart : stay_apart (filter_map (λ b. b.section) movers) blocks ≡ true
  sections_apart = move.apart (filter_map (λ b. b.section) movers) section_told
