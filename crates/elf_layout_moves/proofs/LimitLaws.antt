-- Limits tell which sections move with longer tables.
use Rattle.std.proofs.Common.{◌≡◌, ◌≢◌, ℕ, ◌+◌, ◌<◌, ◌≤◌, List, Bool, true, false, not, ◌&&◌, ◌||◌, length, refl, sym, ap, ◌∙◌, subst, inl, inr, arith}
use Rattle.std.specs.Prelude.{None, Option, Some, nat_le, nat_lt, slice_get, ◌==◌}
use Rattle.std.specs.List.{list_all, list_any}
use Rattle.std.specs.Option.{option_map}
use Rattle.std.proofs.lemmas.Bool.{and_from, and_parts, and_right, both_ways, cases_eq, cases_lt, eq-eqb, eqb-true, false_from_ne_true, false≢true, leb-true, lt-ltb, ltb-true, or_cases}
use Rattle.elf_format.specs.Options.{is_one_of}
use Rattle.elf_format.specs.declared.records.SegmentHeader.{SegmentHeader}
use Rattle.elf_layout_plan.specs.Blocks.{Block, are_moving, have_causes, is_block_of, moving_sections, stay_apart}
use Rattle.elf_layout_plan.specs.Memory.{Resized, blocks_with, table_load, table_size_with}
use Rattle.elf_layout_plan.specs.Rounds.{are_chosen, are_in_old_order, do_move, is_stuck_with, sections_at}
use Rattle.elf_layout_plan.proofs.ForCallers.ApartLists.{Each, all-from, any-at, each-from, none-from}
use Rattle.elf_layout_moves.specs.Growth.{IsGrowth, does_swallow, is_swallowed, other_blocks}
use Rattle.elf_layout_moves.specs.ImageBlocks.{AreNumbered}
use Rattle.elf_layout_moves.specs.Limits.{AreLimits, AreLimitsOf, Covers, end_from, end_with, is_reached, limit_at}
use Rattle.elf_layout_moves.specs.declared.limits.TheConstants.{NEVER}
use Rattle.elf_layout_moves.proofs.GrowthLaws.{back, blocks_none, blocks_some, front, longer_tables_may_move, longer_tables_move, others_are, stands, swallow_none, swallow_some, swallowed_at, table_block}
use Rattle.elf_layout_moves.proofs.GrowthLists.{any-with, each-without}
use Rattle.elf_layout_moves.proofs.MovedLaws.{IsImageBlock, all_of, all_within, image_blocks, no_block, one_of}
use Rattle.elf_layout_moves.proofs.MoverLaws.{at_place}
use Rattle.elf_layout_moves.proofs.SomeOrder.{some_in_order}

same_if_both : (a b : Bool) → (a ≡ true → b ≡ true) → (b ≡ true → a ≡ true) → a ≡ b
same_if_both true b f g = sym (f refl)
same_if_both false true f g = absurd (false≢true (g refl))
same_if_both false false f g = refl

or_false : (b : Bool) → (b || false) ≡ b
or_false true = refl
or_false false = refl

-- the sections that move are those of the blocks that move
chosen_is : (blocks : List Block) (moved : List ℕ) (q : ℕ) → are_moving blocks moved ≡ true → is_one_of moved q ≡ is_one_of (moving_sections blocks) q
chosen_is blocks moved q chosen =
    let parts = and_parts (list_all (is_one_of (moving_sections blocks)) moved) (list_all (is_one_of moved) (moving_sections blocks)) chosen in
    same_if_both (is_one_of moved q) (is_one_of (moving_sections blocks) q) (λ is. one_of (is_one_of (moving_sections blocks)) moved q parts.0 is) (λ is. one_of (is_one_of moved) (moving_sections blocks) q parts.1 is)

chosen_from : (blocks : List Block) (moved : List ℕ) → ((q : ℕ) → is_one_of moved q ≡ is_one_of (moving_sections blocks) q) → are_moving blocks moved ≡ true
chosen_from blocks moved same =
    and_from (list_all (is_one_of (moving_sections blocks)) moved) (list_all (is_one_of moved) (moving_sections blocks))
    (all_of (is_one_of (moving_sections blocks)) moved (λ q is. sym (same q) ∙ is)) (all_of (is_one_of moved) (moving_sections blocks) (λ q is. same q ∙ is))

module _ (r : Resized) (from : ℕ) where
  none_reached : (q end : ℕ) (bs : List Block) → list_any (is_reached end end q) bs ≡ false
  none_reached q end bs = none-from (is_reached end end q) bs (each-from (λ b. is_reached end end q b ≡ false) bs (λ i b at. and_right (is_block_of q b) (nat_le end b.start && nat_lt b.start end)
      (false_from_ne_true (nat_le end b.start && nat_lt b.start end) (λ is.
      let parts = and_parts (nat_le end b.start) (nat_lt b.start end) is in
      omega (arith, leb-true end b.start parts.0, ltb-true b.start end parts.1)))))

  -- what a longer table swallows starts from the end of the shorter one on
  reached_is : (added q : ℕ) (o : Option SegmentHeader) → table_load r ≡ o → list_any (is_reached (end_with r from) (end_with r added) q) (blocks_with r from) ≡ does_swallow r from added q
  reached_is added q None load =
      ap (λ (o : Option SegmentHeader). list_any (is_reached (end_from (option_map (stands r) o) (table_size_with r from)) (end_from (option_map (stands r) o) (table_size_with r added)) q) (blocks_with r from)) load
      ∙ none_reached q 0 (blocks_with r from) ∙ sym (swallow_none r from added q load)
  reached_is added q (Some p) load =
      ap (λ (o : Option SegmentHeader). list_any (is_reached (end_from (option_map (stands r) o) (table_size_with r from)) (end_from (option_map (stands r) o) (table_size_with r added)) q) (blocks_with r from)) load
      ∙ ap (list_any (is_reached (stands r p + table_size_with r from) (stands r p + table_size_with r added) q)) (blocks_some r p from load)
      ∙ any-with (is_reached (stands r p + table_size_with r from) (stands r p + table_size_with r added) q) (front r) (back r) (table_block r p from)
      ∙ sym (swallow_some r from added p q load)

  -- a section whose block is swallowed is one of the image's
  swallowed_within : (added q : ℕ) → does_swallow r from added q ≡ true → q < length r.image.sections
  swallowed_within added q is =
      let (i, b, at, passes) = any-at (is_reached (end_with r from) (end_with r added) q) (blocks_with r from) (reached_is added q (table_load r) refl ∙ is) in
      let own = (and_parts (is_block_of q b) (nat_le (end_with r from) b.start && nat_lt b.start (end_with r added)) passes).0 in
      elim (cases_lt q (length r.image.sections)) [
        | inl within ↦ within
        | inr past ↦ absurd (both_ways (is_block_of q b) (no_block r from q b past (at_place (IsImageBlock (length r.image.sections)) (blocks_with r from) i b (image_blocks r from) at)) own)
      ]

  -- a fact of all blocks is one of the others
  others_have : (P : Block → Type 0) → Each P (blocks_with r from) → (o : Option SegmentHeader) → table_load r ≡ o → Each P (other_blocks r)
  others_have P all None load = subst (λ (bs : List Block). Each P bs) (blocks_none r from load) all
  others_have P all (Some p) load = subst (λ (bs : List Block). Each P bs) (sym (others_are r))
      (each-without P (front r) (back r) (table_block r p from) (subst (λ (bs : List Block). Each P bs) (blocks_some r p from load) all))

  swallowed_ends : (added : ℕ) (b : Block) (o : Option SegmentHeader) → table_load r ≡ o → is_swallowed r from added b ≡ true → (end_with r from ≤ b.start) × (b.start < end_with r added)
  swallowed_ends added b None load is =
      absurd (false≢true (sym (ap (λ (o : Option SegmentHeader). swallowed_at r from added o b) load) ∙ is))
  swallowed_ends added b (Some p) load is =
      let told : (nat_le (stands r p + table_size_with r from) b.start && nat_lt b.start (stands r p + table_size_with r added)) ≡ true =
      sym (ap (λ (o : Option SegmentHeader). swallowed_at r from added o b) load) ∙ is in
      let parts = and_parts (nat_le (stands r p + table_size_with r from) b.start) (nat_lt b.start (stands r p + table_size_with r added)) told in
      let first : end_with r from ≡ stands r p + table_size_with r from = ap (λ (o : Option SegmentHeader). end_from (option_map (stands r) o) (table_size_with r from)) load in
      let last : end_with r added ≡ stands r p + table_size_with r added = ap (λ (o : Option SegmentHeader). end_from (option_map (stands r) o) (table_size_with r added)) load in
      (omega (arith, first, leb-true (stands r p + table_size_with r from) b.start parts.0), omega (arith, last, ltb-true b.start (stands r p + table_size_with r added) parts.1))

-- What is known of the bound up to which limits tell.
pub record IsBound (r : Resized) (from bound : ℕ) : Type 0 where
  pub within : bound ≤ NEVER
  pub some : 0 < bound → 0 < table_size_with r from
  pub behind : 0 < bound → (k : ℕ) (b : Block) → slice_get (blocks_with r from) k ≡ Some b → end_with r from ≤ b.start → b.priority ≢ 2 → bound ≤ b.start + 1

module _ (r : Resized) (numbered : AreNumbered r.image) (sized : length r.sizes ≡ length r.image.sections) (from bound : ℕ) (moved limits : List ℕ)
    (move : do_move r from moved ≡ true) (chosen : are_chosen r from moved ≡ true) (free : is_stuck_with r from ≡ false) (near : end_with r from < NEVER)
    (is_bound : IsBound r from bound) (are : AreLimitsOf (length r.image.sections) (end_with r from) moved (blocks_with r from) limits) where
  growth : (added : ℕ) → from ≤ added → end_with r added < bound → IsGrowth r from added
  growth added longer before = record {
    longer = longer;
    some = is_bound.some (omega (arith, before));
    free = free;
    readily = all-from (λ b. not (is_swallowed r from added b) || b.priority == 2) (other_blocks r)
        (others_have r from (λ b. (not (is_swallowed r from added b) || b.priority == 2) ≡ true) (each-from _ (blocks_with r from) (λ k b at. by_test k b at (is_swallowed r from added b) refl)) (table_load r) refl);
  }
    where
      by_test : (k : ℕ) (b : Block) → slice_get (blocks_with r from) k ≡ Some b → (t : Bool) → is_swallowed r from added b ≡ t → (not t || b.priority == 2) ≡ true
      by_test k b at false is = refl
      by_test k b at true is = eq-eqb b.priority 2 (elim (cases_eq b.priority 2) [
        | inl two ↦ two
        | inr other ↦
            let (first, last) = swallowed_ends r from added b (table_load r) refl is in
            absurd (omega (arith, last, before, is_bound.behind (omega (arith, before)) k b at first other))
      ])

  moved_is : (added : ℕ) (also : List ℕ) → from ≤ added → end_with r added < bound → are_chosen r added also ≡ true → (q : ℕ) → is_one_of also q ≡ (is_one_of moved q || does_swallow r from added q)
  moved_is added also longer before chosen_also q =
      chosen_is (blocks_with r added) also q chosen_also
      ∙ longer_tables_move r from added q (growth added longer before)
      ∙ ap (λ (t : Bool). t || does_swallow r from added q) (sym (chosen_is (blocks_with r from) moved q chosen))

  near_there : (added : ℕ) → Covers r from bound added → end_with r added < NEVER
  near_there added (inl same) = subst (λ (n : ℕ). end_with r n < NEVER) (sym same) near
  near_there added (inr (longer, before)) = omega (arith, before, is_bound.within)

  tells : (added : ℕ) (also : List ℕ) → Covers r from bound added → are_chosen r added also ≡ true → (q : ℕ) → q < length r.image.sections → is_one_of also q ≡ nat_le (limit_at limits q) (end_with r added)
  tells added also (inl same) chosen_also q within =
      let there : are_chosen r from also ≡ true = subst (λ (n : ℕ). are_chosen r n also ≡ true) same chosen_also in
      chosen_is (blocks_with r from) also q there ∙ sym (chosen_is (blocks_with r from) moved q chosen)
      ∙ sym (or_false (is_one_of moved q))
      ∙ ap (λ (t : Bool). is_one_of moved q || t) (sym (none_reached r from q (end_with r from) (blocks_with r from)))
      ∙ sym (are.tells q (end_with r from) within near)
      ∙ ap (λ (n : ℕ). nat_le (limit_at limits q) (end_with r n)) (sym same)
  tells added also (inr (longer, before)) chosen_also q within =
      moved_is added also longer before chosen_also q
      ∙ ap (λ (t : Bool). is_one_of moved q || t) (sym (reached_is r from added q (table_load r) refl))
      ∙ sym (are.tells q (end_with r added) within (omega (arith, before, is_bound.within)))

  moved_below : (q : ℕ) → is_one_of moved q ≡ true → q < length r.image.sections
  moved_below q is =
      let causes = (and_parts (have_causes (blocks_with r from) moved) (stay_apart moved (blocks_with r from))
      (and_parts (have_causes (blocks_with r from) moved && stay_apart moved (blocks_with r from)) (are_in_old_order (sections_at r moved)) move).0).0 in
      let (i, m, at, same) = any-at (λ x. x == q) moved is in
      let below = at_place (λ p. p < length r.image.sections) moved i m (all_within r from moved causes) at in
      omega (arith, below, eqb-true m q same)

  lists : (added : ℕ) → Covers r from bound added → (also : List ℕ) × (do_move r added also ≡ true) × (are_chosen r added also ≡ true)
  lists added (inl same) = (moved, subst (λ (n : ℕ). do_move r n moved ≡ true) (sym same) move, subst (λ (n : ℕ). are_chosen r n moved ≡ true) (sym same) chosen)
  lists added (inr (longer, before)) =
      let test : ℕ → Bool = λ q. is_one_of moved q || does_swallow r from added q in
      let (also, order, has) = some_in_order r numbered sized test in
      let g = growth added longer before in
      let all : (q : ℕ) → is_one_of also q ≡ (is_one_of moved q || does_swallow r from added q) = λ q. has q ∙ same_if_both (nat_lt q (length r.image.sections) && test q) (test q)
      (λ is. (and_parts (nat_lt q (length r.image.sections)) (test q) is).1)
      (λ is. and_from (nat_lt q (length r.image.sections)) (test q) (lt-ltb q (length r.image.sections) (elim (or_cases (is_one_of moved q) (does_swallow r from added q) is) [ inl here ↦ moved_below q here | inr there ↦ swallowed_within r from added q there ])) is) in (
        also,
        longer_tables_may_move r from added moved also g move all order,
        chosen_from (blocks_with r added) also (λ q. all q ∙ ap (λ (t : Bool). t || does_swallow r from added q) (chosen_is (blocks_with r from) moved q chosen) ∙ sym (longer_tables_move r from added q g)),
      )

  pub are_limits : AreLimits r from bound limits
  are_limits = record {
    many = are.many;
    near = near_there;
    tells = λ added also covers move_also chosen_also q within. tells added also covers chosen_also q within;
    lists = lists;
  }
