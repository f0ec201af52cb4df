use Rattle.std.proofs.Common.{[], false, inl, inr, ◌&&◌, ◌≡◌, ◌≢◌, ◌<◌, ◌≤◌, ◌+◌, ◌∙◌, ℕ, List, ap, arith, length, subst, sym}
use Rattle.std.specs.Prelude.{All, ◌==◌}
use Rattle.std.proofs.lemmas.Bool.{and_parts, cases_lt, eq-eqb, both_ways}
use Rattle.std.proofs.lemmas.List.{length-map}
use Rattle.elf_image.specs.ImageModel.{section_model}
use Rattle.elf_layout_plan.specs.Blocks.{Block, have_causes, stay_apart}
use Rattle.elf_layout_plan.specs.Memory.{Resized, blocks_with, table_size_with}
use Rattle.elf_layout_plan.specs.Rounds.{are_in_old_order, sections_at}
use Rattle.elf_layout_moves.specs.ImageBlocks.{AreNumbered}
use Rattle.elf_layout_moves.specs.Inner.{IsResized}
use Rattle.elf_layout_moves.specs.Limits.{AreLimitsOf, end_with}
use Rattle.elf_layout_moves.specs.declared.limits.TheConstants.{NEVER}
use Rattle.elf_layout_moves.proofs.LimitLaws.{IsBound, are_limits}
use Rattle.elf_layout_moves.proofs.MovedLaws.{all_within, as_many_sizes}
use Rattle.elf_layout_moves.proofs.MoverLaws.{at_place}
use Rattle.elf_layout_moves.proofs.limits.limits_from.Goals as goal
use Rattle.elf_layout_moves.proofs.limits.limits_from.Goals.{then-has_empty_table, else-has_empty_table}

pub blocks_of-requires-clause-numbered : goal.blocks_of-requires-clause-numbered
blocks_of-requires-clause-numbered c = subst (λ (q : Resized). AreNumbered q.image) c.r.view_is c.source-image.ensures.edited.is_edit.sections.numbered

pub blocks_of-requires-clause-sized : goal.blocks_of-requires-clause-sized
blocks_of-requires-clause-sized c =
    let is = subst (λ (q : Resized). IsResized q) c.r.view_is c.r.invariant in
    let numbered = subst (λ (q : Resized). AreNumbered q.image) c.r.view_is c.source-image.ensures.edited.is_edit.sections.numbered in
    as_many_sizes c.args.r.now is numbered

pub limits_of_moved-requires : goal.limits_of_moved-requires
limits_of_moved-requires c =
    let r : Resized = c.args.r.now in
    let moved : List ℕ = c.in_ok-moved.moved.items in
    let causes = (and_parts (have_causes (blocks_with r c.args.added) moved) (stay_apart moved (blocks_with r c.args.added))
    (and_parts (have_causes (blocks_with r c.args.added) moved && stay_apart moved (blocks_with r c.args.added)) (are_in_old_order (sections_at r moved)) c.in_ok-moved.ensures.found).0).0 in
    let count : length r.image.sections ≡ length c.sections.result.now =
    sym (sym (length-map c.sections.result.now section_model) ∙ ap length c.sections.ensures ∙ ap (λ (q : Resized). length q.image.sections) c.r.view_is) in
    subst (λ (positions : List ℕ). All (λ position. position < length c.sections.result.now) positions) (sym c.deref.ensures.value)
    (subst (λ (n : ℕ). All (λ position. position < n) moved) count (all_within r c.args.added moved causes))

-- limits of as many sections, from the same address on, by the same blocks
told : (n m e f : ℕ) (bs cs : List Block) (ms ls : List ℕ) → n ≡ m → e ≡ f → bs ≡ cs → AreLimitsOf n e ms bs ls → AreLimitsOf m f ms cs ls
told n m e f bs cs ms ls count end blocks are =
    subst (λ (k : ℕ). AreLimitsOf k f ms cs ls) count (subst (λ (k : ℕ). AreLimitsOf n k ms cs ls) end (subst (λ (l : List Block). AreLimitsOf n e ms l ls) blocks are))

none_bound : (r : Resized) (from bound : ℕ) → bound ≡ 0 → IsBound r from bound
none_bound r from bound none = record {
  within = omega (arith, none);
  some = λ more. absurd (omega (arith, none, more));
  behind = λ more. absurd (omega (arith, none, more));
}

some_bound : (r : Resized) (from bound end : ℕ) (blocks : List Block) → ((table_size_with r from) == 0) ≡ false → bound ≤ NEVER → end ≡ end_with r from → blocks ≡ blocks_with r from
    → All (λ b. end ≤ b.start → b.priority ≢ 2 → bound ≤ b.start + 1) blocks → IsBound r from bound
some_bound r from bound end blocks some within same are all = record {
  within = within;
  some = λ more. elim (cases_lt 0 (table_size_with r from)) [
    | inl is ↦ is
    | inr isnt ↦ absurd (both_ways (table_size_with r from == 0) some (eq-eqb (table_size_with r from) 0 (omega arith)))
  ];
  behind = λ more k b at past other.
      at_place (λ (x : Block). end ≤ x.start → x.priority ≢ 2 → bound ≤ x.start + 1) (blocks_with r from) k b
      (subst (λ (l : List Block). All (λ (x : Block). end ≤ x.start → x.priority ≢ 2 → bound ≤ x.start + 1) l) are all) at (omega (arith, past, same)) other;
}

pub returns-clause-limits : goal.returns-clause-limits
returns-clause-limits c =
    let r : Resized = c.args.r.now in
    let moved : List ℕ = c.in_ok-moved.moved.items in
    let is = subst (λ (q : Resized). IsResized q) c.r.view_is c.r.invariant in
    let numbered = subst (λ (q : Resized). AreNumbered q.image) c.r.view_is c.source-image.ensures.edited.is_edit.sections.numbered in
    let n : ℕ = length c.sections.result.now in
    let count : length c.sections.result.now ≡ length r.image.sections =
    sym (length-map c.sections.result.now section_model) ∙ ap length c.sections.ensures ∙ ap (λ (q : Resized). length q.image.sections) c.r.view_is in
    let end : c.table_end-end.result ≡ end_with r c.args.added = c.table_end-end.ensures.value in
    let blocks : c.deref-2.result.now ≡ blocks_with r c.args.added = c.deref-2.ensures.value ∙ c.in_ok-blocks.ensures in
    let first : AreLimitsOf n c.table_end-end.result moved [] c.in_ok-limits.limits.items =
    subst (λ (ms : List ℕ). AreLimitsOf n c.table_end-end.result ms [] c.in_ok-limits.limits.items) c.deref.ensures.value (c.in_ok-limits.ensures c.table_end-end.result) in
    let is_bound : IsBound r c.args.added c.if-has_empty_table.bound = elim c.if-has_empty_table.branch [
      | then-has_empty_table w ↦ none_bound r c.args.added c.if-has_empty_table.bound w.bound-is
      | else-has_empty_table w ↦
          let blocks_there : w.deref-else-has_empty_table.result.now ≡ blocks_with r c.args.added = w.deref-else-has_empty_table.ensures.value ∙ c.in_ok-blocks.ensures in
          subst (λ (k : ℕ). IsBound r c.args.added k) (sym w.bound-is)
          (some_bound r c.args.added w.bound_behind-bound.result c.table_end-end.result w.deref-else-has_empty_table.result.now
          (sym c.has_empty_table.ensures ∙ w.if-has_empty_table.false) w.bound_behind-bound.ensures.within end blocks_there w.bound_behind-bound.ensures.bound)
    ] in
    are_limits r numbered (as_many_sizes r is numbered) c.args.added c.if-has_empty_table.bound moved c.lower_behind.new.limits.items
    c.in_ok-moved.ensures.found c.in_ok-moved.ensures.chosen c.in_ok-moved.ensures.free (omega (arith, end, c.table_end-end.ensures.near)) is_bound
    (told n (length r.image.sections) c.table_end-end.result (end_with r c.args.added) c.deref-2.result.now (blocks_with r c.args.added) moved c.lower_behind.new.limits.items
    count end blocks (c.lower_behind.ensures n moved first))
