use Rattle.std.proofs.Common.{◌≡◌, ◌<◌, ◌∙◌, ℕ, List, ap, length, subst, sym, true}
use Rattle.std.specs.Prelude.{All}
use Rattle.elf_format.specs.Options.{is_one_of}
use Rattle.elf_layout_plan.specs.Blocks.{Block, have_causes, moving_sections, stay_apart}
use Rattle.elf_layout_plan.specs.Memory.{Resized}
use Rattle.elf_layout_moves.specs.BlockSteps.{AreTold, IsWhole}
use Rattle.elf_layout_moves.specs.ImageBlocks.{AreNumbered}
use Rattle.elf_layout_moves.specs.Inner.{IsResized}
use Rattle.elf_layout_moves.proofs.BlocksTold.{told}
use Rattle.elf_layout_moves.proofs.MovedLaws.{all_within, as_many_sizes, moves, same_moving, wholes}
use Rattle.elf_layout_moves.proofs.moving.find_moved.Goals as goal

pub blocks_of-requires-clause-sized : goal.blocks_of-requires-clause-sized
blocks_of-requires-clause-sized c =
    let is = subst (λ (q : Resized). IsResized q) c.r.view_is c.r.invariant in
    let numbered = subst (λ (q : Resized). AreNumbered q.image) c.r.view_is c.source-image.ensures.edited.is_edit.sections.numbered in
    as_many_sizes c.args.r.now is numbered

pub moved_positions-requires-clause-whole : goal.moved_positions-requires-clause-whole
moved_positions-requires-clause-whole c =
    subst (λ (blocks : List Block). All IsWhole blocks) (sym (c.deref.ensures.value ∙ c.in_ok-blocks.ensures)) (wholes c.args.r.now c.args.added)

pub moved_positions-requires-clause-told : goal.moved_positions-requires-clause-told
moved_positions-requires-clause-told c =
    subst (λ (blocks : List Block). AreTold blocks) (sym (c.deref.ensures.value ∙ c.in_ok-blocks.ensures)) (told c.args.r.now c.args.added)

pub in_old_order-requires-clause-within : goal.in_old_order-requires-clause-within
in_old_order-requires-clause-within c =
    let r : Resized = c.args.r.now in
    let moved : List ℕ = c.in_ok-moved.moved.items in
    let blocks = c.deref.ensures.value ∙ c.in_ok-blocks.ensures in
    let causes = subst (λ (bs : List Block). have_causes bs moved ≡ true) blocks c.in_ok-moved.ensures.causes in
    subst (λ (positions : List ℕ). All (λ position. position < length r.image.sections) positions) (sym c.deref-2.ensures.value) (all_within r c.args.added moved causes)

pub in_old_order-requires-clause-sized : goal.in_old_order-requires-clause-sized
in_old_order-requires-clause-sized c =
    let is = subst (λ (q : Resized). IsResized q) c.r.view_is c.r.invariant in
    let numbered = subst (λ (q : Resized). AreNumbered q.image) c.r.view_is c.source-image.ensures.edited.is_edit.sections.numbered in
    as_many_sizes c.args.r.now is numbered

pub returns-clause-found : goal.returns-clause-found
returns-clause-found c =
    let r : Resized = c.args.r.now in
    let moved : List ℕ = c.in_ok-moved.moved.items in
    let found : List ℕ = c.in_ok-found.found.items in
    let blocks = c.deref.ensures.value ∙ c.in_ok-blocks.ensures in
    let causes = subst (λ (bs : List Block). have_causes bs moved ≡ true) blocks c.in_ok-moved.ensures.causes in
    let apart = subst (λ (bs : List Block). stay_apart moved bs ≡ true) blocks c.in_ok-moved.ensures.apart in
    let same : (position : ℕ) → is_one_of found position ≡ is_one_of moved position =
    λ position. c.in_ok-found.ensures.same position ∙ ap (λ (l : List ℕ). is_one_of l position) c.deref-2.ensures.value in
    moves r c.args.added found moved same causes apart c.in_ok-found.ensures.ordered

pub returns-clause-chosen : goal.returns-clause-chosen
returns-clause-chosen c =
    let moved : List ℕ = c.in_ok-moved.moved.items in
    let found : List ℕ = c.in_ok-found.found.items in
    let blocks = c.deref.ensures.value ∙ c.in_ok-blocks.ensures in
    let same : (position : ℕ) → is_one_of found position ≡ is_one_of moved position =
    λ position. c.in_ok-found.ensures.same position ∙ ap (λ (l : List ℕ). is_one_of l position) c.deref-2.ensures.value in
    same_moving _ found moved same (c.in_ok-moved.ensures.chosen ∙ ap (λ (bs : List Block). moving_sections bs) blocks)
