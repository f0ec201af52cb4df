use Rattle.std.proofs.Common.{◌≡◌, ◌∙◌, List, ℕ, ap, subst, sym, true}
use Rattle.std.specs.List.{filter_map}
use Rattle.elf_layout_plan.specs.Blocks.{Block, have_causes, stay_apart}
use Rattle.elf_layout_moves.proofs.MoverLaws.{sections_apart, sections_have_causes}
use Rattle.elf_layout_moves.proofs.block_moves.moved_positions.Goals as goal

pub returns-clause-causes : goal.returns-clause-causes
returns-clause-causes c =
    let told = c.in_ok-moved.ensures ∙ ap (λ (bs : List Block). filter_map (λ b. b.section) bs) c.deref.ensures.value in
    subst (λ (moved : List ℕ). have_causes c.args.blocks.now moved ≡ true) (sym told)
    (sections_have_causes c.args.blocks.now c.in_ok-movers.movers.items c.requires.whole c.in_ok-movers.ensures.movers)

pub returns-clause-apart : goal.returns-clause-apart
returns-clause-apart c =
    let told = c.in_ok-moved.ensures ∙ ap (λ (bs : List Block). filter_map (λ b. b.section) bs) c.deref.ensures.value in
    subst (λ (moved : List ℕ). stay_apart moved c.args.blocks.now ≡ true) (sym told)
    (sections_apart c.args.blocks.now c.in_ok-movers.movers.items c.requires.whole c.in_ok-movers.ensures.movers)

pub returns-clause-chosen : goal.returns-clause-chosen
returns-clause-chosen c =
    c.in_ok-moved.ensures ∙ ap (λ (bs : List Block). filter_map (λ b. b.section) bs) (c.deref.ensures.value ∙ c.in_ok-movers.ensures.chosen)
