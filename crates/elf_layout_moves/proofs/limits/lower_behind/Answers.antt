use Rattle.std.proofs.Common.{◌≡◌, ◌+◌, ◌∷◌, ◌++◌, ◌∙◌, [], ℕ, List, ap, arith, min, refl, sym, take}
use Rattle.std.proofs.lemmas.List.{take_all, take_more}
use Rattle.elf_layout_plan.specs.Blocks.{Block}
use Rattle.elf_layout_moves.proofs.LimitSteps.{as_seen, block_limited, block_passed, never_behind, never_owned}
use Rattle.elf_layout_moves.proofs.limits.lower_behind.Goals as goal
use Rattle.elf_layout_moves.proofs.limits.lower_behind.Goals.{in-Some+then-block-from, in-Some+else-block-from, in_default}

pub loop-block-preserved : goal.loop-block-preserved
loop-block-preserved c = λ count moved are.
    let from : ℕ = c.args.from in
    let i : ℕ = c.loop-block.block-index in
    let b : Block = c.block-item.result in
    let bs : List Block = take i c.args.blocks.now in
    let told : take (i + 1) c.args.blocks.now ≡ bs ++ b ∷ [] = take_more c.args.blocks.now i b c.loop-block-test.true ∙ ap (λ (x : Block). bs ++ x ∷ []) (sym c.block-item.is) in
    let so = c.loop-block.invariant count moved are in
    let start : c.block.inside.start ≡ b.start = ap (λ (x : Block). x.start) c.block.view_is in
    let owner : c.block.inside.section ≡ b.section = ap (λ (x : Block). x.section) c.block.view_is in
    elim c.match-block.branch [
      | in-Some+then-block-from w ↦
          as_seen count from moved _ _ _ c.match-block.limits.items told (ap (λ v. v.items) w.limits-is ∙ w.lower.ensures)
          (block_limited count from moved bs b w.in-Some.position w.saturating_add.result c.loop-block.limits.items (sym owner ∙ w.in-Some.is) (omega (arith, start, w.if-block-from.true)) (w.saturating_add.ensures ∙ ap (λ (n : ℕ). min (n + 1) 340282366920938463463374607431768211455) start) so)
      | in-Some+else-block-from w ↦
          as_seen count from moved _ _ _ c.match-block.limits.items told (ap (λ v. v.items) w.limits-is)
          (block_passed count from moved bs b c.loop-block.limits.items (λ position end. never_behind from end position b (omega (arith, start, w.if-block-from.false))) so)
      | in_default w ↦
          as_seen count from moved _ _ _ c.match-block.limits.items told (ap (λ v. v.items) w.limits-is)
          (block_passed count from moved bs b c.loop-block.limits.items (λ position end. never_owned from end position b (sym owner ∙ w.in_default.is)) so)
    ]

pub returns : goal.returns
returns c = λ count moved are.
    as_seen count c.args.from moved (take c.loop-block.block-index c.args.blocks.now) c.args.blocks.now c.loop-block.limits.items c.loop-block.limits.items
    (sym (take_all c.loop-block.block-index c.args.blocks.now c.loop-block-test.false)) refl (c.loop-block.invariant count moved are)
