use Rattle.std.proofs.Common.{◌<◌, ◌++◌, ◌∷◌, ◌∙◌, [], ℕ, List, ap, get_or, length, map, sym, take}
use Rattle.std.proofs.lemmas.List.{take_more}
use Rattle.elf_layout_moves.specs.BlockSteps.{old_key}
use Rattle.elf_layout_moves.proofs.OrderSteps.{Three}
use Rattle.elf_layout_moves.proofs.OldOrder.{key_seen, map_push}
use Rattle.elf_layout_moves.proofs.old_order.keys_of.Goals as goal

pub loop-position-preserved : goal.loop-position-preserved
loop-position-preserved c =
    let moved : List ℕ = c.args.moved.now in
    let i : ℕ = c.loop-position.position-index in
    let p : ℕ = get_or moved i 0 in
    let within : p < length c.args.image.now.sections = c.requires i 0 c.loop-position-test.true in
    let made : Three = (c.index-sections-position.result.sh_addr, c.index-sections-position.result.sh_size, p) in
    let key = key_seen c.args.image.now c.sections.result.now p c.index-sections-position.result c.sections.ensures within c.index-sections-position.is in
    c.in_ok-push.ensures.items
    ∙ ap (λ (l : List Three). l ++ made ∷ []) c.loop-position.invariant
    ∙ ap (λ (k : Three). map (old_key c.args.image.now) (take i moved) ++ k ∷ []) (sym key)
    ∙ sym (map_push (old_key c.args.image.now) (take i moved) p)
    ∙ ap (λ (l : List ℕ). map (old_key c.args.image.now) l) (sym (take_more moved i 0 c.loop-position-test.true))
