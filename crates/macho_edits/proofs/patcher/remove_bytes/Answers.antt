-- The bytes behind close up, and zeros stand where they ended.
use Rattle.std.proofs.Common.{◌≡◌, ◌++◌, ap, replicate, take, drop, ◌-◌, ◌+◌, ◌∙◌, ℕ, List}
use Rattle.macho_edits.proofs.PatchLemmas.{closed_up, length-turned_end}
use Rattle.macho_edits.proofs.patcher.remove_bytes.Goals as goal

pub returns : goal.returns
returns c =
    let xs = c.args.bytes.now in
    let at = c.args.offset in
    let size = c.args.size in
    let end = c.args.end in
    let zeros : c.fill.new.self ≡ replicate size 0 = c.fill.ensures.after (λ _ e. e) ∙ ap (λ (n : ℕ). replicate n 0) (length-turned_end xs c.rotate_left.new.self at size end c.requires.order c.requires.room c.rotate_left.ensures.after) in
    closed_up xs c.rotate_left.new.self c.fill.new.self at size end c.requires.order c.requires.room c.rotate_left.ensures.after
    ∙ ap (λ (r : List ℕ). take at xs ++ (take (end - (at + size)) (drop (at + size) xs) ++ (r ++ drop end xs))) zeros
