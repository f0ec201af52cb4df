use Rattle.std.proofs.Common.{sym, ◌∙◌}
use Rattle.std.proofs.lemmas.List.{at_drop_all}
use Rattle.macho_image.proofs.FatSteps.{meets_last, meets_last-here, meets_last-some_share}
use Rattle.macho_image.proofs.fat.neighbours_share.Goals as goal

pub returns-then-arch-last_end : goal.returns-then-arch-last_end
returns-then-arch-last_end c =
    let archs = c.args.archs.now in
    let here = meets_last-here archs c.loop-arch.arch-index c.loop-arch.last_end _ c.loop-arch-test.true c.if-arch-last_end.true in
    sym here ∙ c.loop-arch.invariant ∙ meets_last-some_share archs c.requires.rising c.requires.filled

pub returns : goal.returns
returns c =
    let archs = c.args.archs.now in
    let none = at_drop_all (meets_last c.loop-arch.last_end) archs c.loop-arch.arch-index c.loop-arch-test.false in
    sym none ∙ c.loop-arch.invariant ∙ meets_last-some_share archs c.requires.rising c.requires.filled
