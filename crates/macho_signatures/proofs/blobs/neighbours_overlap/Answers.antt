use Rattle.std.proofs.Common.{sym, ◌∙◌}
use Rattle.std.proofs.lemmas.List.{at_drop_all}
use Rattle.macho_signatures.proofs.OverlapLaws.{meets_last, meets_last-here, meets_last-some_overlap}
use Rattle.macho_signatures.proofs.blobs.neighbours_overlap.Goals as goal

pub returns-then-blob-last_end : goal.returns-then-blob-last_end
returns-then-blob-last_end c =
    let blobs = c.args.blobs.now in
    let here = meets_last-here blobs c.loop-blob.blob-index c.loop-blob.last_end _ c.loop-blob-test.true c.if-blob-last_end.true in
    sym here ∙ c.loop-blob.invariant ∙ meets_last-some_overlap blobs c.requires.rising c.requires.filled

pub returns : goal.returns
returns c =
    let blobs = c.args.blobs.now in
    let none = at_drop_all (meets_last c.loop-blob.last_end) blobs c.loop-blob.blob-index c.loop-blob-test.false in
    sym none ∙ c.loop-blob.invariant ∙ meets_last-some_overlap blobs c.requires.rising c.requires.filled
