use Rattle.std.proofs.Common.{◌∙◌, List, ap, refl, take, ℕ}
use Rattle.byte_store.specs.Laid.{patches_of}
use Rattle.byte_store.proofs.ComposedLaws.{changes_source, grows, made_in_parts}
use Rattle.byte_store.proofs.composed.composed_difference.Goals as goal

pub returns-clause-makes : goal.returns-clause-makes
returns-clause-makes c =
    let source = c.args.source.now in
    let front : List ℕ = take c.min.result source in
    λ bytes is.
    made_in_parts source bytes c.args.kept.now c.args.cleared.now (patches_of c.args.pieces.now) c.args.size c.requires is
    front (ap (λ (n : ℕ). take n source) c.min.ensures)
    (record { growth = c.in_ok-growth.growth; pieces = c.in_ok-changes.changes; new_length = c.args.size }) refl c.in_ok-changes.ensures
    (c.in_ok-growth.ensures ∙ grows source bytes c.args.kept.now c.args.cleared.now (patches_of c.args.pieces.now) c.args.size c.requires is)

pub returns-clause-makeable : goal.returns-clause-makeable
returns-clause-makeable c =
    let source = c.args.source.now in
    let front : List ℕ = take c.min.result source in
    changes_source source front (patches_of c.args.pieces.now) c.args.size c.in_ok-growth.growth c.in_ok-changes.changes
    c.requires (ap (λ (n : ℕ). take n source) c.min.ensures) c.in_ok-changes.ensures.shows.inside c.in_ok-changes.ensures.shows.changes c.in_ok-growth.ensures
