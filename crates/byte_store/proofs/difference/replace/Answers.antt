use Rattle.std.proofs.Common.{◌-◌, List, ℕ, drop, length, take}
use Rattle.std.proofs.lemmas.List.{take_rest}
use Rattle.byte_store.proofs.DifferenceLaws.{replaced, turned}
use Rattle.byte_store.specs.Laid.{patches_of}
use Rattle.byte_store.proofs.difference.replace.Goals as goal

pub returns-in-Ok-clause-ok : goal.returns-in-Ok-clause-ok
returns-in-Ok-clause-ok g c =
    let common = c.min-common.result in
    let pieces = c.in_ok-pieces.pieces.items in
    let lent = c.deref.result.now in
    let old = c.args.old.now in
    let new = c.args.new.now in
    let growth : List ℕ = take (length new - common) (drop common new) in
    replaced old new growth (patches_of lent) _ _
    (turned common old new c.min-common.ensures growth pieces lent (take_rest new common) c.deref.ensures.value c.in_ok-pieces.ensures.inside c.in_ok-pieces.ensures.makes c.in_ok-pieces.ensures.stand)
    c.requires c.in-Ok.ensures.ok

pub returns-clause-err : goal.returns-clause-err
returns-clause-err g c =
    let common = c.min-common.result in
    let pieces = c.in_ok-pieces.pieces.items in
    let lent = c.deref.result.now in
    let old = c.args.old.now in
    let new = c.args.new.now in
    let growth : List ℕ = take (length new - common) (drop common new) in record {
      growth = growth;
      patches = patches_of lent;
      turns = turned common old new c.min-common.ensures growth pieces lent (take_rest new common) c.deref.ensures.value c.in_ok-pieces.ensures.inside c.in_ok-pieces.ensures.makes c.in_ok-pieces.ensures.stand;
      is_left = c.in-Err.ensures.err;
    }
