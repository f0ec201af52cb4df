use Rattle.std.proofs.Common.{◌∙◌, List, ℕ, ap, arith, refl, slice_range}
use Rattle.byte_store.proofs.DifferenceLaws.{pushed_changes, pushed_lies, pushed_makes, pushed_stands, same_between}
use Rattle.byte_store.proofs.difference.differences.Goals as goal

pub loop-at-preserved-then-is_same : goal.loop-at-preserved-then-is_same
loop-at-preserved-then-is_same c =
    let at = c.loop-at.at in
    let next = c.end_of_block-next.result in record {
      within = c.end_of_block-next.ensures.end;
      inside = c.loop-at.invariant.inside;
      makes = c.loop-at.invariant.makes ∙ same_between at next c.args.old.now c.args.new.now (omega arith) (c.if-is_same.ensures.0 refl);
      stand = c.loop-at.invariant.stand;
      changes = c.loop-at.invariant.changes;
      idle = c.loop-at.invariant.idle;
    }

pub loop-at-preserved : goal.loop-at-preserved
loop-at-preserved c =
    let at = c.loop-at.at in
    let next = c.end_of_block-next.result in
    let end = c.end_of_run-end.result in
    let old = c.args.old.now in
    let new = c.args.new.now in record {
      within = c.end_of_run-end.ensures.end;
      inside = pushed_lies c.loop-at.pieces.items _ _ old new end c.in_ok-push.ensures.items c.between.ensures (omega arith) c.end_of_run-end.ensures.end c.requires c.loop-at.invariant.inside;
      makes = pushed_makes c.loop-at.pieces.items _ _ old new end c.in_ok-push.ensures.items c.between.ensures (omega arith) c.end_of_run-end.ensures.end c.loop-at.invariant.makes;
      stand = pushed_stands c.loop-at.pieces.items _ _ old new end c.in_ok-push.ensures.items c.between.ensures (omega arith) c.end_of_run-end.ensures.end c.loop-at.invariant.stand;
      changes = pushed_changes c.loop-at.pieces.items _ _ old new end c.in_ok-push.ensures.items c.between.ensures (omega arith) c.end_of_run-end.ensures.end next c.end_of_run-end.ensures.begin
          (λ is. let same = c.if-is_same.ensures.1 is in cc same) c.loop-at.invariant.changes;
      idle = λ is. let same = c.if-is_same.ensures.1 (ap (λ (xs : List ℕ). slice_range xs at next) is) in absurd (cc same);
    }
