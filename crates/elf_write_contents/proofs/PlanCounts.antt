-- How many program headers and sections a plan has.
use Rattle.std.proofs.Common.{◌<◌, length}
use Rattle.std.proofs.lemmas.Bool.{and_parts, ltb-true}
use Rattle.elf_format.specs.declared.constants.TheConstants.{PN_XNUM, SHN_LORESERVE}
use Rattle.elf_layout_plan.specs.Memory.{Resized}
use Rattle.elf_layout_plan.specs.Plan.{IsPlan, Plan, does_plan_fit}

pub record PlanCounts (plan : Plan) : Type 0 where
  pub segments : length plan.segments < 65535
  pub places : length plan.places < 65280

pub plan_counts : (r : Resized) (plan : Plan) → IsPlan r plan → PlanCounts plan
unfolding does_plan_fit
plan_counts r plan is =
    let last = and_parts _ _ is.fits in
    let before = and_parts _ _ last.0 in
    record {
      segments = ltb-true (length plan.segments) PN_XNUM before.1;
      places = ltb-true (length plan.places) SHN_LORESERVE last.1;
    }
