-- A plan for an image with its sizes is one for the image, and so is none.
use Rattle.std.proofs.Common.{◌≡◌, ◌+◌, ◌≤◌, subst, sym, arith}
use Rattle.elf_format.specs.Image.{Image}
use Rattle.elf_layout_plan.specs.declared.fault.LayoutFault.{LayoutFault}
use Rattle.elf_layout_plan.specs.declared.fault.LayoutFault.TheVariants as faults
use Rattle.elf_layout_plan.specs.Memory.{Resized}
use Rattle.elf_layout_plan.specs.Plan.{IsOverlapping, IsPlan, IsTooLarge, Plan, most_added, resized}
use Rattle.elf_layout_plan.specs.Refusals.{AreNoSizes, IsNoPlan, IsStuckAsked}
use Rattle.elf_layout_plan.specs.Rounds.{IsAsked}
use Rattle.elf_layout_plan.proofs.ForCallers.RoundLaws.{rounds_are_asked, rounds_end}
use Rattle.elf_layout_segments.specs.Inner.{IsResized}
use Rattle.elf_layout_segments.specs.AnchorPositions.{IsNoEnd}
use Rattle.elf_layout.specs.Inner.{HasNoPlan}
use Rattle.elf_layout_segments.proofs.ForCallers.{resized_is}

pub plan_is : (r : Resized) → IsResized r → (plan : Plan) → IsPlan r plan → IsPlan (resized r.image) plan
plan_is r is plan p = let P : Resized → Type 0 = λ s. IsPlan s plan in subst P (sym (resized_is r is)) p

overlapping_is : (r : Resized) → IsResized r → IsOverlapping r → IsOverlapping (resized r.image)
overlapping_is r is p = let P : Resized → Type 0 = IsOverlapping in subst P (sym (resized_is r is)) p

pub no_plan_is : (r : Resized) → IsResized r → (fault : LayoutFault) → HasNoPlan r fault → IsNoPlan r.image fault
no_plan_is r is faults.Overlap p = overlapping_is r is p
no_plan_is r is faults.NumberTooLarge p = let P : Resized → Type 0 = IsTooLarge in subst P (sym (resized_is r is)) p
no_plan_is r is faults.Memory p = p

pub no_end_is : (r : Resized) → IsResized r → (fault : LayoutFault) → IsNoEnd r fault → IsNoPlan r.image fault
no_end_is r is faults.Overlap p = overlapping_is r is p
no_end_is r is faults.NumberTooLarge never = absurd never
no_end_is r is faults.Memory p = p

-- ## What rounds say of plans

pub stuck_asked : (image : Image) (fault : LayoutFault) → IsNoPlan image fault → fault ≡ faults.Overlap → IsStuckAsked (resized image)
stuck_asked image faults.Overlap p same = record { looked = p.looked; asked = rounds_are_asked (resized image) p.before p.looked p.lead; stuck = p.stuck }
stuck_asked image faults.NumberTooLarge p same = let never : ⊥ = cc same in absurd never
stuck_asked image faults.Memory p same = let never : ⊥ = cc same in absurd never

-- sizes are never refused as overlapping
pub no_sizes_asked : (image : Image) (fault : LayoutFault) → AreNoSizes image fault → fault ≡ faults.Overlap → IsStuckAsked (resized image)
no_sizes_asked image faults.Overlap never same = absurd never
no_sizes_asked image faults.NumberTooLarge p same = let never : ⊥ = cc same in absurd never
no_sizes_asked image faults.Memory p same = let never : ⊥ = cc same in absurd never

pub asked_by_plan : (r : Resized) (plan : Plan) → IsPlan r plan → IsAsked r plan.looked
asked_by_plan r plan p = rounds_are_asked r p.before plan.looked p.ended.lead

pub few_rounds : (r : Resized) (plan : Plan) → IsPlan r plan → plan.rounds ≤ most_added r.image + 1
few_rounds r plan p = omega (arith, p.counted, (rounds_end r p.before plan.looked p.ended.lead).1)
