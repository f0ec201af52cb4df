-- What the steps of the layout hand to each other.
use Rattle.std.specs.Prelude.{ℕ, ◌≡◌, List, map, false}
use Rattle.elf_format.specs.declared.records.SegmentHeader.{SegmentHeader}
use Rattle.elf_layout_plan.specs.declared.fault.LayoutFault.{LayoutFault}
use Rattle.elf_layout_plan.specs.declared.fault.LayoutFault.TheVariants as faults
use Rattle.elf_layout_plan.specs.Added.{added_loads}
use Rattle.elf_layout_plan.specs.Memory.{Resized}
use Rattle.elf_layout_plan.specs.Plan.{IsOverlapping, IsTooLarge, Plan, does_plan_fit, plan_for}
use Rattle.elf_layout_plan.specs.PlanModel.{place_model}
use Rattle.elf_layout_plan.specs.Standing.{places, sections_offset, table_offset}
use Rattle.elf_layout_plan.specs.Written.{written_segments}
use Rattle.elf_layout_segments.specs.declared.rounds.Rounds.{Rounds}
use Rattle.elf_layout.specs.declared.standing.Standing.{Standing}

-- ## Where everything stands

-- where the sections stand and the two header tables, and the segments that are added for those that move
pub record IsStanding (r : Resized) (moved : List ℕ) (s : Standing) : Type 0 where
  pub loads : s.loads.items ≡ map (λ load. load.header) (added_loads r moved)
  pub places : map place_model s.places.items ≡ places r moved
  pub e_phoff : s.e_phoff ≡ table_offset r moved
  pub e_shoff : s.e_shoff ≡ sections_offset r moved

-- some number of what follows from the sections that move doesn't fit
abbrev pub IsPastField : Resized → List ℕ → Type 0
IsPastField r moved = (rounds looked : ℕ) → does_plan_fit r.image.form (plan_for r rounds looked moved) ≡ false

abbrev pub StandsTooFar : Resized → List ℕ → LayoutFault → Type 0
StandsTooFar r moved faults.Overlap = ⊥
StandsTooFar r moved faults.NumberTooLarge = IsPastField r moved
StandsTooFar r moved faults.Memory = Unit {0}

-- the program headers that are written
pub record AreWritten (r : Resized) (moved : List ℕ) (segments : List SegmentHeader) : Type 0 where
  pub are : segments ≡ written_segments r moved

-- ## A plan

-- what follows from the sections that move, but for whether every number fits
pub record AreParts (r : Resized) (rounds : Rounds) (parts : Plan) : Type 0 where
  pub are : parts ≡ plan_for r rounds.count rounds.looked rounds.moved.items

-- an image with its sizes has no plan
abbrev pub HasNoPlan : Resized → LayoutFault → Type 0
HasNoPlan r faults.Overlap = IsOverlapping r
HasNoPlan r faults.NumberTooLarge = IsTooLarge r
HasNoPlan r faults.Memory = Unit {0}
