use Rattle.std.proofs.Common.{ℕ, List, arith}
use Rattle.std.specs.Prelude.{slice_get}
use Rattle.elf_layout_plan.specs.Memory.{SizedSection, sized_sections}
use Rattle.elf_layout.proofs.SlotSteps.{found_some}
use Rattle.elf_layout.proofs.TableSteps.{unloaded_all, unloaded_far, unloaded_more}
use Rattle.elf_layout.proofs.unloaded.place_all_unloaded.Goals as goal

pub returns-in_default-clause-fault : goal.returns-in_default-clause-fault
returns-in_default-clause-fault c =
    let all : List SizedSection = sized_sections c.args.r.now in
    let i : ℕ = c.loop-position.position in
    let found = found_some (slice_get all i) c.section_here-section.result c.section_here-section.ensures in
    unloaded_far c.args.start all c.loop-position.offsets.items c.loop-position.end i found.0 _ found.1 c.loop-position.invariant
    (c.in_default.ensures.far found.0 found.2)

pub loop-position-preserved : goal.loop-position-preserved
loop-position-preserved c =
    let all : List SizedSection = sized_sections c.args.r.now in
    let i : ℕ = c.loop-position.position in
    let found = found_some (slice_get all i) c.section_here-section.result c.section_here-section.ensures in
    unloaded_more c.args.start all c.loop-position.offsets.items c.loop-position.end i found.0 c.in-Some.place.offset
    c.push.new.self.items c.in-Some.place.end
    found.1 c.loop-position.invariant (c.in-Some.ensures.offset found.0 found.2) c.in_ok-push.ensures.items
    (c.in-Some.ensures.end found.0 found.2)

pub returns-clause-offsets : goal.returns-clause-offsets
returns-clause-offsets c =
    (unloaded_all c.args.start (sized_sections c.args.r.now) c.loop-position.offsets.items c.loop-position.end c.loop-position.position
    (omega (arith, c.section_count-position-end.ensures, c.loop-position-test.false)) c.loop-position.invariant).0

pub returns-clause-end : goal.returns-clause-end
returns-clause-end c =
    (unloaded_all c.args.start (sized_sections c.args.r.now) c.loop-position.offsets.items c.loop-position.end c.loop-position.position
    (omega (arith, c.section_count-position-end.ensures, c.loop-position-test.false)) c.loop-position.invariant).1
