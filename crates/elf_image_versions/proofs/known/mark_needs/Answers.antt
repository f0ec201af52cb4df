-- The marks of one library after another.
use Rattle.std.proofs.Common.{◌+◌, ℕ, List, drop, map, ap, ◌∙◌}
use Rattle.std.specs.List.{flat_map}
use Rattle.elf_format.specs.Versions.{NeedNumbers}
use Rattle.elf_image_versions.specs.WalkSteps.{marked}
use Rattle.elf_image_versions.proofs.VersionSteps.{marks_done, marks_go}
use Rattle.elf_image_versions.proofs.known.mark_needs.Goals as goal

pub loop-need-preserved : goal.loop-need-preserved
loop-need-preserved c =
    let f : NeedNumbers → List ℕ = λ n. map (λ v. v.index) n.versions in
    ap (marked (flat_map f (drop (c.loop-need.need-index + 1) c.args.needs.now))) (c.mark_names.ensures
    ∙ ap (λ l. marked (map (λ v. v.index) l) c.loop-need.marks) (c.deref.ensures.value ∙ ap (λ (n : NeedNumbers). n.versions) c.need.view_is))
    ∙ marks_go f c.args.needs.now c.loop-need.need-index c.need-item.result c.need-item.result c.loop-need.marks (marked (flat_map f c.args.needs.now) c.args.marks.now) c.loop-need-test.true c.need-item.is
    c.loop-need.invariant

pub returns : goal.returns
returns c =
    let f : NeedNumbers → List ℕ = λ n. map (λ v. v.index) n.versions in
    marks_done f c.args.needs.now c.loop-need.need-index c.loop-need.marks (marked (flat_map f c.args.needs.now) c.args.marks.now) c.loop-need-test.false c.loop-need.invariant
