-- One library after another.
use Rattle.std.proofs.Common.{ℕ, List, ap, map, ◌∙◌}
use Rattle.elf_format.specs.Versions.{NeedNumbers}
use Rattle.elf_image_flaws.proofs.FlawSteps.{pushed_all}
use Rattle.elf_image_flaws.proofs.versions.push_needed.Goals as goal

pub loop-need-preserved : goal.loop-need-preserved
loop-need-preserved c =
    let f : NeedNumbers → List ℕ = λ n. map (λ v. v.index) n.versions in
    pushed_all c.args.needs.now c.loop-need.need-index c.need-item.result c.loop-need.known.items c.args.known.now.items c.push_indices.new.known.items f
    (map (λ v. v.index) c.deref.result.now) c.loop-need-test.true c.in_ok-push_indices.ensures
    (ap (map (λ v. v.index)) c.deref.ensures.value ∙ ap f (c.need.view_is ∙ c.need-item.is)) c.loop-need.invariant
