use Rattle.std.proofs.Common.{ap, ◌∙◌}
use Rattle.elf_layout_plan.specs.Memory.{Resized}
use Rattle.elf_layout_segments.specs.AnchorPositions.{AreAnchors}
use Rattle.elf_layout_segments.specs.AnchorSearch.{searched_lists}
use Rattle.std.proofs.lemmas.Result.{IfOk-weaker}
use Rattle.elf_layout_segments.proofs.AnchorSearchSteps.{anchors-are}
use Rattle.elf_layout_segments.proofs.anchors.anchors.Goals as goal

pub returns : goal.returns
returns c =
    let seen = c.segments.ensures ∙ ap (λ (y : Resized). y.image.segments) c.r.view_is in
    let are = anchors-are c.args.r.now c.segments.result.now seen in
    IfOk-weaker c.anchors_by_lists.result _ (λ anchors. AreAnchors c.args.r.now anchors.items) (λ made h. h ∙ are) (c.anchors_by_lists.ensures (searched_lists c.args.r.now) c.in_ok-lists.ensures)
