use Rattle.std.proofs.Common.{◌+◌, ◌++◌, ◌∙◌, ℕ, List, ap, get_or, map, refl, take}
use Rattle.std.proofs.lemmas.List.{append-nil}
use Rattle.elf_format.specs.declared.range.Range.{Range}
use Rattle.elf_layout_segments.specs.declared.anchors.AnchorAt.{AnchorAt}
use Rattle.elf_layout_segments.specs.declared.anchors.AnchorAt.TheVariants as at
use Rattle.elf_layout_segments.specs.AnchorPositions.{anchor_model}
use Rattle.elf_layout_segments.specs.Forecasts.{parts_of}
use Rattle.elf_layout_segments.proofs.ForecastSteps.{parts_more, parts_passed, stretch_next, stretch_passed}
use Rattle.elf_layout_segments.proofs.forecasts.stretches_of.Goals as goal
use Rattle.elf_layout_segments.proofs.forecasts.stretches_of.Goals.{in-Notes+in_ok-push, in_default}

pub loop-anchor-preserved : goal.loop-anchor-preserved
loop-anchor-preserved c =
    let anchors : List AnchorAt = c.args.anchors.now in
    let i : ℕ = c.loop-anchor.anchor-index in
    let parts : List Range = parts_of (map anchor_model (take i anchors)) in
    let all : List Range = parts_of (map anchor_model (take (i + 1) anchors)) in
    elim c.match-anchor.branch [
      | in-Notes+in_ok-push w ↦
          stretch_next c.args.begins.now parts all w.in-Notes.part c.loop-anchor.made.items c.match-anchor.made.items w.stretch_in.result
          (parts_more anchors i (at.Notes w.in-Notes.part) c.loop-anchor-test.true w.in-Notes.is) (ap (λ v. v.items) w.made-is ∙ w.in_ok-push.ensures.items) w.stretch_in.ensures c.loop-anchor.invariant
      | in_default w ↦
          stretch_passed c.args.begins.now parts all c.loop-anchor.made.items c.match-anchor.made.items
          (parts_more anchors i (get_or anchors i at.Itself) c.loop-anchor-test.true refl ∙ ap (λ (l : List Range). parts ++ l) (parts_passed (get_or anchors i at.Itself) w.in_default.not-Notes) ∙ append-nil parts)
          (ap (λ v. v.items) w.made-is) c.loop-anchor.invariant
    ]
