use Rattle.std.proofs.Common.{◌≡◌, ℕ, ◌+◌, ◌<◌, ◌++◌, [], ◌∷◌, List, get_or, length, map, sym, take, ap, ◌∙◌}
use Rattle.std.proofs.lemmas.List.{map-append, map_more}
use Rattle.elf_format.specs.declared.records.SegmentHeader.{SegmentHeader}
use Rattle.elf_image.specs.declared.segment.Segment.{Segment}
use Rattle.elf_image.specs.ImageModel.{segment_model}
use Rattle.elf_layout_segments.specs.declared.anchors.AnchorAt.{AnchorAt}
use Rattle.elf_layout_segments.specs.AnchorPositions.{AnchorPosition, anchor_model}
use Rattle.elf_layout_segments.specs.AnchorSearch.{anchor_position_of}
use Rattle.elf_layout_segments.proofs.anchor_search.anchors_by_lists.Goals as goal

one_more : (leads : Segment → AnchorPosition) (segments : List Segment) (i : ℕ) (d : Segment) (made : List AnchorAt) (l : AnchorAt) → map anchor_model made ≡ map leads (take i segments)
    → i < length segments → anchor_model l ≡ leads (get_or segments i d) → map anchor_model (made ++ l ∷ []) ≡ map leads (take (i + 1) segments)
one_more leads segments i d made l so_far within is =
    map-append anchor_model made (l ∷ [])
    ∙ ap (λ (t : AnchorPosition). map anchor_model made ++ t ∷ []) is
    ∙ ap (λ ts. ts ++ leads (get_or segments i d) ∷ []) so_far
    ∙ sym (map_more leads segments i d within)

pub loop-segment-preserved : goal.loop-segment-preserved
loop-segment-preserved c = λ looked are.
    let leads : Segment → AnchorPosition = λ s. anchor_position_of looked (segment_model s) in
    let lead = c.anchor_of.ensures looked are ∙ ap (λ (p : SegmentHeader). anchor_position_of looked p) c.numbers.ensures in
    ap (map anchor_model) c.in_ok-push.ensures.items
    ∙ one_more leads c.args.segments.now c.loop-segment.segment-index _ c.loop-segment.made.items c.anchor_of.result (c.loop-segment.invariant looked are) c.loop-segment-test.true lead
