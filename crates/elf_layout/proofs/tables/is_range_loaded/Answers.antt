use Rattle.std.proofs.Common.{◌∙◌, map, sym}
use Rattle.std.proofs.lemmas.List.{length-map}
use Rattle.elf_format.specs.declared.range.Range.{Range}
use Rattle.elf_image.specs.ImageModel.{segment_model}
use Rattle.elf_layout.proofs.GreatestSteps.{segment_of}
use Rattle.elf_layout.proofs.TableSteps.{end_over, found_over, more_over}
use Rattle.elf_layout.proofs.tables.is_range_loaded.Goals as goal

pub returns-then-has_range : goal.returns-then-has_range
returns-then-has_range c =
    let part : Range = record { start = c.args.start; size = c.args.size } in
    found_over part (map segment_model c.args.segments.now) c.loop-segment.segment-index _
    (segment_of c.args.segments.now c.loop-segment.segment-index _ c.loop-segment-test.true)
    (sym c.has_range.ensures ∙ c.if-has_range.true) c.loop-segment.invariant

pub loop-segment-preserved : goal.loop-segment-preserved
loop-segment-preserved c =
    let part : Range = record { start = c.args.start; size = c.args.size } in
    more_over part (map segment_model c.args.segments.now) c.loop-segment.segment-index _
    (segment_of c.args.segments.now c.loop-segment.segment-index _ c.loop-segment-test.true)
    (sym c.has_range.ensures ∙ c.if-has_range.false) c.loop-segment.invariant

pub returns : goal.returns
returns c =
    let part : Range = record { start = c.args.start; size = c.args.size } in
    end_over part (map segment_model c.args.segments.now) c.loop-segment.segment-index (rw length-map c.loop-segment-test.false)
    c.loop-segment.invariant
