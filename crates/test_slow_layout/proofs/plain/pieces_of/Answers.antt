use Rattle.elf_image.specs.ImageModel.{segment_model}
use Rattle.test_slow_layout.specs.Plain.{piece_with}
use Rattle.test_slow_layout.proofs.Parts.{pieces_more}
use Rattle.test_slow_layout.proofs.plain.pieces_of.Goals as goal

pub loop-segment-preserved : goal.loop-segment-preserved
loop-segment-preserved c =
    pieces_more piece_with segment_model c.args.segments.now c.loop-segment.segment-index _ c.loop-segment.pieces.items c.push.new.self.items c.piece_of.result
    c.loop-segment-test.true c.loop-segment.invariant c.piece_of.ensures c.in_ok-push.ensures.items
