use Rattle.std.proofs.Common.{arith}
use Rattle.macho_image.specs.Layout.{form_of_layout}
use Rattle.macho_image.proofs.ContentLaws.{least_more_sections, room_for_more}
use Rattle.macho_image.proofs.segment.SegmentLayout.lower_by_sections.Goals as goal

pub loop-i-preserved : goal.loop-i-preserved
loop-i-preserved c = record {
  room = room_for_more c.args.self.section c.args.count c.loop-i._i c.loop-i.rest.now (omega arith) c.loop-i.invariant.room;
  least_left = least_more_sections (form_of_layout c.args.self) c.args.order _ c.loop-i.first _ c.args.count c.loop-i._i c.loop-i.rest.now (omega arith) c.loop-i.invariant.least_left c.lower_by_section-first.ensures;
}
