-- The lesser of what was found and of what the sections that are left give is that of all sections.
use Rattle.std.proofs.Common.{◌≡◌, ◌*◌, ◌-◌, ◌≤◌, length}
use Rattle.macho_image.specs.Command.{sections_content}
use Rattle.macho_image.specs.Commands.{least}
use Rattle.macho_image.specs.Layout.{form_of_layout}
use Rattle.macho_image.proofs.segment.SegmentLayout.lower_by_sections.Given as goal

abbrev pub invariant-loop-i : goal.invariant-loop-i
invariant-loop-i l = record {
  room : l.self.section * (l.count - l._i) ≤ length l.rest;
  least_left : least l.first (sections_content (form_of_layout l.self) l.order (l.count - l._i) l.rest) ≡ least l.fn.so_far (sections_content (form_of_layout l.self) l.order l.count l.fn.sections);
}
