use Rattle.std.proofs.Common.{sym, ◌∙◌}
use Rattle.macho_image.proofs.CommandLaws.{has_narrow_sections, has_wide_sections}
use Rattle.macho_image.proofs.one_command.lower_by_command.Goals as goal

pub lower_by_segment-requires : goal.lower_by_segment-requires
lower_by_segment-requires c =
    let has = has_narrow_sections c.args.order c.args.command.now c.requires (sym c.number32.ensures ∙ c.in-1.is) in
    record { fixed = has.0; sections = has.1 }

pub lower_by_segment-requires-in-25 : goal.lower_by_segment-requires-in-25
lower_by_segment-requires-in-25 c =
    let has = has_wide_sections c.args.order c.args.command.now c.requires (sym c.number32.ensures ∙ c.in-25.is) in
    record { fixed = has.0; sections = has.1 }
