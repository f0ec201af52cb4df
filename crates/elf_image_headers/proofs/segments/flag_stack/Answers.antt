use Rattle.std.proofs.Common.{◌∙◌, List, ap, map, refl, sym}
use Rattle.std.specs.Prelude.{position}
use Rattle.elf_image_headers.specs.declared.segment.Segment.{Segment}
use Rattle.elf_image_headers.specs.PartModels.{segment_model}
use Rattle.elf_image_headers.proofs.EditSteps.{flags_set, is_stack, none_flagged, none_seen}
use Rattle.elf_image_headers.proofs.segments.flag_stack.Goals as goal

pub returns-in_default : goal.returns-in_default
returns-in_default c =
    let found = ap (λ (ps : List Segment). position (λ p. is_stack (segment_model p)) ps) (sym c.deref.ensures.value) ∙ sym c.stack_position.ensures ∙ c.in_default.is in
    sym (none_flagged c.args.flags (map segment_model c.args.segments.now.items) (none_seen segment_model c.args.segments.now.items found))

pub returns : goal.returns
returns c =
    let found = ap (λ (ps : List Segment). position (λ p. is_stack (segment_model p)) ps) (sym c.deref.ensures.value) ∙ sym c.stack_position.ensures ∙ c.in-Some.is in
    flags_set segment_model c.args.segments.now.items c.in-Some.at c.index_mut-segment.result.now c.index_mut-segment.ensures.value found _ c.args.flags refl
