use Rattle.std.proofs.Common.{sym, ap, ◌∙◌, refl, List, option_map}
use Rattle.std.specs.Prelude.{position}
use Rattle.elf_format.specs.declared.constants.TheConstants.{PT_GNU_STACK}
use Rattle.elf_format.specs.declared.records.SegmentHeader.{SegmentHeader}
use Rattle.elf_format.specs.Image.{Image}
use Rattle.elf_image.specs.File.{segment_of_type}
use Rattle.elf_image_headers.specs.declared.segment.Segment.{Segment}
use Rattle.elf_image.specs.ImageModel.{segment_model}
use Rattle.elf_image_headers.proofs.ForCallers.EditSteps.{is_stack, none_seen}
use Rattle.elf_image.proofs.LookupSteps.{position-map}
use Rattle.elf_image.proofs.builder.Builder.stack_mut.Goals as goal

pub stack_flags_at-requires : goal.stack_flags_at-requires
stack_flags_at-requires c =
    ap (λ (i : Image). position is_stack i.segments) (sym c.self.view_is)
    ∙ position-map segment_model is_stack c.self.inside.segments.items
    ∙ ap (λ (ps : List Segment). position (λ p. is_stack (segment_model p)) ps) (sym c.deref.ensures.value) ∙ sym c.stack_position.ensures ∙ c.in-Some.is

pub returns-in-Some : goal.returns-in-Some
returns-in-Some c = (refl, record { lends = tt; value = c.stack_flags_at.ensures.value })

pub returns-in-None : goal.returns-in-None
returns-in-None c = (
  refl,
  record {
    lends = tt;
    value = ap (option_map (λ (p : SegmentHeader). p.p_flags))
        (sym (none_seen segment_model c.self.inside.segments.items (ap (λ (ps : List Segment). position (λ p. is_stack (segment_model p)) ps) (sym c.deref.ensures.value) ∙ sym c.stack_position.ensures ∙ c.in-None.is)))
        ∙ ap (λ (i : Image). option_map (λ (p : SegmentHeader). p.p_flags) (segment_of_type PT_GNU_STACK i.segments)) c.self.view_is;
  },
)
