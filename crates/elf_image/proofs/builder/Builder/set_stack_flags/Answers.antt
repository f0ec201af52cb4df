use Rattle.std.proofs.Common.{◌∙◌, List, ap, map, subst, sym}
use Rattle.std.specs.Prelude.{is_some}
use Rattle.elf_format.specs.declared.constants.TheConstants.{PT_INTERP}
use Rattle.elf_format.specs.File.{segment_of_type}
use Rattle.elf_format.specs.declared.records.SegmentHeader.{SegmentHeader}
use Rattle.elf_image.specs.BuilderModel.{image_model}
use Rattle.elf_image.specs.Edited.{AreSegments}
use Rattle.elf_image.specs.ImageModel.{segment_model}
use Rattle.elf_image.proofs.Kept.{with_segments}
use Rattle.elf_image.proofs.SegmentsKept.{segments_flagged, type_flagged}
use Rattle.elf_image.proofs.builder.Builder.set_stack_flags.Goals as goal

pub invariant_of-self : goal.invariant_of-self
invariant_of-self c =
    let old : List SegmentHeader = map segment_model c.self.inside.segments.items in (
      with_segments (image_model c.self.inside) c.self.inside.page_size (map segment_model c.flag_stack.new.segments.items) c.self.invariant.0
          (λ table read h. subst (λ (ps : List SegmentHeader). AreSegments table c.self.inside.page_size read ps) (sym c.flag_stack.ensures) (segments_flagged table c.self.inside.page_size c.args.flags read old h))
          (ap (λ (ps : List SegmentHeader). is_some (segment_of_type PT_INTERP ps)) c.flag_stack.ensures ∙ type_flagged PT_INTERP c.args.flags old),
      c.self.invariant.1,
    )
