use Rattle.std.proofs.Common.{◌≡◌, ◌∙◌, List, Some, ap, map, subst, sym}
use Rattle.std.specs.Prelude.{is_some}
use Rattle.elf_format.specs.declared.constants.TheConstants.{PT_INTERP}
use Rattle.elf_format.specs.File.{segment_of_type}
use Rattle.elf_format.specs.declared.records.SegmentHeader.{SegmentHeader}
use Rattle.elf_image.specs.BuilderModel.{image_model}
use Rattle.elf_image.specs.Edited.{AreSegments}
use Rattle.elf_image.specs.ImageModel.{segment_model}
use Rattle.elf_image_headers.specs.Segments.{with_load_align}
use Rattle.elf_image.proofs.Kept.{with_segments}
use Rattle.elf_image.proofs.SegmentsKept.{segments_aligned, type_aligned}
use Rattle.elf_image.proofs.builder.Builder.set_load_align.Goals as goal

pub invariant_of-self : goal.invariant_of-self
invariant_of-self c =
    let old : List SegmentHeader = map segment_model c.self.inside.segments.items in
    let changes : with_load_align c.args.size old ≡ map segment_model c.align_loads.new.segments.items = ap (λ n. with_load_align n old) (sym c.from.ensures) ∙ sym c.align_loads.ensures in (
      with_segments (image_model c.self.inside) (Some c.args.size) (map segment_model c.align_loads.new.segments.items) c.self.invariant.0
          (λ table read h. subst (λ (ps : List SegmentHeader). AreSegments table (Some c.args.size) read ps) changes (segments_aligned table c.self.inside.page_size c.args.size read old h))
          (ap (λ (ps : List SegmentHeader). is_some (segment_of_type PT_INTERP ps)) (sym changes) ∙ type_aligned PT_INTERP c.args.size old),
      c.self.invariant.1,
    )
