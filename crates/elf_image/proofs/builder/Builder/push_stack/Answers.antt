use Rattle.std.proofs.Common.{◌≡◌, ◌++◌, ◌∷◌, [], ◌∙◌, List, None, ap, map, subst, sym}
use Rattle.std.specs.Prelude.{is_some}
use Rattle.elf_format.specs.declared.constants.TheConstants.{PT_GNU_STACK, PT_INTERP}
use Rattle.elf_format.specs.declared.records.SegmentHeader.{SegmentHeader}
use Rattle.elf_format.specs.File.{segment_of_type}
use Rattle.elf_format.specs.Image.{Image}
use Rattle.elf_image.specs.BuilderModel.{image_model}
use Rattle.elf_image.specs.Edited.{AreSegments, IsEdited}
use Rattle.elf_image.specs.ImageModel.{segment_model}
use Rattle.elf_image_headers.specs.Segments.{with_stack_added}
use Rattle.elf_image.proofs.Kept.{with_segments}
use Rattle.std.proofs.lemmas.List.{map-append}
use Rattle.elf_image_headers.specs.declared.segment.Segment.{Segment}
use Rattle.elf_image.proofs.SegmentsKept.{segments_pushed, type_added}
use Rattle.elf_image.proofs.builder.Builder.push_stack.Goals as goal

pub invariant_of-self : goal.invariant_of-self
invariant_of-self c = (
  subst (λ (ps : List Segment). IsEdited (record (image_model c.self.inside) { segments = map segment_model ps })) (sym c.in_err-push.ensures.items) c.self.invariant.0,
  c.self.invariant.1,
)

pub invariant_of-self-2 : goal.invariant_of-self-2
invariant_of-self-2 c =
    let old : List SegmentHeader = map segment_model c.self.inside.segments.items in
    let changes : map segment_model c.push.new.self.items ≡ with_stack_added c.args.flags old =
    ap (map segment_model) c.in_ok-push.ensures.items ∙ map-append segment_model c.self.inside.segments.items (c.added_stack.result ∷ []) ∙ ap (λ (p : SegmentHeader). old ++ p ∷ []) c.added_stack.ensures in
    let none : segment_of_type PT_GNU_STACK old ≡ None = subst (λ (i : Image). segment_of_type PT_GNU_STACK i.segments ≡ None) (sym c.self.view_is) c.requires in (
      with_segments (image_model c.self.inside) c.self.inside.page_size (map segment_model c.push.new.self.items) c.self.invariant.0
          (λ table read h. subst (λ (ps : List SegmentHeader). AreSegments table c.self.inside.page_size read ps) (sym changes) (segments_pushed table c.self.inside.page_size c.args.flags read old none h))
          (ap (λ (ps : List SegmentHeader). is_some (segment_of_type PT_INTERP ps)) changes ∙ type_added c.args.flags old),
      c.self.invariant.1,
    )
