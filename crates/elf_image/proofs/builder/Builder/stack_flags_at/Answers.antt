-- The first program header for the stack gets the flags that are written last.
use Rattle.std.proofs.Common.{◌≡◌, ◌∙◌, ◌<◌, ℕ, length, arith, List, Some, true, ap, map, refl, subst, sym, slice_set, option_map}
use Rattle.std.specs.Prelude.{is_some, position}
use Rattle.elf_format.specs.declared.records.SegmentHeader.{SegmentHeader}
use Rattle.elf_format.specs.Image.{Image}
use Rattle.elf_format.specs.declared.constants.TheConstants.{PT_GNU_STACK, PT_INTERP}
use Rattle.elf_image.specs.File.{segment_of_type}
use Rattle.elf_image.specs.BuilderModel.{image_model}
use Rattle.elf_image.specs.Edited.{AreSegments}
use Rattle.elf_image.specs.ImageModel.{segment_model}
use Rattle.elf_image_headers.specs.LendingFlags.{with_flags}
use Rattle.elf_image_headers.specs.Segments.{with_stack_flags}
use Rattle.elf_image_headers.proofs.ForCallers.EditSteps.{first_seen, flags_set, is_stack, place_within}
use Rattle.elf_image.proofs.Kept.{with_segments}
use Rattle.elf_image.proofs.LookupSteps.{position-map}
use Rattle.elf_image.proofs.SegmentsKept.{segments_flagged, type_flagged}
use Rattle.elf_image.proofs.builder.Builder.stack_flags_at.Goals as goal

pub index_mut-requires : goal.index_mut-requires
index_mut-requires c =
    let found = sym (position-map segment_model is_stack c.self.inside.segments.items) ∙ ap (λ (i : Image). position is_stack i.segments) c.self.view_is ∙ c.requires in
    let within : c.args.at < length c.self.inside.segments.items = place_within segment_model c.self.inside.segments.items c.args.at found in
    omega (arith, within, c.self.inside.segments.ok.0)

pub invariant_of-self-lent : goal.invariant_of-self-lent
invariant_of-self-lent c w =
    let old : List SegmentHeader = map segment_model c.self.inside.segments.items in
    let found = sym (position-map segment_model is_stack c.self.inside.segments.items) ∙ ap (λ (i : Image). position is_stack i.segments) c.self.view_is ∙ c.requires in
    let changes = flags_set segment_model c.self.inside.segments.items c.args.at c.index_mut.result.now c.index_mut.ensures.value found (with_flags c.index_mut.result.now w) w refl in (
      with_segments (image_model c.self.inside) c.self.inside.page_size (map segment_model (slice_set c.self.inside.segments.items c.args.at (with_flags c.index_mut.result.now w))) c.self.invariant.0
          (λ table read h. subst (λ (ps : List SegmentHeader). AreSegments table c.self.inside.page_size read ps) (sym changes) (segments_flagged table c.self.inside.page_size w read old h))
          (ap (λ (ps : List SegmentHeader). is_some (segment_of_type PT_INTERP ps)) changes ∙ type_flagged PT_INTERP w old),
      c.self.invariant.1,
    )

pub returns : goal.returns
returns c =
    let found = sym (position-map segment_model is_stack c.self.inside.segments.items) ∙ ap (λ (i : Image). position is_stack i.segments) c.self.view_is ∙ c.requires in
    let old : List SegmentHeader = map segment_model c.self.inside.segments.items in
    let changes : (w : ℕ) → map segment_model (slice_set c.self.inside.segments.items c.args.at (with_flags c.index_mut.result.now w)) ≡ with_stack_flags w old = λ w. flags_set segment_model c.self.inside.segments.items c.args.at c.index_mut.result.now c.index_mut.ensures.value found (with_flags c.index_mut.result.now w) w refl in (
      (
        refl,
        λ w. ap (λ (ps : List SegmentHeader). record (image_model c.self.inside) { changed = true; segments = ps }) (changes w)
            ∙ ap (λ (i : Image). record i { changed = true; segments = with_stack_flags w i.segments }) c.self.view_is,
      ),
      record {
        lends = tt;
        value = ap Some c.flags_mut.ensures.value
            ∙ sym (ap (option_map (λ (p : SegmentHeader). p.p_flags)) (first_seen segment_model c.self.inside.segments.items c.args.at c.index_mut.result.now c.index_mut.ensures.value found))
            ∙ ap (λ (i : Image). option_map (λ (p : SegmentHeader). p.p_flags) (segment_of_type PT_GNU_STACK i.segments)) c.self.view_is;
      },
    )
