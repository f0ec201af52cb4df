use Rattle.std.proofs.Common.{◌≡◌, ◌∙◌, List, Option, ap, map, subst, sym, true}
use Rattle.elf_format.specs.Image.{Image}
use Rattle.elf_format.specs.declared.records.SegmentHeader.{SegmentHeader}
use Rattle.elf_image.specs.BuilderModel.{image_model}
use Rattle.elf_image.specs.Edited.{IsEdited}
use Rattle.elf_image.specs.ImageModel.{segment_model}
use Rattle.elf_image.specs.Leave.{spare_facts, with_dynamic_move}
use Rattle.elf_image.specs.declared.builder.Builder.TheInside.{Inside}
use Rattle.elf_image_headers.specs.declared.segment.Segment.{Segment}
use Rattle.elf_image_headers.specs.declared.spare.SpareFrom.{SpareFrom}
use Rattle.elf_image_headers.specs.Spare.{segments_reclaimed}
use Rattle.elf_image_headers.specs.SpareFrom.{left, reclaimable}
use Rattle.elf_image_headers.proofs.ForCallers.SpareSteps.{left_is}
use Rattle.elf_image.proofs.SegmentsReclaimed.{dynamic_moves}
use Rattle.elf_image.proofs.builder.Builder.allow_dynamic_move.Goals as goal

-- the program headers that are left
left_so : (b : Inside) (image : Image) (from : Option SpareFrom) (now : List Segment) → image_model b ≡ image → from ≡ reclaimable (spare_facts image)
    → map segment_model now ≡ left from (map segment_model b.segments.items) → map segment_model now ≡ segments_reclaimed (spare_facts (image_model b))
left_so b image from now seen is leaves =
    leaves ∙ ap (λ (o : Option SpareFrom). left o (map segment_model b.segments.items)) (is ∙ ap (λ (i : Image). reclaimable (spare_facts i)) (sym seen))
    ∙ left_is (spare_facts (image_model b))

abbrev with_them : Image → List SegmentHeader → Image
with_them image ps = record image { changed = true; segments = ps; moves_dynamic = true }

pub invariant_of-self : goal.invariant_of-self
invariant_of-self c =
    let changes = left_so c.self.inside c.args.self.now c.spare_from-from.result c.reclaim.new.segments.items c.self.view_is c.spare_from-from.ensures c.reclaim.ensures in (
      subst (λ (ps : List SegmentHeader). IsEdited (with_them (image_model c.self.inside) ps)) (sym changes) (dynamic_moves (image_model c.self.inside) c.self.invariant.0),
      c.self.invariant.1,
    )

pub returns : goal.returns
returns c =
    let changes = left_so c.self.inside c.args.self.now c.spare_from-from.result c.reclaim.new.segments.items c.self.view_is c.spare_from-from.ensures c.reclaim.ensures in
    ap (λ (ps : List SegmentHeader). with_them (image_model c.self.inside) ps) changes ∙ ap with_dynamic_move c.self.view_is
