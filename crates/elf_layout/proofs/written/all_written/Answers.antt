use Rattle.std.proofs.Common.{◌≡◌, get_or, ◌*◌, ◌++◌, ℕ, List, map, sym, ap, ◌∙◌, arith}
use Rattle.std.specs.List.{flat_map}
use Rattle.std.proofs.lemmas.List.{get_or_default, take_all}
use Rattle.elf_format.specs.declared.records.SegmentHeader.{SegmentHeader}
use Rattle.elf_format.specs.Places.{Place}
use Rattle.elf_format.specs.Records.{segment_header_size}
use Rattle.elf_layout_plan.specs.Added.{header_count}
use Rattle.elf_layout_plan.specs.Anchors.{anchor_of}
use Rattle.elf_layout_plan.specs.Memory.{Resized}
use Rattle.elf_layout_plan.specs.PlanModel.{place_model}
use Rattle.elf_layout_plan.specs.Written.{written_from}
use Rattle.elf_layout_segments.specs.declared.anchors.AnchorAt.{AnchorAt}
use Rattle.elf_layout_segments.specs.declared.anchors.AnchorAt.TheVariants as at
use Rattle.elf_layout_segments.specs.AnchorPositions.{AnchorPosition, anchor_model, anchor_position}
use Rattle.elf_layout.specs.Targets.{Begins, begins_model, do_headings_fit}
use Rattle.elf_layout_segments.proofs.ForCallers.{anchor-at, anchors-length}
use Rattle.elf_layout.proofs.WrittenSteps.{heading_past, heading_written, stands_too_far, written-more}
use Rattle.elf_layout.proofs.written.all_written.Goals as goal

pub segment_at-p-requires : goal.segment_at-p-requires
segment_at-p-requires c = omega (arith, anchors-length c.args.r.now c.args.anchors.now c.requires.anchors)

pub loop-i-preserved : goal.loop-i-preserved
loop-i-preserved c =
    let r : Resized = c.args.r.now in
    let moved : List ℕ = c.args.moved.now in
    let p : SegmentHeader = c.segment_at-p.result in
    let all : List Place = map place_model c.args.places.now in
    let size : ℕ = c.args.headers * c.segment_header_size.result in
    let l : AnchorAt = get_or c.args.anchors.now c.loop-i.i at.Itself in
    let k : AnchorPosition = anchor_model l in
    let begins : Begins = begins_model c.in_ok-notes.notes in
    let lead : k ≡ anchor_position p (anchor_of r.read r.image p) = anchor-at r c.args.anchors.now c.requires.anchors c.loop-i.i l p (get_or_default c.args.anchors.now c.loop-i.i at.Itself l c.loop-i-test.true) c.segment_at-p.ensures in
    let sized : size ≡ header_count r moved * segment_header_size r.image.form =
    ap (λ n. n * c.segment_header_size.result) c.requires.headers ∙ ap (λ n. header_count r moved * n) (c.segment_header_size.ensures ∙ ap segment_header_size c.form-form.ensures) in
    c.in-Ok.ensures.0
    ∙ ap (λ l. c.loop-i.made.items ++ l) (heading_written r moved c.args.marks.now c.sections_have_sizes.ensures c.requires.marks begins c.in_ok-notes.ensures.begins c.form-form.result all size k p c.form-form.ensures c.requires.places sized lead)
    ∙ ap (λ l. l ++ written_from r moved p) c.loop-i.invariant ∙ sym (written-more r moved c.loop-i.i p c.segment_at-p.ensures)

pub returns-in-Err-clause-fault : goal.returns-in-Err-clause-fault
returns-in-Err-clause-fault c =
    let r : Resized = c.args.r.now in
    let moved : List ℕ = c.args.moved.now in
    let p : SegmentHeader = c.segment_at-p.result in
    let all : List Place = map place_model c.args.places.now in
    let size : ℕ = c.args.headers * c.segment_header_size.result in
    let l : AnchorAt = get_or c.args.anchors.now c.loop-i.i at.Itself in
    let k : AnchorPosition = anchor_model l in
    let begins : Begins = begins_model c.in_ok-notes.notes in
    let lead : k ≡ anchor_position p (anchor_of r.read r.image p) = anchor-at r c.args.anchors.now c.requires.anchors c.loop-i.i l p (get_or_default c.args.anchors.now c.loop-i.i at.Itself l c.loop-i-test.true) c.segment_at-p.ensures in
    let sized : size ≡ header_count r moved * segment_header_size r.image.form =
    ap (λ n. n * c.segment_header_size.result) c.requires.headers ∙ ap (λ n. header_count r moved * n) (c.segment_header_size.ensures ∙ ap segment_header_size c.form-form.ensures) in
    stands_too_far r moved (do_headings_fit c.form-form.result all begins size p k) c.in-Err.fault c.in-Err.ensures
    (heading_past r moved c.args.marks.now c.sections_have_sizes.ensures c.requires.marks begins c.in_ok-notes.ensures.begins c.form-form.result all size k p c.form-form.ensures c.requires.places sized lead c.loop-i.i c.segment_at-p.ensures)

pub returns-clause-written : goal.returns-clause-written
returns-clause-written c =
    let r : Resized = c.args.r.now in
    c.loop-i.invariant ∙ ap (flat_map (written_from r c.args.moved.now)) (take_all c.loop-i.i r.image.segments (omega (arith, anchors-length r c.args.anchors.now c.requires.anchors)))
