use Rattle.std.proofs.Common.{◌+◌, get_or, ℕ, Bool, length, sym, ap, ◌∙◌, arith}
use Rattle.std.proofs.lemmas.List.{get_or_default, take_all}
use Rattle.elf_format.specs.Records.{file_header_size}
use Rattle.elf_format.specs.declared.records.SegmentHeader.{SegmentHeader}
use Rattle.elf_layout_plan.specs.Added.{keeps_range}
use Rattle.elf_layout_plan.specs.Memory.{Resized}
use Rattle.elf_layout_segments.specs.declared.anchors.AnchorAt.{AnchorAt}
use Rattle.elf_layout_segments.specs.declared.anchors.AnchorAt.TheVariants as at
use Rattle.elf_layout_segments.specs.SplitCounts.{end_with, keeps_at, kept_end_over}
use Rattle.elf_layout_segments.specs.AnchorPositions.{AnchorPosition}
use Rattle.elf_layout_segments.proofs.SplitSteps.{keeps-is, kept_end-all, kept_end-more, kept_end-none, anchor-at, anchors-length}
use Rattle.elf_layout_segments.proofs.anchors.kept_end.Goals as goal

pub loop-i-init : goal.loop-i-init
loop-i-init c = c.file_header_size-end.ensures ∙ ap file_header_size c.form.ensures ∙ sym (kept_end-none c.args.r.now c.args.moved.now)

pub segment_at-requires : goal.segment_at-requires
segment_at-requires c = omega (arith, anchors-length c.args.r.now c.args.anchors.now c.requires.anchors)

pub loop-i-preserved : goal.loop-i-preserved
loop-i-preserved c =
    let r : Resized = c.args.r.now in
    let p : SegmentHeader = c.segment_at.result in
    let size : ℕ = length r.image.source in
    let l : AnchorAt = get_or c.args.anchors.now c.loop-i.i at.Itself in
    c.next_end-end.ensures
    ∙ ap (λ (k : AnchorPosition). end_with (keeps_at r c.args.marks.now c.in_ok-starts.starts c.args.headers p k) (p.p_offset + p.p_filesz) size c.loop-i.end)
    (anchor-at r c.args.anchors.now c.requires.anchors c.loop-i.i l p (get_or_default c.args.anchors.now c.loop-i.i at.Itself l c.loop-i-test.true) c.segment_at.ensures)
    ∙ ap (λ (b : Bool). end_with b (p.p_offset + p.p_filesz) size c.loop-i.end)
    (keeps-is r c.args.moved.now c.args.marks.now c.in_ok-starts.starts c.args.headers c.sections_have_sizes.ensures c.requires.marks c.in_ok-starts.ensures c.requires.headers p)
    ∙ ap (end_with (keeps_range r c.args.moved.now p) (p.p_offset + p.p_filesz) size) c.loop-i.invariant
    ∙ sym (kept_end-more r c.args.moved.now c.loop-i.i p c.segment_at.ensures)

pub returns : goal.returns
returns c =
    let r : Resized = c.args.r.now in
    c.loop-i.invariant
    ∙ ap (kept_end_over r c.args.moved.now) (take_all c.loop-i.i r.image.segments (omega (arith, anchors-length r c.args.anchors.now c.requires.anchors)))
    ∙ sym (kept_end-all r c.args.moved.now)
