use Rattle.std.proofs.Common.{◌≡◌, ◌+◌, ◌∙◌, ℕ, List, Option, drop, max, map, sym, ap}
use Rattle.std.specs.Prelude.{slice_get}
use Rattle.std.proofs.lemmas.List.{length-map}
use Rattle.elf_format.specs.File.{is_loaded}
use Rattle.elf_format.specs.declared.records.SegmentHeader.{SegmentHeader}
use Rattle.elf_image.specs.ImageModel.{segment_model}
use Rattle.elf_layout.proofs.GreatestSteps.{greatest_end, greatest_more, greatest_of, segment_of, value_at}
use Rattle.elf_layout.proofs.memory.greatest_align.Goals as goal

abbrev align_of : SegmentHeader → ℕ
align_of p = p.p_align

pub loop-segment-preserved : goal.loop-segment-preserved
loop-segment-preserved c =
    let all : List SegmentHeader = map segment_model c.args.segments.now in
    let i : ℕ = c.loop-segment.segment-index in
    let n : ℕ = c.loop-segment.found in
    let here : c.max-found.result ≡ max (value_at is_loaded align_of (slice_get all i)) n =
    c.max-found.ensures ∙ ap (λ (v : ℕ). max v n) c.load_align.ensures
    ∙ ap (λ (o : Option SegmentHeader). max (value_at is_loaded align_of o) n)
    (sym (segment_of c.args.segments.now i _ c.loop-segment-test.true)) in
    ap (λ (m : ℕ). greatest_of is_loaded align_of m (drop (i + 1) all)) here ∙ sym (greatest_more is_loaded align_of n all i)
    ∙ c.loop-segment.invariant

pub returns : goal.returns
returns c =
    let all : List SegmentHeader = map segment_model c.args.segments.now in
    sym (greatest_end is_loaded align_of c.loop-segment.found all c.loop-segment.segment-index (rw length-map c.loop-segment-test.false))
    ∙ c.loop-segment.invariant
