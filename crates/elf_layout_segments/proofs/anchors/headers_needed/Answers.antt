use Rattle.std.proofs.Common.{◌≡◌, ◌+◌, length, ap, ◌∙◌}
use Rattle.std.specs.Prelude.{count_by}
use Rattle.elf_layout_plan.specs.Anchors.{is_split}
use Rattle.elf_layout_plan.specs.Rounds.{added_flags, headers_needed}
use Rattle.elf_layout_segments.specs.SplitCounts.{is_split_at}
use Rattle.elf_layout_segments.proofs.SplitSteps.{splits-are}
use Rattle.elf_layout_segments.proofs.anchors.headers_needed.Goals as goal

pub returns : goal.returns
unfolding headers_needed
returns c =
    let splits : c.count_split.result ≡ count_by (is_split c.args.r.now c.args.moved.now) c.args.r.now.image.segments =
    c.count_split.ensures ∙ ap (count_by (is_split_at c.in_ok-starts.starts)) c.requires.anchors
    ∙ splits-are c.args.r.now c.args.moved.now c.args.marks.now c.sections_have_sizes.ensures c.requires.marks c.in_ok-starts.starts c.in_ok-starts.ensures c.args.r.now.image.segments in
    ap (λ n. n + c.count_split.result) c.in_ok-flags.ensures.count ∙ ap (λ n. length (added_flags c.args.r.now c.args.moved.now) + n) splits
