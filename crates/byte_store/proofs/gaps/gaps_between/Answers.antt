use Rattle.std.proofs.Common.{◌≡◌, ◌+◌, ◌++◌, ◌∙◌, List, ap, drop, get_or, max, min, sym, ℕ}
use Rattle.std.proofs.lemmas.List.{drop_more}
use Rattle.byte_store.specs.Gaps.{gap, gaps_from}
use Rattle.byte_store.specs.declared.composed.Span.{Span}
use Rattle.byte_store.proofs.GapLaws.{done_rest, done_within, from_done, from_next}
use Rattle.byte_store.proofs.gaps.gaps_between.Goals as goal

abbrev none : Span
none = record { start = 0; end = 0 }

pub loop-span-preserved : goal.loop-span-preserved
loop-span-preserved c =
    let spans = c.args.spans.now in
    let i = c.loop-span.span-index in
    let at = c.loop-span.at in
    let before = c.loop-span.gaps.items in
    let made = c.push_gap.new.gaps.items in
    let size = c.args.size in
    let span : Span = get_or spans i none in
    let rest : List Span = drop (i + 1) spans in
    let pushed : made ≡ before ++ gap at (min span.start size) = c.in_ok-push_gap.ensures ∙ ap (λ (n : ℕ). before ++ gap at n) c.min-start.ensures in
    let next : c.max-at.result ≡ max (max at (min span.start size)) span.end =
    c.max-at.ensures ∙ ap (λ (n : ℕ). max n span.end) (c.max.ensures ∙ ap (max at) c.min-start.ensures) in
    ap (λ (n : ℕ). made ++ gaps_from size n rest) next
    ∙ from_next size at span rest before made pushed
    ∙ ap (λ (xs : List Span). before ++ gaps_from size at xs) (sym (drop_more spans i none c.loop-span-test.true))
    ∙ c.loop-span.invariant

pub returns-clause-within : goal.returns-clause-within
returns-clause-within c =
    done_within c.args.size c.args.spans.now c.push_gap-2.new.gaps.items
    (from_done c.args.size c.loop-span.at c.loop-span.span-index c.args.spans.now c.loop-span.gaps.items _ c.loop-span-test.false c.loop-span.invariant c.in_ok-push_gap-2.ensures)

pub returns-clause-rest : goal.returns-clause-rest
returns-clause-rest c =
    done_rest c.args.size c.args.spans.now c.push_gap-2.new.gaps.items c.requires
    (from_done c.args.size c.loop-span.at c.loop-span.span-index c.args.spans.now c.loop-span.gaps.items _ c.loop-span-test.false c.loop-span.invariant c.in_ok-push_gap-2.ensures)
