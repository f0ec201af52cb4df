use Rattle.std.proofs.Common.{List, subst}
use Rattle.std.specs.Prelude.{IfOk}
use Rattle.std.proofs.lemmas.Result.{IfOk-weaker}
use Rattle.byte_store.specs.Laid.{patches_of}
use Rattle.byte_store.specs.Gaps.{AreZeros, HasRest}
use Rattle.byte_store.specs.declared.composed.Span.{Span}
use Rattle.byte_store.proofs.GapLaws.{zeros_are}
use Rattle.byte_store.proofs.gaps.zero_spans.Goals as goal

pub returns-clause-zeros : goal.returns-clause-zeros
returns-clause-zeros c =
    let size = c.args.size in
    let kept = c.args.kept.now in
    let cleared = c.args.cleared.now in
    let patches = patches_of c.args.pieces.now in
    let spans = c.in_ok-held.held.items in
    let held = c.push_spans.new.spans.items in
    let P : List Span → Type 0 = λ spans. IfOk c.gaps.result (λ gaps. HasRest size spans gaps.items) in
    IfOk-weaker c.gaps.result (λ gaps. HasRest size held gaps.items) (λ gaps. AreZeros size kept cleared patches gaps.items)
    (λ gaps rest. zeros_are size kept cleared spans held gaps.items patches c.in_ok-held.ensures c.in_ok-push_spans.ensures rest)
    (subst P c.deref_mut.ensures.value c.gaps.ensures.rest)
