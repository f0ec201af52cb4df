use Rattle.std.proofs.Common.{List, subst}
use Rattle.std.specs.Prelude.{IfOk}
use Rattle.std.proofs.lemmas.Result.{IfOk-weaker}
use Rattle.byte_store.specs.Gaps.{AreKept, HasRest}
use Rattle.byte_store.specs.declared.composed.Span.{Span}
use Rattle.byte_store.proofs.GapLaws.{kept_are}
use Rattle.byte_store.proofs.gaps.kept_spans.Goals as goal

pub returns : goal.returns
returns c =
    let size = c.args.size in
    let kept = c.args.kept.now in
    let cleared = c.args.cleared.now in
    let unkept = c.in_ok-lost.lost.items in
    let lost = c.extend_from_slice.new.self.items in
    let P : List Span → Type 0 = λ spans. IfOk c.gaps.result (λ gaps. HasRest size spans gaps.items) in
    IfOk-weaker c.gaps.result (λ gaps. HasRest size lost gaps.items) (λ gaps. AreKept size kept cleared gaps.items)
    (λ gaps rest. kept_are size kept cleared unkept lost gaps.items c.in_ok-lost.ensures c.in_ok-extend_from_slice.ensures.items rest)
    (subst P c.deref_mut.ensures.value c.gaps.ensures.rest)
