use Rattle.std.proofs.Common.{◌∙◌, List, subst}
use Rattle.std.specs.Prelude.{IfOk}
use Rattle.byte_store.specs.Gaps.{HasRest}
use Rattle.byte_store.specs.declared.composed.Span.{Span}
use Rattle.byte_store.proofs.gaps.lost_spans.Goals as goal

pub returns : goal.returns
returns c =
    let P : List Span → Type 0 = λ spans. IfOk c.gaps.result (λ gaps. HasRest c.args.size spans gaps.items) in
    subst P (c.deref_mut.ensures.value ∙ c.in_ok-spans.ensures.items) c.gaps.ensures.rest
