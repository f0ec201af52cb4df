use Rattle.std.proofs.Common.{rules}
use Rattle.std.proofs.lemmas.List.Sorted.{IsNonDecreasingBy-from_sort_by_key}
use Rattle.std.proofs.lemmas.Result.{IfOk-weaker}
use Rattle.byte_store.specs.Gaps.{HasRest}
use Rattle.byte_store.proofs.GapLaws.{rest_sorted}
use Rattle.byte_store.proofs.gaps.gaps.Goals as goal

pub gaps_between-requires : goal.gaps_between-requires
gaps_between-requires c =
    IsNonDecreasingBy-from_sort_by_key (λ span. span.start) _ c.sort_unstable_by_key.ensures.sorted (λ a r q k. search rules)

pub returns-clause-rest : goal.returns-clause-rest
returns-clause-rest c =
    let spans = c.args.spans.now in
    let sorted = c.sort_unstable_by_key.new.self in
    let size = c.args.size in
    IfOk-weaker c.gaps_between.result (λ gaps. HasRest size sorted gaps.items) (λ gaps. HasRest size spans gaps.items)
    (λ gaps rest. rest_sorted size spans sorted gaps.items c.sort_unstable_by_key.ensures.permutation rest)
    c.gaps_between.ensures.rest
