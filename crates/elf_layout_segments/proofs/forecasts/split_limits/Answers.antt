use Rattle.std.proofs.Common.{List, rules, subst, sym}
use Rattle.std.specs.Prelude.{IsPermutation}
use Rattle.std.specs.List.Sorted.{IsNonDecreasingBy}
use Rattle.std.proofs.lemmas.List.Sorted.{IsNonDecreasingBy-from_sort_by_key}
use Rattle.elf_layout_segments.specs.declared.forecasts.Limited.{Limited}
use Rattle.elf_layout_segments.specs.Forecasts.{limited_at}
use Rattle.elf_layout_segments.proofs.forecasts.split_limits.Goals as goal

pub split_limits_in-requires : goal.split_limits_in-requires
split_limits_in-requires c =
    subst (λ (l : List Limited). IsNonDecreasingBy (λ (b : Limited). b.start) l) (sym c.deref.ensures.value)
    (IsNonDecreasingBy-from_sort_by_key (λ (b : Limited). b.start) _ c.sort_unstable_by_key.ensures.sorted (λ a r q k. search rules))

pub returns : goal.returns
returns c =
    c.split_limits_in.ensures c.args.limits.now c.args.sections.now
    (subst (λ (l : List Limited). IsPermutation (limited_at c.args.limits.now c.args.sections.now) l) (sym c.deref.ensures.value)
    (subst (λ (l : List Limited). IsPermutation l c.sort_unstable_by_key.new.self.items) c.in_ok-begins.ensures c.sort_unstable_by_key.ensures.permutation))
