use Rattle.std.proofs.Common.{List, map, subst, rules}
use Rattle.std.proofs.lemmas.List.Sorted.{IsNonDecreasingBy-from_sort_by_key}
use Rattle.elf_layout_plan.specs.PlanModel.{place_model}
use Rattle.elf_layout_segments.specs.declared.starts.Begin.{Begin}
use Rattle.elf_layout.specs.Reaches.{IsTreeOver, start_of}
use Rattle.elf_layout.proofs.reaches.reaches_of.Goals as goal

pub returns-clause-joined : goal.returns-clause-joined
returns-clause-joined c = record {
  rise = IsNonDecreasingBy-from_sort_by_key start_of c.sort_unstable_by_key.new.self.items c.sort_unstable_by_key.ensures.sorted (λ a r q k. search rules);
  tree = subst (λ (l : List Begin). IsTreeOver (map place_model c.args.places.now) l c.in_ok-tree.tree.items) c.deref.ensures.value c.in_ok-tree.ensures;
}
