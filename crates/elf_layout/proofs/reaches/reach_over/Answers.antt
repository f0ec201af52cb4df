use Rattle.std.proofs.Common.{ℕ, List, Option, ap, ◌∙◌, subst, map}
use Rattle.elf_format.specs.Ranges.{end_of}
use Rattle.elf_layout_plan.specs.PlanModel.{place_model}
use Rattle.elf_layout_segments.specs.declared.starts.Begin.{Begin}
use Rattle.elf_layout.specs.declared.reaches.Reach.{Reach}
use Rattle.elf_layout.specs.Reaches.{BeginBefore, over}
use Rattle.elf_layout.proofs.TreeSteps.{over_range}
use Rattle.elf_layout.proofs.reaches.reach_over.Goals as goal

pub returns : goal.returns
returns c =
    let xs : List Begin = c.args.reaches.now.begins.items in
    let low : ℕ = c.count_before-low.result in
    let high : ℕ = c.count_before-high.result in
    let first : BeginBefore xs c.args.part.start low =
    subst (λ (ys : List Begin). BeginBefore ys c.args.part.start low) c.deref.ensures.value
    (subst (λ (n : ℕ). BeginBefore c.deref.result.now n low) c.from.ensures c.count_before-low.ensures) in
    let last : BeginBefore xs (end_of c.args.part) high =
    subst (λ (ys : List Begin). BeginBefore ys (end_of c.args.part) high) c.deref-2.ensures.value
    (subst (λ (n : ℕ). BeginBefore c.deref-2.result.now n high) c.end.ensures c.count_before-high.ensures) in
    c.reach_between.ensures ∙ ap (λ (l : List (Option Reach)). over l low high) c.deref-3.ensures.value
    ∙ over_range (map place_model c.args.places.now) c.args.part xs c.args.reaches.now.tree.items low high c.requires.tree.front first last
