use Rattle.std.proofs.Common.{ℕ, ◌≡◌, ◌+◌, ◌*◌, List, Option, None, ap, ◌∙◌, get_or, length, map, subst, sym, arith}
use Rattle.std.proofs.lemmas.List.{get_or_read, take_all}
use Rattle.elf_format.specs.Places.{Place}
use Rattle.elf_layout_plan.specs.PlanModel.{place_model}
use Rattle.elf_layout.specs.declared.reaches.Reach.{Reach}
use Rattle.elf_layout.specs.Reaches.{joined, reach_of_begin}
use Rattle.elf_layout.proofs.TreeSteps.{IsTreeUpTo, tree_begun, tree_done, tree_more}
use Rattle.elf_layout.proofs.reaches.tree_over.Goals as goal

pub loop-k-init : goal.loop-k-init
loop-k-init c =
    let all : List Place = map place_model c.args.places.now in
    tree_begun all c.args.begins.now c.loop-begin.tree.items
    (c.loop-begin.invariant ∙ ap (map (reach_of_begin all)) (take_all c.loop-begin.begin-index c.args.begins.now (omega arith)))

pub loop-k-preserved : goal.loop-k-preserved
loop-k-preserved c =
    let all : List Place = map place_model c.args.places.now in
    let tree : List (Option Reach) = c.loop-k.tree.items in
    let k : ℕ = c.loop-k.k in
    let long : length tree ≡ length c.args.begins.now + k = c.loop-k.invariant.long in
    let first : c.index.result.now ≡ get_or tree (2 * k) None = get_or_read tree (2 * k) c.index.result.now (omega arith) c.index.ensures None in
    let second : c.index-in-loop-k.result.now ≡ get_or tree (2 * k + 1) None = get_or_read tree (2 * k + 1) c.index-in-loop-k.result.now (omega arith) c.index-in-loop-k.ensures None in
    subst (λ (l : List (Option Reach)). IsTreeUpTo all c.args.begins.now (k + 1) l) (sym c.in_ok-push.ensures.items)
    (tree_more all c.args.begins.now k tree c.joined-next.result c.loop-k.invariant (omega arith)
    (c.joined-next.ensures ∙ ap (λ o. joined o c.index-in-loop-k.result.now) first ∙ ap (joined (get_or tree (2 * k) None)) second))

pub returns : goal.returns
returns c = tree_done (map place_model c.args.places.now) c.args.begins.now c.loop-k.k c.loop-k.tree.items c.loop-k.invariant (omega arith)
