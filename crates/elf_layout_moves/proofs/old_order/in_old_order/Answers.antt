use Rattle.std.proofs.Common.{◌≡◌, ◌∙◌, ℕ, List, ap, map, subst, sym, true}
use Rattle.std.specs.Prelude.{IsPermutation}
use Rattle.std.proofs.lemmas.List.Filters.{dedup_is}
use Rattle.std.proofs.lemmas.Result.{IfOk-weaker}
use Rattle.elf_format.specs.Options.{is_one_of}
use Rattle.elf_layout_plan.specs.Memory.{Resized}
use Rattle.elf_layout_plan.specs.Rounds.{are_in_old_order, sections_at}
use Rattle.elf_layout_moves.specs.BlockSteps.{old_key}
use Rattle.elf_layout_moves.proofs.OrderSteps.{Three}
use Rattle.elf_layout_moves.proofs.OldOrder.{are_same, in_old_order_there, same_positions}
use Rattle.elf_layout_moves.proofs.old_order.in_old_order.Goals as goal

pub returns-clause-ordered : goal.returns-clause-ordered
returns-clause-ordered c =
    let r : Resized = c.args.r.now in
    let moved : List ℕ = c.args.moved.now in
    let sorted : List Three = c.sort_unstable.new.self.items in
    let once = c.deref.ensures.value ∙ dedup_is are_same _ _ c.dedup.ensures.filtered in
    let keys = c.in_ok-keys.ensures ∙ ap (λ (q : Resized). map (old_key q.image) moved) c.r.view_is in
    let same = subst (λ (l : List Three). IsPermutation l sorted) keys c.sort_unstable.ensures.permutation in
    IfOk-weaker c.positions_of.result _ _ (λ found is.
    let told = is ∙ ap (λ (l : List Three). map (λ (k : Three). k.2) l) once in
    subst (λ (l : List ℕ). are_in_old_order (sections_at r l) ≡ true) (sym told)
    (in_old_order_there r c.requires.numbered c.requires.sized moved sorted c.requires.within same c.sort_unstable.ensures.sorted)) c.positions_of.ensures

pub returns-clause-same : goal.returns-clause-same
returns-clause-same c =
    let r : Resized = c.args.r.now in
    let moved : List ℕ = c.args.moved.now in
    let sorted : List Three = c.sort_unstable.new.self.items in
    let once = c.deref.ensures.value ∙ dedup_is are_same _ _ c.dedup.ensures.filtered in
    let keys = c.in_ok-keys.ensures ∙ ap (λ (q : Resized). map (old_key q.image) moved) c.r.view_is in
    let same = subst (λ (l : List Three). IsPermutation l sorted) keys c.sort_unstable.ensures.permutation in
    IfOk-weaker c.positions_of.result _ _ (λ found is. λ position.
    let told = is ∙ ap (λ (l : List Three). map (λ (k : Three). k.2) l) once in
    ap (λ (l : List ℕ). is_one_of l position) told ∙ same_positions r.image moved sorted position same) c.positions_of.ensures
