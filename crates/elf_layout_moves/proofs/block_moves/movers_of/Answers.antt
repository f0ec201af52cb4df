use Rattle.std.proofs.Common.{◌≡◌, ◌++◌, ◌∙◌, List, ap, subst, sym}
use Rattle.std.specs.Prelude.{◌==◌, filter}
use Rattle.std.specs.List.{list_any}
use Rattle.std.proofs.lemmas.Result.{err_from_is_err_and}
use Rattle.elf_layout_plan.specs.Blocks.{Block, movers_in_order, moves_as_displaced}
use Rattle.elf_layout_moves.specs.BlockSteps.{AreClear, AreMovers, IsStuckFault}
use Rattle.elf_layout_moves.proofs.MoverLaws.{all_chosen, all_movers, can_all, clear_of_all, fixed_stuck, others_fault}
use Rattle.elf_layout_moves.proofs.block_moves.movers_of.Goals as goal

pub returns-then-is_some_fixed-clause-fault : goal.returns-then-is_some_fixed-clause-fault
returns-then-is_some_fixed-clause-fault c =
    fixed_stuck c.args.blocks.now c.is_some_load-loaded.result c.is_some_load-loaded.ensures c.requires.whole
    (ap (λ (bs : List Block). list_any (λ b. b.priority == 0) bs) (sym (c.deref.ensures.value ∙ c.in_ok-movers.ensures)) ∙ sym c.is_some_fixed.ensures ∙ c.if-is_some_fixed.true)

pub walk_in_order-requires-clause-clear : goal.walk_in_order-requires-clause-clear
walk_in_order-requires-clause-clear c =
    subst (λ (bs : List Block). AreClear bs) (sym c.deref-2.ensures.value)
    (clear_of_all c.args.blocks.now c.in_ok-others.others.items c.is_some_load-loaded.result c.is_some_load-loaded.ensures c.requires.whole c.in_ok-others.ensures.same)

pub returns-in_err-found-clause-fault : goal.returns-in_err-found-clause-fault
returns-in_err-found-clause-fault c =
    let p = err_from_is_err_and c.from_residual-in_err-found.result c.from_residual-in_err-found.ensures.1 in
    let fault = subst (λ (bs : List Block). IsStuckFault bs c.in_err-found.field-0.0) c.deref-2.ensures.value c.in_err-found.ensures.fault in
    rw (p.1, p.2) (others_fault c.args.blocks.now c.in_ok-others.others.items c.is_some_load-loaded.result c.is_some_load-loaded.ensures c.requires.whole
    c.in_ok-others.ensures.same c.in_err-found.field-0.0 fault)

pub returns-clause-movers : goal.returns-clause-movers
returns-clause-movers c =
    let none = ap (λ (bs : List Block). list_any (λ b. b.priority == 0) bs) (sym (c.deref.ensures.value ∙ c.in_ok-movers.ensures)) ∙ sym c.is_some_fixed.ensures ∙ c.if-is_some_fixed.false in
    let move = subst (λ (bs : List Block). AreMovers bs c.in_ok-found.found.items) c.deref-2.ensures.value c.in_ok-found.ensures.movers in
    let all = all_movers c.args.blocks.now c.in_ok-others.others.items c.is_some_load-loaded.result c.is_some_load-loaded.ensures c.requires.whole
    c.in_ok-others.ensures.same (can_all _ none) c.in_ok-found.found.items move in
    let outs : List Block = filter (λ b. moves_as_displaced c.is_some_load-loaded.result b) c.args.blocks.now in
    let items = c.in_ok-extend_from_slice.ensures.items in
    let same : c.extend_from_slice.new.self.items ≡ outs ++ c.in_ok-found.found.items =
    items ∙ ap (λ (l : List Block). l ++ c.deref-3.result.now) c.in_ok-movers.ensures ∙ ap (λ (l : List Block). outs ++ l) c.deref-3.ensures.value in
    subst (λ (movers : List Block). AreMovers c.args.blocks.now movers) (sym same) all

pub returns-clause-chosen : goal.returns-clause-chosen
returns-clause-chosen c =
    let loaded = c.is_some_load-loaded.result in
    let others : List Block = c.in_ok-others.others.items in
    let outs : List Block = filter (λ b. moves_as_displaced loaded b) c.args.blocks.now in
    let found = c.deref-3.ensures.value ∙ c.in_ok-found.ensures.chosen ∙ ap (λ (bs : List Block). movers_in_order bs) c.deref-2.ensures.value in
    c.in_ok-extend_from_slice.ensures.items
    ∙ ap (λ (l : List Block). l ++ c.deref-3.result.now) c.in_ok-movers.ensures
    ∙ ap (λ (l : List Block). outs ++ l) found
    ∙ all_chosen c.args.blocks.now others loaded c.is_some_load-loaded.ensures c.requires.whole c.in_ok-others.ensures.same c.requires.told
    c.in_ok-others.ensures.ordered
