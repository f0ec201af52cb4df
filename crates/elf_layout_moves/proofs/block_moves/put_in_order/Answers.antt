use Rattle.std.proofs.Common.{rules}
use Rattle.std.proofs.lemmas.List.Sorted.{answers_always}
use Rattle.elf_layout_moves.proofs.OrderSteps.{key_of, ordered_from_sort}
use Rattle.elf_layout_moves.proofs.block_moves.put_in_order.Goals as goal

pub returns-clause-ordered : goal.returns-clause-ordered
returns-clause-ordered c =
    ordered_from_sort c.sort_unstable_by_key.new.self (c.sort_unstable_by_key.ensures.sorted key_of (answers_always _ _ _ (λ f a r g h. search rules)))
