-- the blocks stand in their order, as was tested
use Rattle.std.proofs.Common.{rules}
use Rattle.test_elf.proofs.blocks.made.walks_over_made_lists.Goals as goal

pub moved-requires : goal.moved-requires
moved-requires g c = c.is_ordered.ensures.0 (search rules)

pub moved-requires-in-loop-number : goal.moved-requires-in-loop-number
moved-requires-in-loop-number g c = c.is_ordered.ensures.0 (search rules)
