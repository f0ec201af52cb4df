-- the blocks stand in their order, as was tested
use Rattle.std.proofs.Common.{rules}
use Rattle.test_elf.proofs.blocks.rows.walks_over_rows.Goals as goal

pub moved-requires : goal.moved-requires
moved-requires g c = c.is_ordered.ensures.0 (search rules)

pub moved-requires-in-loop-what : goal.moved-requires-in-loop-what
moved-requires-in-loop-what g c = c.is_ordered.ensures.0 (search rules)
