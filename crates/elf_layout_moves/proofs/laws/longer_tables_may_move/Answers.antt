use Rattle.elf_layout_moves.proofs.GrowthLaws.{longer_tables_may_move}
use Rattle.elf_layout_moves.proofs.laws.longer_tables_may_move.Goals as goal

pub returns : goal.returns
returns c = longer_tables_may_move
