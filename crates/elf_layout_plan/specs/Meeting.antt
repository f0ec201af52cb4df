-- What a comparison of two blocks says.
use Rattle.elf_layout_plan.specs.declared.block.Block.{Block}
use Rattle.elf_layout_plan.specs.declared.walk.Meeting.{Meeting}
use Rattle.elf_layout_plan.specs.declared.walk.Meeting.TheVariants.{Apart, Earlier, Later, Stuck}
use Rattle.elf_layout_plan.specs.MovedBlocks.{EarlierMoves, IsApart, IsStuck, LaterMoves}

abbrev pub IsMeeting : Block → Block → Meeting → Type 0
IsMeeting earlier later Apart = IsApart earlier later
IsMeeting earlier later Earlier = EarlierMoves earlier later
IsMeeting earlier later Later = LaterMoves earlier later
IsMeeting earlier later Stuck = IsStuck earlier later
