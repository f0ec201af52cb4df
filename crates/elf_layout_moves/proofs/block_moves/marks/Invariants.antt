use Rattle.elf_layout_moves.proofs.block_moves.marks.Given as goal

abbrev pub ghosts-walk_on : goal.ghosts-walk_on
ghosts-walk_on a = record { name = a.blank.name; parts = a.blank.parts }
