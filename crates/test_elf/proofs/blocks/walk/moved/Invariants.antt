use Rattle.test_elf.proofs.blocks.walk.moved.Given as goal

abbrev pub ghosts-walk_on : goal.ghosts-walk_on
ghosts-walk_on a = record { name = a.blank.name; parts = a.blank.parts }
