use Rattle.elf_write_strings.proofs.told.told_table.Goals as goal

pub returns-clause-stand : goal.returns-clause-stand
returns-clause-stand c = c.in_ok-tell_all.ensures.more.stand c.copied-table.ensures.stands
