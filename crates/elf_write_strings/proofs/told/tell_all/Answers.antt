use Rattle.elf_write_strings.proofs.ToldTable.{read_told}
use Rattle.elf_write_strings.proofs.VersionsPlacing.{more-trans}
use Rattle.elf_write_strings.proofs.told.tell_all.Goals as goal

pub returns-clause-more : goal.returns-clause-more
returns-clause-more c =
    more-trans c.args.table.now c.tell_dynamic.new.table c.tell_others.new.table c.in_ok-tell_dynamic.ensures.more c.in_ok-tell_others.ensures.more

pub returns-clause-told : goal.returns-clause-told
returns-clause-told c =
    read_told c.args.read.now c.args.number c.tell_others.new.table
    (λ text has. c.in_ok-tell_others.ensures.more.had text (c.in_ok-tell_dynamic.ensures.list text has))
    (λ text has. c.in_ok-tell_others.ensures.more.had text (c.in_ok-tell_dynamic.ensures.symbols text has))
    c.in_ok-tell_others.ensures.definitions c.in_ok-tell_others.ensures.needs
    (λ text has. c.in_ok-tell_others.ensures.more.had text (c.in_ok-tell_dynamic.ensures.statics text has))
    c.in_ok-tell_others.ensures.sections
