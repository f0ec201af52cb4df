use Rattle.elf_write_strings.proofs.VersionsPlacing.{more-trans}
use Rattle.elf_write_strings.proofs.told.tell_dynamic.Goals as goal

pub returns-clause-more : goal.returns-clause-more
returns-clause-more c =
    more-trans c.args.table.now c.tell_list.new.table c.tell_static_symbols.new.table c.in_ok-tell_list.ensures.more
    (more-trans c.tell_list.new.table c.tell_dynamic_symbols.new.table c.tell_static_symbols.new.table c.in_ok-tell_dynamic_symbols.ensures.more
    c.in_ok-tell_static_symbols.ensures.more)
