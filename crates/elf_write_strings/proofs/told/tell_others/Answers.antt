use Rattle.elf_write_strings.proofs.VersionsPlacing.{more-trans}
use Rattle.elf_write_strings.proofs.told.tell_others.Goals as goal

pub returns-clause-more : goal.returns-clause-more
returns-clause-more c =
    more-trans c.args.table.now c.tell_definitions.new.table c.tell_sections.new.table c.in_ok-tell_definitions.ensures.more
    (more-trans c.tell_definitions.new.table c.tell_needs.new.table c.tell_sections.new.table c.in_ok-tell_needs.ensures.more
    c.in_ok-tell_sections.ensures.more)
