-- The first relocations are known, and so are those counted behind them.
use Rattle.elf_image_rules.proofs.LinkSteps.{section_fits, section_known}
use Rattle.elf_image_rules.proofs.linked.check_behind.Goals as goal

pub returns-then-skip-count-clause-fits : goal.returns-then-skip-count-clause-fits
returns-then-skip-count-clause-fits c =
    section_fits c.args.form c.args.file.now c.args.known c.args.table c.relocation_size-size.result c.known_count-skip.result c.good_count.result c.section_bytes-bytes.result.now c.records_from.result.now
    c.relocation_size-size.ensures.value c.relocation_size-size.ensures.positive c.section_bytes-bytes.ensures.value c.known_count-skip.ensures.within c.known_count-skip.ensures.among c.requires c.records_from.ensures
    (record { within = c.good_count.ensures.within; good = c.good_count.ensures.good; all = c.good_count.ensures.all })

pub returns-clause-fits : goal.returns-clause-fits
returns-clause-fits c =
    section_fits c.args.form c.args.file.now c.args.known c.args.table c.relocation_size-size.result c.known_count-skip.result c.good_count.result c.section_bytes-bytes.result.now c.records_from.result.now
    c.relocation_size-size.ensures.value c.relocation_size-size.ensures.positive c.section_bytes-bytes.ensures.value c.known_count-skip.ensures.within c.known_count-skip.ensures.among c.requires c.records_from.ensures
    (record { within = c.good_count.ensures.within; good = c.good_count.ensures.good; all = c.good_count.ensures.all })

pub returns-clause-known : goal.returns-clause-known
returns-clause-known c =
    section_known c.args.form c.args.file.now c.args.known c.args.table c.relocation_size-size.result c.known_count-skip.result c.good_count.result c.section_bytes-bytes.result.now c.records_from.result.now
    c.relocation_size-size.ensures.value c.relocation_size-size.ensures.positive c.section_bytes-bytes.ensures.value c.known_count-skip.ensures.within c.known_count-skip.ensures.among c.requires c.records_from.ensures
    (record { within = c.good_count.ensures.within; good = c.good_count.ensures.good; all = c.good_count.ensures.all })
