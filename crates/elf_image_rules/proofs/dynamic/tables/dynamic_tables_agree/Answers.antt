-- The entries are those of the dynamic section.
use Rattle.std.proofs.Common.{◌≡◌, ap, ◌∙◌, rules}
use Rattle.elf_image_rules.specs.Read.{parts_model}
use Rattle.elf_format.specs.Rules.{raw_entries, tags_come_once}
use Rattle.elf_image_rules.proofs.dynamic.tables.dynamic_tables_agree.Goals as goal

pub returns-then-versions_agree : goal.returns-then-versions_agree
returns-then-versions_agree c =
    let once : c.tags_come_once.result ≡ tags_come_once (raw_entries (parts_model c.args.parts.now)) = c.tags_come_once.ensures ∙ ap tags_come_once c.requires in
    search rules

pub returns-else-versions_agree : goal.returns-else-versions_agree
returns-else-versions_agree c =
    let once : c.tags_come_once.result ≡ tags_come_once (raw_entries (parts_model c.args.parts.now)) = c.tags_come_once.ensures ∙ ap tags_come_once c.requires in
    search rules
