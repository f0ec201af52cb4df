use Rattle.std.proofs.Common.{ap, ◌∙◌}
use Rattle.elf_tables.specs.Strings.{Strings}
use Rattle.elf_write_strings.proofs.versions.names_of_definitions.Goals as goal

pub place_read_definitions-requires-clause-bytes : goal.place_read_definitions-requires-clause-bytes
place_read_definitions-requires-clause-bytes c =
    ap (λ (t : Strings). t.bytes) c.copied-table.ensures.made ∙ c.in_ok-from_slice.ensures.items ∙ c.content_of-content.ensures

pub returns-clause-bytes : goal.returns-clause-bytes
returns-clause-bytes c =
    c.in_ok-place_read_definitions.ensures.more.bytes
    ∙ ap (λ (t : Strings). t.bytes) c.copied-table.ensures.made ∙ c.in_ok-from_slice.ensures.items ∙ c.content_of-content.ensures

pub returns-clause-stand : goal.returns-clause-stand
returns-clause-stand c = c.in_ok-place_read_definitions.ensures.more.stand c.copied-table.ensures.stands
