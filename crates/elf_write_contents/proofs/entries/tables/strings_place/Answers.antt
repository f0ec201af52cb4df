-- The place of the dynamic strings, found by their position.
use Rattle.std.proofs.Common.{sym, ap, ◌∙◌}
use Rattle.elf_write_contents.specs.EntrySteps.{place_at}
use Rattle.elf_write_contents.proofs.EntriesTables.{strings_stand}
use Rattle.elf_write_contents.proofs.entries.tables.strings_place.Goals as goal

pub returns : goal.returns
returns c =
    c.place_at.ensures ∙ ap (place_at c.args.plan.now) c.dynamic_strings_position.ensures
    ∙ sym (strings_stand c.args.image.now c.args.plan.now c.source-source.ensures.edited)
