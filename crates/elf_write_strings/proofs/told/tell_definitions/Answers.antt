-- The section has its texts elsewhere, or they are placed.
use Rattle.std.proofs.Common.{◌∙◌, sym}
use Rattle.elf_format.specs.declared.constants.TheConstants.{SHT_GNU_VERDEF}
use Rattle.elf_image.specs.Kept.{link_of_type}
use Rattle.elf_layout_plan.specs.Texts.{texts_of_definitions}
use Rattle.elf_write_strings.proofs.ReadTables.{linked_to}
use Rattle.elf_write_strings.proofs.ToldTable.{told_nowhere}
use Rattle.elf_write_strings.proofs.told.tell_definitions.Goals as goal

pub returns-then-not-has_texts_in-clause-told : goal.returns-then-not-has_texts_in-clause-told
returns-then-not-has_texts_in-clause-told c =
    told_nowhere c.args.read.now SHT_GNU_VERDEF c.args.number c.args.table.now (texts_of_definitions c.args.read.now.definitions) (sym c.has_texts_in.ensures ∙ c.if-not-has_texts_in.true)

pub place_read_definitions-requires-clause-linked : goal.place_read_definitions-requires-clause-linked
place_read_definitions-requires-clause-linked c =
    linked_to (link_of_type SHT_GNU_VERDEF c.args.read.now) c.args.number (sym c.has_texts_in.ensures ∙ c.if-not-has_texts_in.false)
