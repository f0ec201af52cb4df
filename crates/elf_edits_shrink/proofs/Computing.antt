-- Opens every definition that a row computes with.
use Rattle.elf_edits.specs.Cause.{cause, first_cause}
use Rattle.elf_edits.specs.Edited.{edited_image, step}
use Rattle.elf_edits.specs.Edit.{edited_entries, touches_entries}

unfoldable pub computing : Unit {0}
unfolding cause edited_entries edited_image first_cause step touches_entries
computing = tt
