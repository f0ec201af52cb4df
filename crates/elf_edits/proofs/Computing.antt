-- Opens every definition that a row computes with.
use lib.Count.{ones}
use Rattle.elf_edits.specs.Abi.{abi_number}
use Rattle.elf_edits.specs.Batch.{answers, left_by_all, run_from}
use Rattle.elf_edits.specs.Cause.{cause, first_cause}
use Rattle.elf_edits.specs.Edited.{edited_image, step, with_stack_changed}
use Rattle.elf_edits.specs.Edit.{edited_entries, touches_entries}

unfoldable pub computing : Unit {0}
unfolding abi_number answers cause edited_entries edited_image first_cause left_by_all ones run_from step touches_entries with_stack_changed
computing = tt
