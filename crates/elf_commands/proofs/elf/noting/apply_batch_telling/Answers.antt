-- What the edits found in the image as it was, and what holds of the image that they leave.
use Rattle.std.proofs.Common.{string_bytes}
use Rattle.elf_commands_lines.specs.Groups.{edits_model}
use Rattle.elf_commands.proofs.NotingLaws.{notes_made}
use Rattle.elf_commands.proofs.elf.noting.apply_batch_telling.Goals as goal

pub returns-clause-told : goal.returns-clause-told
returns-clause-told c =
    notes_made (edits_model c.args.edits.now) c.args.elf.now.inner c.apply_batch.new.elf.inner c.in_ok-found.found c.args.name.now (string_bytes c.in_ok-lines_for.field-0)
    c.in_ok-found.ensures c.in_ok-apply_batch.ensures.runs c.in_ok-lines_for.ensures
