-- What the edits make is what the command asks for.
use Rattle.std.proofs.Common.{map}
use Rattle.elf_commands_edits.specs.Groups.{group_model}
use Rattle.elf_commands_lines.specs.ElfAsked.{elf_asked}
use Rattle.elf_commands_lines.specs.Meaning.{elf_command_model}
use Rattle.elf_commands.proofs.ElfOutcomes.{told_as_asked}
use Rattle.elf_commands.proofs.elf.engine.edited.Goals as goal

pub returns-in-Ok-clause-ok : goal.returns-in-Ok-clause-ok
returns-in-Ok-clause-ok c = record { edits = map group_model c.args.edits.items; are = c.requires; edited = c.in-Ok.ensures.made }

pub returns-in-Err-clause-err : goal.returns-in-Err-clause-err
returns-in-Err-clause-err c =
    rw c.told_to.ensures (told_as_asked (elf_asked (elf_command_model c.args.command.now)) (map group_model c.args.edits.items) c.args.bytes.now c.in-Err.error c.requires c.in-Err.ensures.err)
