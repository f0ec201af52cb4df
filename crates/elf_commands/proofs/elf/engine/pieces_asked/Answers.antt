-- What the edits make is what the command asks for.
use Rattle.std.proofs.Common.{◌∙◌, List, Some, map, string_bytes, subst, sym}
use Rattle.command_words.specs.Rows.{Text}
use Rattle.elf_commands_edits.specs.Groups.{GroupEdit, group_model}
use Rattle.elf_commands_lines.specs.ElfAsked.{ElfAsked, elf_asked}
use Rattle.elf_commands_lines.specs.Meaning.{elf_command_model}
use Rattle.elf_commands.specs.Noting.{TellsWantedAt}
use Rattle.elf_commands.proofs.ElfOutcomes.{told_as_asked}
use Rattle.elf_commands.proofs.NotingLaws.{notes_as_asked}
use Rattle.elf_commands.proofs.elf.engine.pieces_asked.Goals as goal

pub returns-in-Ok-clause-left : goal.returns-in-Ok-clause-left
returns-in-Ok-clause-left c = record { edits = map group_model c.args.edits.items; are = c.requires; left = c.in-Ok.ensures.left }

-- each line names the command's file
pub returns-in-Ok-clause-told : goal.returns-in-Ok-clause-told
returns-in-Ok-clause-told c =
    let a : ElfAsked = elf_asked (elf_command_model c.args.command.now) in
    let edits : List GroupEdit = map group_model c.args.edits.items in
    let Of : Text → Type 0 = λ path. TellsWantedAt c.args.notes a path (Some c.args.bytes.now) (string_bytes c.in-Ok.made.1) in
    subst Of c.path_to_binary.ensures (notes_as_asked c.args.notes a edits _ (Some c.args.bytes.now) (string_bytes c.in-Ok.made.1) c.requires c.in-Ok.ensures.told)

pub returns-in-Ok-clause-idle : goal.returns-in-Ok-clause-idle
returns-in-Ok-clause-idle c = λ nothing.
    c.in-Ok.ensures.idle (record { edits = nothing.edits; are = sym c.requires ∙ nothing.are; made = nothing.made; makes = nothing.makes; same = nothing.same })

pub returns-in-Err-clause-err : goal.returns-in-Err-clause-err
returns-in-Err-clause-err c =
    rw c.told_to.ensures (told_as_asked (elf_asked (elf_command_model c.args.command.now)) (map group_model c.args.edits.items) c.args.bytes.now c.in-Err.error c.requires c.in-Err.ensures.err)
