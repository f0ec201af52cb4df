-- A command that names one edit asks for that.
use Rattle.std.proofs.Common.{◌∙◌, List, Some, ap, map, sym}
use Rattle.std.specs.Option.{option_map}
use Rattle.elf_commands_edits.specs.Groups.{group_model}
use Rattle.elf_commands_lines.specs.declared.groups.GroupEdit.{GroupEdit as GroupHeld}
use Rattle.elf_commands_lines.specs.ElfAsked.{edits_asked}
use Rattle.elf_commands_lines.specs.Meaning.{elf_command_model}
use Rattle.elf_commands.proofs.ElfOutcomes.{asks_one}
use Rattle.elf_commands.proofs.asked.asked_by.Goals as goal

pub returns-in_ok-one-in-Some : goal.returns-in_ok-one-in-Some
returns-in_ok-one-in-Some c = record {
  ok = ap edits_asked (asks_one (elf_command_model c.args.command.now) (group_model c.in-Some.edit) (ap (option_map group_model) (sym c.in-Some.is) ∙ c.in_ok-edit.ensures))
      ∙ ap (λ (l : List GroupHeld). Some (map group_model l)) (sym c.in_ok-one-in-Some.ensures);
  err = tt;
}
