-- A command that asks for no edit names none.
use Rattle.std.proofs.Common.{sym, ap, ◌∙◌}
use Rattle.std.specs.Prelude.{option_map}
use Rattle.elf_commands_lines.specs.Groups.{group_model}
use Rattle.elf_commands_lines.specs.ElfWords.{one_edit}
use Rattle.command_words.specs.Groups.{no_edit}
use Rattle.command_words.proofs.ForCallers.{fault_told}
use Rattle.elf_commands_lines.proofs.elf_words.edit_of.Goals as goal

pub returns-in-None-clause-err : goal.returns-in-None-clause-err
returns-in-None-clause-err c =
    let none = sym (ap (option_map group_model) c.in-None.is) ∙ c.in_ok-edit.ensures in
    fault_told c.args.group _ no_edit _ (ap one_edit (sym none)) c.no_edit.ensures
