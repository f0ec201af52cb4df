-- The errors of libraries as those of a call.
use Rattle.arwen_c_edits.specs.declared.fault.ListError.{ListError}
use Rattle.arwen_c_edits.specs.declared.fault.ListError.TheVariants as list
use Rattle.arwen_cli_facts.specs.declared.error.ShowError.{ShowError}
use Rattle.arwen_cli_facts.specs.declared.error.ShowError.TheVariants as shown
use Rattle.command_words.specs.declared.edits.EditsError.{EditsError}
use Rattle.command_words.specs.declared.edits.EditsError.TheVariants as words
use Rattle.elf_commands.specs.ElfCommandError.TheVariants as elf
use Rattle.macho_commands.specs.declared.error.MachoCommandError.TheVariants as macho
use Rattle.arwen_c.specs.declared.error.CallError.{CallError}
use Rattle.arwen_c.specs.declared.error.CallError.TheVariants.{Array, Elf, Macho, Memory, UnknownFormat, Words}

abbrev pub of_list : ListError → CallError
of_list (list.Fault fault) = Array fault
of_list list.Memory = Memory

abbrev pub of_words : EditsError → CallError
of_words (words.Fault fault) = Words fault
of_words words.Memory = Memory

-- a list of bytes takes what is written to it, unless memory runs out
abbrev pub of_shown : ShowError → CallError
of_shown shown.UnknownFormat = UnknownFormat
of_shown (shown.Elf fault) = Elf (elf.Elf fault)
of_shown (shown.Macho fault) = Macho (macho.Macho fault)
of_shown (shown.Io fault) = Memory
of_shown shown.Memory = Memory
