-- What the program answers when it does not do what was asked.
use Rattle.std.specs.Prelude.{ℕ, List, codes}
use Rattle.elf_commands.specs.ElfError.{ElfError}
use Rattle.elf_commands.specs.ElfError.TheVariants as elf
use Rattle.macho_edits.specs.declared.error.MachoError.{MachoError}
use Rattle.macho_edits.specs.declared.error.MachoError.TheVariants as macho
use Rattle.byte_store.specs.declared.reading.ReadError.{ReadError}
use Rattle.byte_store.specs.declared.reading.ReadError.TheVariants as read
use Rattle.command_words.specs.declared.edits.EditsError.{EditsError}
use Rattle.command_words.specs.declared.edits.EditsError.TheVariants as edits
use Rattle.macho_commands.specs.declared.error.MachoCommandError.{MachoCommandError}
use Rattle.macho_commands.specs.declared.error.MachoCommandError.TheVariants as macho_command
use Rattle.elf_commands.specs.ElfCommandError.{ElfCommandError}
use Rattle.elf_commands.specs.ElfCommandError.TheVariants as elf_command
use Rattle.arwen_cli_show.specs.declared.command.ShowCommandError.{ShowCommandError}
use Rattle.arwen_cli_show.specs.declared.command.ShowCommandError.TheVariants as show_command
use Rattle.arwen_cli_faults.specs.declared.error.ArwenError.{ArwenError}
use Rattle.arwen_cli_faults.specs.declared.error.FaultLine.{FaultLine}
use Rattle.arwen_cli_faults.specs.declared.error.ArwenError.TheVariants.{Edits, Elf, ElfBatch, Io, Line, Macho, MachoBatch, Memory, NotAllFit, NotAllShown, Signing}

-- the status that the program ends with
abbrev pub status_of : ArwenError → ℕ
status_of (Line text status) = status
status_of (Edits fault) = 2
status_of _ = 1

-- what kind of fault it is
abbrev pub words_told : ArwenError → List ℕ
words_told (Macho e) = codes "error while patching Mach-O file"
words_told (Elf e) = codes "error while patching ELF file"
words_told (Io e) = codes "file error"
words_told (Line text status) = codes "invalid command line"
words_told Memory = codes "out of memory"
words_told (Edits fault) = codes "invalid edit list"
words_told (MachoBatch e) = codes "Mach-O batch refused"
words_told (ElfBatch e) = codes "ELF batch refused"
words_told NotAllShown = codes "some files are not shown"
words_told (Signing fault) = codes "error in code signature"
words_told NotAllFit = codes "some pages do not fit"

-- an answer, unless the fault of a file is want of memory, which is a kind of its own
abbrev pub or_memory : ArwenError → MachoError → ArwenError
or_memory answer macho.Memory = Memory
or_memory answer fault = answer

abbrev pub or_elf_memory : ArwenError → ElfError → ArwenError
or_elf_memory answer elf.Memory = Memory
or_elf_memory answer fault = answer

-- the program's answer for a command for a Mach-O file that was not done: its kind stays
abbrev pub answer_to_macho_command : MachoCommandError → ArwenError
answer_to_macho_command (macho_command.Macho e) = or_memory (Macho e) e
answer_to_macho_command (macho_command.MachoBatch e) = or_memory (MachoBatch e) e.fault
answer_to_macho_command (macho_command.Io e) = Io e
answer_to_macho_command (macho_command.Edits fault) = Edits fault
answer_to_macho_command (macho_command.Signing fault) = Signing fault
answer_to_macho_command macho_command.Unfit = NotAllFit
answer_to_macho_command macho_command.Memory = Memory

-- the same of a command for an ELF file
abbrev pub answer_to_elf_command : ElfCommandError → ArwenError
answer_to_elf_command (elf_command.Elf e) = or_elf_memory (Elf e) e
answer_to_elf_command (elf_command.ElfBatch e) = or_elf_memory (ElfBatch e) e.fault
answer_to_elf_command (elf_command.Io e) = Io e
answer_to_elf_command (elf_command.Edits fault) = Edits fault
answer_to_elf_command elf_command.Memory = Memory

-- the same of the command that shows files
abbrev pub answer_to_show_command : ShowCommandError → ArwenError
answer_to_show_command show_command.NotAll = NotAllShown
answer_to_show_command (show_command.Io e) = Io e
answer_to_show_command show_command.Memory = Memory

-- the program's answer for words that were not read as edits
abbrev pub answer_to_words : EditsError → ArwenError
answer_to_words edits.Memory = Memory
answer_to_words (edits.Fault fault) = Edits fault

-- the program's answer for bytes that were not read
abbrev pub answer_to_read : ReadError → ArwenError
answer_to_read read.Memory = Memory
answer_to_read (read.Io e) = Io e

-- the fault that a line of text tells
abbrev pub fault_told : FaultLine → ArwenError
fault_told line = line.error.now
