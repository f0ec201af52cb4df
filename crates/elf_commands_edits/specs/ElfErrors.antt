-- Which error of a command for an ELF file answers one of the libraries below: want of memory is always its own.
use Rattle.arwen_elf.specs.ElfError.{ElfError}
use Rattle.arwen_elf.specs.ElfError.TheVariants as elf
use Rattle.arwen_elf.specs.ElfBatchError.{ElfBatchError}
use Rattle.byte_store.specs.declared.reading.ReadError.{ReadError}
use Rattle.byte_store.specs.declared.reading.ReadError.TheVariants as read
use Rattle.byte_store.specs.declared.difference.ReplaceError.{ReplaceError}
use Rattle.byte_store.specs.declared.difference.ReplaceError.TheVariants as replace
use Rattle.command_words.specs.declared.edits.EditsError.{EditsError}
use Rattle.command_words.specs.declared.edits.EditsError.TheVariants as edits
use Rattle.elf_commands_edits.specs.declared.error.ElfCommandError.{ElfCommandError}
use Rattle.elf_commands_edits.specs.declared.error.ElfCommandError.TheVariants.{Edits, Elf, ElfBatch, Io, Memory}

-- of a file that is not read, written or printed, and of a refused edit
abbrev pub answer_to_elf : ElfError → ElfCommandError
answer_to_elf elf.Memory = Memory
answer_to_elf fault = Elf fault

-- of a refused batch
abbrev pub answer_to_elf_fault : ElfBatchError → ElfError → ElfCommandError
answer_to_elf_fault batch elf.Memory = Memory
answer_to_elf_fault batch _ = ElfBatch batch

abbrev pub answer_to_elf_batch : ElfBatchError → ElfCommandError
answer_to_elf_batch batch = answer_to_elf_fault batch batch.fault

-- of bytes that were not replaced
abbrev pub answer_to_replaced : ReplaceError → ElfCommandError
answer_to_replaced replace.Memory = Memory
answer_to_replaced (replace.Write e) = Io e.error

-- of words that were not read as edits
abbrev pub answer_to_words : EditsError → ElfCommandError
answer_to_words edits.Memory = Memory
answer_to_words (edits.Fault fault) = Edits fault

-- of bytes that were not read
abbrev pub answer_to_read : ReadError → ElfCommandError
answer_to_read read.Memory = Memory
answer_to_read (read.Io e) = Io e
