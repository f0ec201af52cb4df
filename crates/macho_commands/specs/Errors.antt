-- Which error of a command for a Mach-O file answers one of the libraries below: want of memory is always its own.
use Rattle.macho_edits.specs.declared.batch.MachoBatchError.{MachoBatchError}
use Rattle.macho_edits.specs.declared.error.MachoError.{MachoError}
use Rattle.macho_edits.specs.declared.error.MachoError.TheVariants as macho
use Rattle.byte_store.specs.declared.reading.ReadError.{ReadError}
use Rattle.byte_store.specs.declared.reading.ReadError.TheVariants as read
use Rattle.command_words.specs.declared.edits.EditsError.{EditsError}
use Rattle.command_words.specs.declared.edits.EditsError.TheVariants as edits
use Rattle.macho_commands.specs.declared.error.MachoCommandError.{MachoCommandError}
use Rattle.macho_commands.specs.declared.error.MachoCommandError.TheVariants.{Edits, Io, Macho, MachoBatch, Memory, Signing}
use Rattle.macho_signing.specs.declared.fault.SigningFault.{SigningFault}
use Rattle.macho_signing.specs.declared.fault.SigningFault.TheVariants as signing

-- of a file that is not read, and of a refused edit
abbrev pub answer_to : MachoError → MachoCommandError
answer_to macho.Memory = Memory
answer_to fault = Macho fault

-- of a refused batch
abbrev pub answer_by_fault : MachoBatchError → MachoError → MachoCommandError
answer_by_fault batch macho.Memory = Memory
answer_by_fault batch _ = MachoBatch batch

abbrev pub answer_to_batch : MachoBatchError → MachoCommandError
answer_to_batch batch = answer_by_fault batch batch.fault

-- of words that were not read as edits
abbrev pub answer_to_words : EditsError → MachoCommandError
answer_to_words edits.Memory = Memory
answer_to_words (edits.Fault fault) = Edits fault

-- of bytes that were not read
abbrev pub answer_to_read : ReadError → MachoCommandError
answer_to_read read.Memory = Memory
answer_to_read (read.Io e) = Io e

-- of signatures that are not read or not made to fit
abbrev pub answer_to_signing : SigningFault → MachoCommandError
answer_to_signing signing.Memory = Memory
answer_to_signing fault = Signing fault
