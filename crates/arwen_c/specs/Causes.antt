-- The numbers of causes, as `arwen.h` has them, and what a call returns where it is refused.
use Rattle.std.specs.Prelude.{ℕ}
use Rattle.command_words.specs.declared.edits.EditKind.{EditKind}
use Rattle.command_words.specs.declared.edits.EditKind.TheVariants as words
use Rattle.elf_commands.specs.ElfCommandError.{ElfCommandError}
use Rattle.elf_commands.specs.ElfCommandError.TheVariants as elf
use Rattle.elf_apply.specs.declared.error.ElfError.{ElfError}
use Rattle.elf_commands.specs.ElfError.TheVariants as fault
use Rattle.elf_apply.specs.declared.error.ModifyCause.{ModifyCause}
use Rattle.elf_apply.specs.declared.error.ModifyCause.TheVariants as modify
use Rattle.elf_format.specs.declared.fault.ElfFault.{ElfFault}
use Rattle.elf_format.specs.declared.fault.ElfFault.TheVariants as read
use Rattle.macho_commands.specs.declared.error.MachoCommandError.{MachoCommandError}
use Rattle.macho_commands.specs.declared.error.MachoCommandError.TheVariants as macho
use Rattle.macho_edits.specs.declared.error.MachoError.{MachoError}
use Rattle.macho_edits.specs.declared.error.MachoError.TheVariants as edit
use Rattle.macho_image.specs.declared.format.MachFault.{MachFault}
use Rattle.macho_image.specs.declared.format.MachFault.TheVariants as file
use Rattle.macho_signatures.specs.declared.fault.SignatureFault.{SignatureFault}
use Rattle.macho_signatures.specs.declared.fault.SignatureFault.TheVariants as signature
use Rattle.macho_signing.specs.declared.fault.SigningFault.{SigningFault}
use Rattle.macho_signing.specs.declared.fault.SigningFault.TheVariants as signing
use Rattle.arwen_c_edits.specs.declared.fault.WrongEdit.{WrongEdit}
use Rattle.arwen_c_edits.specs.declared.fault.WrongEdit.TheVariants as wrong
use Rattle.arwen_c.specs.declared.error.CallError.{CallError}
use Rattle.arwen_c.specs.declared.error.CallError.TheVariants.{Array, Elf, Macho, Memory, NoText, UnknownFormat, Words}
use Rattle.arwen_c.specs.declared.status.TheConstants.{ARWEN_MEMORY, ARWEN_REFUSED, ARWEN_WORDS, NO_EDIT}

-- ## ELF files

-- why one isn't read
abbrev pub read_cause : ElfFault → ℕ
read_cause read.Truncated = 101
read_cause read.Unsupported = 102
read_cause (read.Disagree rule) = 103
read_cause read.BadText = 104
read_cause read.NumberTooLarge = 105
read_cause read.BadMagic = 106
read_cause read.Memory = 0

-- why an edit of one is refused
abbrev pub modify_cause : ModifyCause → ℕ
modify_cause (modify.NoDynamic task) = 141
modify_cause modify.NoInterp = 142
modify_cause (modify.UnknownAbi name) = 143
modify_cause (modify.BadPageSize size) = 144
modify_cause modify.NoRunPath = 145
modify_cause modify.Overlap = 146
modify_cause modify.NulInText = 147
modify_cause modify.MipsImage = 148
modify_cause modify.SymbolInRelocation = 149
modify_cause modify.CannotRenumber = 150
modify_cause modify.SectionInUse = 151
modify_cause modify.TooManyHeaders = 152

abbrev pub elf_fault_cause : ElfError → ℕ
elf_fault_cause (fault.Io e) = 1
elf_fault_cause (fault.Parse e) = read_cause e
elf_fault_cause (fault.Write e) = 121
elf_fault_cause (fault.Modify e) = modify_cause e
elf_fault_cause fault.InvalidDtNeededEncoding = 104
elf_fault_cause fault.Memory = 0

-- ## Mach-O files

-- why one isn't read
abbrev pub file_cause : MachFault → ℕ
file_cause file.BadMagic = 201
file_cause file.Truncated = 202
file_cause file.BadCommandSize = 203
file_cause file.BadNameOffset = 204
file_cause file.CountsDisagree = 205
file_cause file.SliceOutside = 206
file_cause file.SlicesOverlap = 207
file_cause file.TooLong = 208
file_cause file.Memory = 0

-- the cause that a Mach-O file isn't read, or an edit of it is refused
abbrev pub macho_fault_cause : MachoError → ℕ
macho_fault_cause (edit.Parsing e) = file_cause e
macho_fault_cause edit.UnixArchive = 209
macho_fault_cause (edit.CommandBuilderError e) = 221
macho_fault_cause (edit.RpathMissing text) = 222
macho_fault_cause (edit.DylibNameMissing name) = 223
macho_fault_cause edit.DylibIdMissing = 224
macho_fault_cause (edit.NoRoom needed available) = 225
macho_fault_cause edit.Memory = 0

-- why a code signature isn't read
abbrev pub signature_cause : SignatureFault → ℕ
signature_cause signature.Outside = 251
signature_cause signature.NoSuperBlob = 252
signature_cause signature.BadLength = 253
signature_cause signature.BadIndex = 254
signature_cause signature.BadBlob = 255
signature_cause signature.BadDirectory = 256
signature_cause signature.UnknownHash = 257
signature_cause signature.BadPageSize = 258
signature_cause signature.Scattered = 259
signature_cause signature.BadSlots = 260
signature_cause signature.BadLimit = 261
signature_cause signature.NoDirectory = 262
signature_cause signature.Memory = 0

-- the cause that a code signature isn't read, or isn't made to fit
abbrev pub signing_cause : SigningFault → ℕ
signing_cause (signing.File e) = file_cause e
signing_cause signing.BadCommand = 241
signing_cause signing.SeveralSignatures = 242
signing_cause signing.InCommands = 243
signing_cause (signing.Signature e) = signature_cause e
signing_cause signing.ChangedSignature = 244
signing_cause signing.Memory = 0

-- ## Lists of edits

-- what is wrong with words
abbrev pub words_cause : EditKind → ℕ
words_cause words.Empty = 301
words_cause words.UnknownEdit = 302
words_cause words.WrongWords = 303
words_cause words.KeyValue = 304
words_cause words.Number = 305

-- the cause of a wrong edit of an array
abbrev pub array_cause : WrongEdit → ℕ
array_cause wrong.UnknownKind = 321
array_cause wrong.WrongCount = 322
array_cause wrong.NoText = 323
array_cause wrong.OtherFormat = 324

-- ## Calls

abbrev pub elf_cause : ElfCommandError → ℕ
elf_cause (elf.Elf e) = elf_fault_cause e
elf_cause (elf.ElfBatch e) = elf_fault_cause e.fault
elf_cause (elf.Io e) = 1
elf_cause (elf.Edits e) = words_cause e.kind
elf_cause elf.Memory = 0

abbrev pub macho_cause : MachoCommandError → ℕ
macho_cause (macho.Macho e) = macho_fault_cause e
macho_cause (macho.MachoBatch e) = macho_fault_cause e.fault
macho_cause (macho.Io e) = 1
macho_cause (macho.Edits e) = words_cause e.kind
macho_cause (macho.Signing e) = signing_cause e
macho_cause macho.Unfit = 0
macho_cause macho.Memory = 0

-- the cause of an error; 0 for want of memory, which has none
abbrev pub cause_of : CallError → ℕ
cause_of (Array e) = array_cause e.wrong
cause_of (Words e) = words_cause e.kind
cause_of (NoText group) = 310
cause_of UnknownFormat = 2
cause_of (Elf e) = elf_cause e
cause_of (Macho e) = macho_cause e
cause_of Memory = 0

-- the edit that an error stands against
abbrev pub elf_edit : ElfCommandError → ℕ
elf_edit (elf.Elf e) = NO_EDIT
elf_edit (elf.ElfBatch e) = e.index
elf_edit (elf.Io e) = NO_EDIT
elf_edit (elf.Edits e) = e.group
elf_edit elf.Memory = NO_EDIT

abbrev pub macho_edit : MachoCommandError → ℕ
macho_edit (macho.Macho e) = NO_EDIT
macho_edit (macho.MachoBatch e) = e.index
macho_edit (macho.Io e) = NO_EDIT
macho_edit (macho.Edits e) = e.group
macho_edit (macho.Signing e) = NO_EDIT
macho_edit macho.Unfit = NO_EDIT
macho_edit macho.Memory = NO_EDIT

abbrev pub edit_of : CallError → ℕ
edit_of (Array e) = e.index
edit_of (Words e) = e.group
edit_of (NoText group) = group
edit_of UnknownFormat = NO_EDIT
edit_of (Elf e) = elf_edit e
edit_of (Macho e) = macho_edit e
edit_of Memory = NO_EDIT

-- what a call returns
abbrev pub elf_status : ElfCommandError → ℕ
elf_status (elf.Elf e) = ARWEN_REFUSED
elf_status (elf.ElfBatch e) = ARWEN_REFUSED
elf_status (elf.Io e) = ARWEN_REFUSED
elf_status (elf.Edits e) = ARWEN_WORDS
elf_status elf.Memory = ARWEN_MEMORY

abbrev pub macho_status : MachoCommandError → ℕ
macho_status (macho.Macho e) = ARWEN_REFUSED
macho_status (macho.MachoBatch e) = ARWEN_REFUSED
macho_status (macho.Io e) = ARWEN_REFUSED
macho_status (macho.Edits e) = ARWEN_WORDS
macho_status (macho.Signing e) = ARWEN_REFUSED
macho_status macho.Unfit = ARWEN_REFUSED
macho_status macho.Memory = ARWEN_MEMORY

abbrev pub status_of : CallError → ℕ
status_of (Array e) = ARWEN_WORDS
status_of (Words e) = ARWEN_WORDS
status_of (NoText group) = ARWEN_WORDS
status_of UnknownFormat = ARWEN_REFUSED
status_of (Elf e) = elf_status e
status_of (Macho e) = macho_status e
status_of Memory = ARWEN_MEMORY
