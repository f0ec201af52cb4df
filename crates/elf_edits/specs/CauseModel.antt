-- Causes as the code tells them.
use Rattle.elf_edits.specs.declared.cause.Cause.{Cause as CauseTold}
use Rattle.elf_edits.specs.declared.cause.Cause.TheVariants as told
use Rattle.elf_edits.specs.Abi.{lowercase_name}
use Rattle.elf_edits.specs.Cause.{BadPageSize, CannotRenumber, Cause, MipsImage, NoDynamic, NoInterpreter, NoRunPath, NulInText, TooManyHeaders, UnknownAbi}
use Rattle.elf_edits.specs.Edit.{words_of}

-- a name that is told is meant with its ASCII letters lowered
abbrev pub cause_model : CauseTold → Cause
cause_model told.MipsImage = MipsImage
cause_model (told.NoDynamic task) = NoDynamic (words_of task)
cause_model told.NoInterpreter = NoInterpreter
cause_model told.NulInText = NulInText
cause_model (told.UnknownAbi name) = UnknownAbi (lowercase_name name.now)
cause_model (told.BadPageSize size) = BadPageSize size
cause_model told.NoRunPath = NoRunPath
cause_model told.CannotRenumber = CannotRenumber
cause_model told.TooManyHeaders = TooManyHeaders
