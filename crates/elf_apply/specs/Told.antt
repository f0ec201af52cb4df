-- What an error of an edit tells.
use Rattle.std.specs.Prelude.{ℕ, ◌≡◌, Option, Some, None, Result, Err, string_bytes}
use Rattle.elf_image.specs.Image.{Image}
use Rattle.elf_edits.specs.Batch.{Refusal}
use Rattle.elf_edits.specs.Cause.{BadPageSize, CannotRenumber, Cause, MipsImage, NoDynamic, NoInterpreter, NoRunPath, NulInText, TooManyHeaders, UnknownAbi}
use Rattle.elf_edits.specs.declared.cause.Cause.{Cause as CauseFound}
use Rattle.elf_edits.specs.Edit.{words_of}
use Rattle.elf_edits.specs.CauseModel.{cause_model}
use Rattle.elf_apply.specs.declared.batch.ElfBatchError.{ElfBatchError}
use Rattle.elf_apply.specs.declared.error.ElfError.{ElfError}
use Rattle.elf_apply.specs.declared.error.ElfError.TheVariants.{Memory, Modify}
use Rattle.elf_apply.specs.declared.error.ModifyCause.{ModifyCause}
use Rattle.elf_apply.specs.declared.error.ModifyCause.TheVariants as told

-- the cause that is told, with what its text tells; what stands against no edit of these is none
abbrev pub cause_told : ModifyCause → Option Cause
cause_told (told.NoDynamic task) = Some (NoDynamic (words_of task))
cause_told told.NoInterp = Some NoInterpreter
cause_told (told.UnknownAbi name) = Some (UnknownAbi (string_bytes name))
cause_told (told.BadPageSize size) = Some (BadPageSize size)
cause_told told.NoRunPath = Some NoRunPath
cause_told told.NulInText = Some NulInText
cause_told told.MipsImage = Some MipsImage
cause_told told.CannotRenumber = Some CannotRenumber
cause_told told.TooManyHeaders = Some TooManyHeaders
cause_told told.Overlap = None
cause_told told.SymbolInRelocation = None
cause_told told.SectionInUse = None

-- the answer is a refusal for this cause
abbrev pub IsRefusedFor : Option Cause → Result Image Cause → Type 0
IsRefusedFor None answer = ⊥
IsRefusedFor (Some cause) answer = answer ≡ Err cause

-- the answer is a refusal of the edit with this number for this cause
abbrev pub IsRefusedAt : ℕ → Option Cause → Result Image Refusal → Type 0
IsRefusedAt index None answer = ⊥
IsRefusedAt index (Some cause) answer = answer ≡ Err (record { index = index; cause = cause })

-- an error tells the cause of a refused edit
abbrev pub TellsCause : ElfError → Result Image Cause → Type 0
TellsCause (Modify cause) answer = IsRefusedFor (cause_told cause) answer
TellsCause other answer = ⊥

-- an error tells the cause of a refused edit, or there was no memory
abbrev pub Refuses : ElfError → Result Image Cause → Type 0
Refuses Memory answer = Unit {0}
Refuses other answer = TellsCause other answer

-- an error tells the cause of the refused edit of a batch with this number, or there was no memory
abbrev pub RefusesAt : ℕ → ElfError → Result Image Refusal → Type 0
RefusesAt index Memory answer = Unit {0}
RefusesAt index (Modify cause) answer = IsRefusedAt index (cause_told cause) answer
RefusesAt index other answer = ⊥

-- an error of a batch tells its first refused edit and the cause, or there was no memory
abbrev pub RefusesBatch : ElfBatchError → Result Image Refusal → Type 0
RefusesBatch e answer = RefusesAt e.index e.fault answer

-- a refused edit of a batch, with the cause that is found
abbrev pub refusal_model : ℕ × CauseFound → Refusal
refusal_model (index, cause) = record { index = index; cause = cause_model cause }
