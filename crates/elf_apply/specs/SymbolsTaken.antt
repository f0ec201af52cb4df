-- What the answers to edits of symbols and sections say, and what they leave.
use Rattle.std.specs.Prelude.{◌≡◌, Option, Some, None, Result, Ok, Err, MatchResult}
use Rattle.elf_format.specs.Image.{Image, shown}
use Rattle.elf_symbol_edits.specs.declared.cause.Cause.{Cause}
use Rattle.elf_symbol_edits.specs.declared.cause.Cause.TheVariants as causes
use Rattle.elf_symbol_edits.specs.Cause.{step}
use Rattle.elf_symbol_edits.specs.Laws.{shown_after}
use Rattle.elf_symbol_edits.specs.SymbolEdit.{SymbolEdit}
use Rattle.elf_apply.specs.declared.error.ElfError.{ElfError}
use Rattle.elf_apply.specs.declared.error.ElfError.TheVariants.{Memory, Modify}
use Rattle.elf_apply.specs.declared.error.ModifyCause.{ModifyCause}
use Rattle.elf_apply.specs.declared.error.ModifyCause.TheVariants as told

-- the cause that is told; what stands against no edit of symbols or sections is none
abbrev pub symbol_cause_told : ModifyCause → Option Cause
symbol_cause_told told.MipsImage = Some causes.MipsImage
symbol_cause_told told.NulInText = Some causes.NulInText
symbol_cause_told told.SymbolInRelocation = Some causes.SymbolInRelocation
symbol_cause_told told.CannotRenumber = Some causes.CannotRenumber
symbol_cause_told told.SectionInUse = Some causes.SectionInUse
symbol_cause_told (told.NoDynamic task) = None
symbol_cause_told told.NoInterp = None
symbol_cause_told (told.UnknownAbi name) = None
symbol_cause_told (told.BadPageSize size) = None
symbol_cause_told told.NoRunPath = None
symbol_cause_told told.Overlap = None
symbol_cause_told told.TooManyHeaders = None

-- the answer is a refusal for this cause
abbrev pub IsSymbolRefusal : Option Cause → Result Image Cause → Type 0
IsSymbolRefusal None answer = ⊥
IsSymbolRefusal (Some cause) answer = answer ≡ Err cause

-- an error tells the cause of a refused edit, or there was no memory
abbrev pub RefusesSymbolEdit : ElfError → Result Image Cause → Type 0
RefusesSymbolEdit Memory answer = Unit {0}
RefusesSymbolEdit (Modify cause) answer = IsSymbolRefusal (symbol_cause_told cause) answer
RefusesSymbolEdit other answer = ⊥

-- an answer to an edit, and what it leaves: the edited image, which shows what the edit makes of what was shown; or what was there, and
-- an error that tells the first cause
abbrev pub TakesSymbolEdit : {T : Type 0} → SymbolEdit → Image → Image → Result T ElfError → Type 0
TakesSymbolEdit edit old new answer = MatchResult answer (λ _. (step edit old ≡ Ok new) × (shown new ≡ shown_after edit old)) (λ e. (new ≡ old) × RefusesSymbolEdit e (step edit old))
