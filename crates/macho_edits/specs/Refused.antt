-- Which cause an error names. Want of memory names none.
use Rattle.std.specs.Prelude.{◌≡◌, Option, Some, None, Result, Err, ⊤, string_bytes}
use Rattle.macho_edits.specs.declared.commands.CommandBuilderError.{CommandBuilderError as BuilderError}
use Rattle.macho_edits.specs.declared.commands.CommandBuilderError.TheVariants.{CStrError, ScrollError, Memory as builder_memory}
use Rattle.macho_edits.specs.declared.error.MachoError.{MachoError}
use Rattle.macho_edits.specs.declared.error.MachoError.TheVariants.{CommandBuilderError, DylibIdMissing, DylibNameMissing, Memory, NoRoom, Parsing, RpathMissing, UnixArchive}
use Rattle.macho_edits.specs.Call.{Cause}
use Rattle.macho_edits.specs.Call.Cause.{id_missing, name_missing, no_room, nul_inside, rpath_missing, too_long, unanswered}

-- the cause of a builder's error
abbrev pub builder_cause : BuilderError → Option Cause
builder_cause (CStrError nul) = Some (nul_inside nul.position)
builder_cause ScrollError = Some too_long
builder_cause builder_memory = None

-- the cause of an error of an edit; an error that no edit answers, such as those of a parse, has a cause of its
-- own, by which no edit is refused
abbrev pub cause_of : MachoError → Option Cause
cause_of (Parsing fault) = Some unanswered
cause_of UnixArchive = Some unanswered
cause_of (CommandBuilderError (CStrError nul)) = Some (nul_inside nul.position)
cause_of (CommandBuilderError ScrollError) = Some too_long
cause_of (CommandBuilderError builder_memory) = Some unanswered
cause_of (RpathMissing text) = Some (rpath_missing (string_bytes text))
cause_of (DylibNameMissing text) = Some (name_missing (string_bytes text))
cause_of DylibIdMissing = Some id_missing
cause_of (NoRoom needed available) = Some (no_room needed available)
cause_of Memory = None

-- an error of an edit is want of memory, or the refusal that the definition gives
abbrev pub Refuses : {X : Type 0} → Option Cause → Result X Cause → Type 0
Refuses None answer = ⊤
Refuses (Some cause) answer = answer ≡ Err cause
