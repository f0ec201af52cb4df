-- What a command makes of a file's bytes.
use Rattle.std.specs.List.{list_any}
use Rattle.std.specs.Prelude.{ℕ, ◌≡◌, ◌⊎◌, List, [], ◌∷◌, length, All, Option, Some, None, Result, Ok, Err, ⊤}
use Rattle.macho_edits.specs.declared.batch.MachoBatchError.{MachoBatchError}
use Rattle.macho_edits.specs.declared.error.MachoError.{MachoError}
use Rattle.macho_edits.specs.declared.error.MachoError.TheVariants.{Parsing, UnixArchive}
use Rattle.arwen_macho.specs.declared.front.Front.{Front}
use Rattle.arwen_macho.specs.declared.macho.MachoType.{MachoType}
use Rattle.macho_edits.specs.Call.{Call}
use Rattle.arwen_macho.specs.Container.{container_bytes, container_step, first_container}
use Rattle.arwen_macho.specs.ContainerShown.{ShowsFile}
use Rattle.arwen_macho.specs.Found.{Found, container_found}
use Rattle.arwen_macho.specs.Found.Found.{archive, fault}
use Rattle.arwen_macho.specs.Fronts.{LiesIn, fronts_on}
use Rattle.macho_edits.specs.Refused.{cause_of}
use Rattle.macho_edits.specs.State.{Refusal}
use Rattle.command_words.specs.declared.edits.EditFault.{EditFault}
use Rattle.macho_commands.specs.declared.error.MachoCommandError.{MachoCommandError}
use Rattle.macho_commands.specs.declared.error.MachoCommandError.TheVariants.{Edits, Io, Macho, MachoBatch, Memory, Signing as signing, Unfit}
use Rattle.macho_commands.specs.Edits.{edits_of}
use Rattle.macho_commands.specs.Errors.{answer_to, answer_to_batch}
use Rattle.macho_commands.specs.Meaning.{MachoMeaning, apply, batch, edit, sign, verify}
use Rattle.macho_commands.specs.declared.signing.Signing.{Signing}
use Rattle.macho_commands.specs.declared.signing.Signing.TheVariants.{Left, Renewed}
use Rattle.macho_commands.specs.declared.signing.Signs.{Signs}
use Rattle.macho_commands.specs.declared.signing.Signs.TheVariants.{Nothing, Touched, Whole}
use Rattle.macho_signatures.specs.Renewed.{SlotLies, laid}
use Rattle.macho_signatures.specs.declared.renewal.Slot.{Slot}
use Rattle.macho_signing.specs.Check.{checking_fault}
use Rattle.macho_signing.specs.File.{IsSigned, has_identity_in, parts_of, signed_slots, signing_fault}
use Rattle.macho_signing.specs.declared.file.NewSlots.{NewSlots}
use Rattle.macho_signing.specs.Shown.{FileShowsSame}
use Rattle.macho_signing.specs.Thin.{Pages, all, since}
use Rattle.macho_signing.specs.declared.fault.SigningFault.{SigningFault}

-- what is asked for: one edit, or several, as those that words name
pub data Asked : Type 0 where
  one : Call → Asked
  several : Result (List Call) EditFault → Asked

abbrev pub asked : MachoMeaning → Asked
asked (edit call path) = one call
asked (apply path words) = several (edits_of words)
asked (batch path calls) = several (Ok calls)
asked (sign path) = several (Ok [])
asked (verify path) = several (Ok [])

-- what comes of a command: new bytes, or what is found wrong first
pub data Outcome : Type 0 where
  bytes : List ℕ → Outcome
  -- the words name no edits
  no_edits : EditFault → Outcome
  -- the bytes are no Mach-O file that is read
  no_file : Found → Outcome
  -- the one edit is refused
  refused : Refusal → Outcome
  -- an edit of several is refused
  refused_batch : Refusal → Outcome
  -- a signature is not made to fit
  not_signed : SigningFault → Outcome

abbrev pub written : (Refusal → Outcome) → Result MachoType Refusal → Outcome
written refusing (Ok file) = bytes (container_bytes file)
written refusing (Err refusal) = refusing refusal

-- what edits make of a file, in which this was found
abbrev pub edited_file : (Refusal → Outcome) → List Call → List ℕ → Option Found → Outcome
edited_file refusing calls file None = written refusing (container_step calls (first_container file))
edited_file refusing calls file (Some found) = no_file found

-- the words are read first, then the file
abbrev pub outcome_of : Asked → List ℕ → Outcome
outcome_of (one call) file = edited_file refused (call ∷ []) file (container_found file)
outcome_of (several (Ok calls)) file = edited_file refused_batch calls file (container_found file)
outcome_of (several (Err wrong)) file = no_edits wrong

-- ---- signatures

-- which slots of ad-hoc signatures are made anew
abbrev pub signs_by : Signing → Signs
signs_by Left = Nothing
signs_by Renewed = Touched

abbrev pub signs_of : Signing → MachoMeaning → Signs
signs_of choice (sign path) = Whole
signs_of choice (verify path) = Nothing
signs_of choice (edit call path) = signs_by choice
signs_of choice (apply path words) = signs_by choice
signs_of choice (batch path calls) = signs_by choice

-- of a file: those of the pages in which the edited bytes differ from its own, or all
abbrev pub pages_by : Signs → List ℕ → Pages
pages_by Touched file = since file
pages_by _ file = all

-- edited bytes with such slots made anew, or why that is not done
abbrev pub signed_or : Option SigningFault → List ℕ → Outcome
signed_or None new = bytes new
signed_or (Some why) new = not_signed why

abbrev pub signed_with : Pages → List ℕ → Outcome
signed_with pages edited = signed_or (signing_fault pages edited) (laid (signed_slots pages edited) edited)

-- what signing makes of the outcome of edits
abbrev pub sign_on : Pages → Outcome → Outcome
sign_on pages (bytes edited) = signed_with pages edited
sign_on pages (no_edits wrong) = no_edits wrong
sign_on pages (no_file found) = no_file found
sign_on pages (refused refusal) = refused refusal
sign_on pages (refused_batch refusal) = refused_batch refusal
sign_on pages (not_signed why) = not_signed why

abbrev pub outcome_by : Signs → Asked → List ℕ → Outcome
outcome_by Nothing a file = outcome_of a file
outcome_by Touched a file = sign_on (since file) (outcome_of a file)
outcome_by Whole a file = sign_on all (outcome_of a file)

-- what a command makes of a file's bytes
abbrev pub outcome : Signing → MachoMeaning → List ℕ → Outcome
outcome choice meaning file = outcome_by (signs_of choice meaning) (asked meaning) file

-- ---- which answer tells an outcome; want of memory may be answered in any case

-- what an error of reading a file finds
abbrev pub found_by : MachoError → Option Found
found_by (Parsing check) = Some (fault check)
found_by UnixArchive = Some archive
found_by _ = None

-- an error of a Mach-O file tells what is found in it, or why its one edit is refused
abbrev pub TellsMacho : Outcome → MachoError → Type 0
TellsMacho (no_file found) e = found_by e ≡ Some found
TellsMacho (refused refusal) e = cause_of e ≡ Some refusal.cause
TellsMacho _ e = ⊥

-- an error of several edits tells which of them is refused, and why
abbrev pub TellsBatch : Outcome → MachoBatchError → Type 0
TellsBatch (refused_batch refusal) e = (e.index ≡ refusal.index) × (cause_of e.fault ≡ Some refusal.cause)
TellsBatch _ e = ⊥

abbrev pub Tells : Outcome → MachoCommandError → Type 0
Tells outcome Memory = ⊤
Tells outcome (Macho e) = TellsMacho outcome e
Tells outcome (MachoBatch e) = TellsBatch outcome e
Tells outcome (Edits wrong) = outcome ≡ no_edits wrong
Tells outcome (signing why) = outcome ≡ not_signed why
Tells outcome Unfit = ⊥
Tells outcome (Io e) = ⊥

-- ---- why a command may fail. No clause can say that a file can be read or written

-- the command asks whether signatures fit
abbrev pub IsCheck : MachoMeaning → Type 0
IsCheck (verify path) = ⊤
IsCheck _ = ⊥

-- an error that tells the outcome of some file, with one choice or the other
abbrev pub TellsSome : MachoMeaning → MachoCommandError → Type 0
TellsSome meaning e = (choice : Signing) × (file : List ℕ) × Tells (outcome choice meaning file) e

-- an error that tells why a signature of some file is not read
abbrev pub TellsCheck : MachoMeaning → SigningFault → Type 0
TellsCheck meaning why = IsCheck meaning × (file : List ℕ) × (checking_fault file ≡ Some why)

-- the error of a command: a file's, want of memory, one that tells the outcome of some file, or of a check of signatures
abbrev pub MayFail : MachoMeaning → MachoCommandError → Type 0
MayFail meaning Memory = ⊤
MayFail meaning (Io e) = ⊤
MayFail meaning Unfit = IsCheck meaning
MayFail meaning (signing why) = TellsSome meaning (signing why) ⊎ TellsCheck meaning why
MayFail meaning e = TellsSome meaning e

-- ---- the edits that a command asks for, and what they write

-- the edits are named by words or values, and not those of a list
abbrev pub AreNamed : MachoMeaning → Type 0
AreNamed (batch path calls) = ⊥
AreNamed _ = ⊤

-- edits are those that are asked for
abbrev pub AreAsked : Asked → List Call → Type 0
AreAsked (one call) calls = calls ≡ call ∷ []
AreAsked (several edits) calls = edits ≡ Ok calls

-- an error that tells the outcome of each file, since no file was looked at
abbrev pub TellsAsked : Asked → MachoCommandError → Type 0
TellsAsked a e = (file : List ℕ) → Tells (outcome_of a file) e

-- how a refused batch is answered: where one edit was asked for, by its fault alone
abbrev pub refused_answer : Asked → MachoBatchError → MachoCommandError
refused_answer (one call) e = answer_to e.fault
refused_answer (several edits) e = answer_to_batch e

-- new bytes of a file: those of what the edits that are asked for make of it; a parse accepts them and finds that, in each
-- slice of a fat file
pub record ShowsEdited (a : Asked) (file new : List ℕ) : Type 0 where
  pub calls : List Call
  pub are : AreAsked a calls
  pub made : MachoType
  pub step : container_step calls (first_container file) ≡ Ok made
  pub bytes : new ≡ container_bytes made
  pub shows : ShowsFile made new

-- new bytes of a file: edited bytes, whose signatures are read, and in which slots of the ad-hoc ones were made anew; a parse
-- finds what it finds in the edited ones, the edited list of load commands of each slice among it
pub record ShowsSigned (pages : Pages) (a : Asked) (file new : List ℕ) : Type 0 where
  pub edited : List ℕ
  pub shows : ShowsEdited a file edited
  pub passes : signing_fault pages edited ≡ None
  pub signed : IsSigned pages edited new
  pub same : FileShowsSame edited new

-- what new bytes of a file show, by which slots are made anew
abbrev pub ShowsBy : Signs → Asked → List ℕ → List ℕ → Type 0
ShowsBy Nothing a file new = ShowsEdited a file new
ShowsBy Touched a file new = ShowsSigned (since file) a file new
ShowsBy Whole a file new = ShowsSigned all a file new

-- what new bytes of a file show that a command made
abbrev pub IsSignedOutcome : Signing → MachoMeaning → List ℕ → List ℕ → Type 0
IsSignedOutcome choice meaning file new = ShowsBy (signs_of choice meaning) (asked meaning) file new

-- fronts that lie in a file's bytes, and make them what edits make of them, and the new bytes show the edits
pub record WritesEdits (a : Asked) (file : List ℕ) (fronts : List Front) : Type 0 where
  pub inside : All (LiesIn (length file)) fronts
  pub is : outcome_of a file ≡ bytes (fronts_on fronts file)
  pub shows : ShowsEdited a file (fronts_on fronts file)

-- new slots of edited bytes, with which these are signed
pub record SignsBy (pages : Pages) (edited : List ℕ) (new : NewSlots) : Type 0 where
  pub passes : signing_fault pages edited ≡ None
  pub is : new.slots.items ≡ signed_slots pages edited
  pub left : new.are_some_left ≡ list_any (has_identity_in edited) (parts_of edited)
  pub inside : All (SlotLies (length edited)) new.slots.items
  pub signed : IsSigned pages edited (laid new.slots.items edited)
  pub same : FileShowsSame edited (laid new.slots.items edited)

-- why there are none: no memory, or what is found first
abbrev pub IsSigningError : Pages → List ℕ → MachoCommandError → Type 0
IsSigningError pages edited Memory = ⊤
IsSigningError pages edited (signing why) = signing_fault pages edited ≡ Some why
IsSigningError pages edited _ = ⊥

-- fronts and slots that lie in a file's bytes, and make them what edits and such signing make of them
pub record WritesBy (signs : Signs) (a : Asked) (file : List ℕ) (fronts : List Front) (slots : List Slot) : Type 0 where
  pub inside : All (LiesIn (length file)) fronts
  pub slots_inside : All (SlotLies (length file)) slots
  pub is : outcome_by signs a file ≡ bytes (laid slots (fronts_on fronts file))
  pub shows : ShowsBy signs a file (laid slots (fronts_on fronts file))

-- what a command makes of the bytes of a file
abbrev pub Writes : Signing → MachoMeaning → List ℕ → List Front → List Slot → Type 0
Writes choice meaning file fronts slots = WritesBy (signs_of choice meaning) (asked meaning) file fronts slots
