-- What calls make of the bytes of a file, and tell of it.
use Rattle.std.specs.Prelude.{ℕ, ◌≡◌, ◌==◌, ◌++◌, ◌∷◌, [], ⊤, Bool, true, false, bit_and, not, List, Option, Some, Ok}
use Rattle.std.specs.declared.alloc.Global.{Global}
use Rattle.std.specs.declared.vec.Vec.{Vec}
use Rattle.arwen_cli_facts.specs.Refusals.{Refuses}
use Rattle.arwen_cli_facts.specs.declared.error.ShowError.TheVariants as shown
use Rattle.arwen_cli_show.specs.Shown.{TellsOf}
use Rattle.arwen_cli_show.specs.declared.show.Style.TheVariants.{Json}
use Rattle.command_words.specs.declared.noting.Notes.TheVariants.{Wanted}
use Rattle.elf_commands.specs.ElfAsked.{several}
use Rattle.elf_commands.specs.ElfCommandError.TheVariants as elf
use Rattle.elf_commands.specs.ElfEngine.{IsEditedBy, TellsEdit, bytes_left}
use Rattle.elf_commands.specs.Groups.{GroupEdit, plain, symbols}
use Rattle.arwen_c_edits.specs.ElfEdits as given
use Rattle.arwen_c_edits.specs.ElfEdits.{ElfEdit}
use Rattle.elf_commands.specs.Noting.{TellsWantedAt}
use Rattle.elf_edits.specs.Edit.{AllowDynamicMove}
use Rattle.macho_commands.specs.Engine.{IsSignedOutcome, Tells, outcome}
use Rattle.macho_commands.specs.Engine.Outcome.{bytes as made}
use Rattle.macho_commands.specs.Meaning.{MachoMeaning}
use Rattle.macho_commands.specs.Notes.{TellsCommand}
use Rattle.macho_commands.specs.Verifying.{IsReadWhole, TellsUnread, do_pages_fit}
use Rattle.macho_commands.specs.declared.error.MachoCommandError.TheVariants as macho
use Rattle.macho_commands.specs.declared.signing.Signing.{Signing}
use Rattle.macho_commands.specs.declared.signing.Signing.TheVariants.{Left, Renewed}
use Rattle.arwen_c.specs.declared.error.CallError.{CallError}
use Rattle.arwen_c.specs.declared.error.CallError.TheVariants.{Elf, Macho, Memory, UnknownFormat}
use Rattle.arwen_c.specs.declared.status.TheConstants.{ARWEN_MOVE_DYNAMIC, ARWEN_SIGN}

-- ## Edits

-- an edit of an ELF file that was read, as that of a command
abbrev pub group_of : ElfEdit → GroupEdit
group_of (given.plain edit) = plain edit
group_of (given.symbols edit) = symbols edit

-- ## Flags

abbrev pub has_flag : ℕ → ℕ → Bool
has_flag flags flag = not (bit_and flags flag == 0)

-- edits, with leave behind them that the dynamic section moves
abbrev pub leave_if : Bool → List GroupEdit → List GroupEdit
leave_if true edits = edits ++ plain AllowDynamicMove ∷ []
leave_if false edits = edits

-- edits with what a flag puts behind them
abbrev pub edits_with : ℕ → List GroupEdit → List GroupEdit
edits_with flags edits = leave_if (has_flag flags ARWEN_MOVE_DYNAMIC) edits

-- whether the slots of pages are made anew that the edits of a Mach-O file touch
abbrev pub signing_if : Bool → Signing
signing_if true = Renewed
signing_if false = Left

abbrev pub signing_by : ℕ → Signing
signing_by flags = signing_if (has_flag flags ARWEN_SIGN)

-- ## New bytes, and notes

-- The bytes of an ELF file after edits, or the old ones where these change nothing, and the notes, which call the file by this name.
pub record IsElfMade (edits : List GroupEdit) (name file new told : List ℕ) : Type 0 where
  pub answer : Option (Vec ℕ Global)
  pub edited : IsEditedBy edits file answer
  pub is : new ≡ bytes_left file answer
  pub notes : TellsWantedAt Wanted (several (Ok edits)) name (Some file) told

-- The bytes of a Mach-O file after what is asked, and the note.
pub record IsMachoMade (choice : Signing) (meaning : MachoMeaning) (file new told : List ℕ) : Type 0 where
  pub is : outcome choice meaning file ≡ made new
  pub shows : IsSignedOutcome choice meaning file new
  pub note : TellsCommand choice meaning Wanted file told

-- what is told of a file: a line of JSON
pub record IsShown (name file new told : List ℕ) : Type 0 where
  pub no_bytes : new ≡ []
  pub tells : TellsOf Json name file told

-- all code signatures of a file are read, and whether all pages fit
pub record IsVerified (fit : Bool) (file new told : List ℕ) : Type 0 where
  pub no_bytes : new ≡ []
  pub whole : IsReadWhole file
  pub fits : do_pages_fit file ≡ fit

-- ## Errors

-- an error is told as said, or is want of memory, which may be answered in any case
abbrev pub OrMemory : (CallError → Type 0) → CallError → Type 0
OrMemory tells Memory = ⊤
OrMemory tells e = tells e

-- why there is no ELF file
abbrev pub TellsElf : List GroupEdit → List ℕ → CallError → Type 0
TellsElf edits file (Elf e) = TellsEdit (several (Ok edits)) file e
TellsElf edits file e = ⊥

-- why there is no Mach-O file
abbrev pub TellsMacho : Signing → MachoMeaning → List ℕ → CallError → Type 0
TellsMacho choice meaning file (Macho e) = Tells (outcome choice meaning file) e
TellsMacho choice meaning file e = ⊥

-- why nothing is told of a file
abbrev pub TellsUnshown : List ℕ → CallError → Type 0
TellsUnshown file UnknownFormat = Refuses file shown.UnknownFormat
TellsUnshown file (Elf (elf.Elf e)) = Refuses file (shown.Elf e)
TellsUnshown file (Macho (macho.Macho e)) = Refuses file (shown.Macho e)
TellsUnshown file e = ⊥

-- why it isn't known whether pages fit
abbrev pub TellsUnverified : List ℕ → CallError → Type 0
TellsUnverified file (Macho e) = TellsUnread file e
TellsUnverified file e = ⊥
