-- What is told of a fault of a file.
use Rattle.std.specs.Prelude.{ℕ, ◌≡◌, List, Option, Some, None, IfSome, ⊤}
use Rattle.byte_store.specs.Known.{IsAll}
use Rattle.command_words.specs.Rows.{Text}
use Rattle.elf_commands.specs.ElfError.{ElfError}
use Rattle.elf_commands.specs.ElfError.TheVariants as elf
use Rattle.elf_apply.specs.declared.error.ModifyCause.TheVariants as cause
use Rattle.elf_commands.specs.Groups.{GroupEdit}
use Rattle.arwen_cli_show.specs.Reasons.{IsBracketOf as IsToldBracket, TellsWords, elf_words, file_line, macho_words}
use Rattle.arwen_cli_show.specs.Told.{Told}
use Rattle.arwen_cli_faults.specs.Causes.{AreCauses}
use Rattle.arwen_cli_faults.specs.Overlaps.{TellsOverlap}
use Rattle.arwen_cli_faults.specs.declared.error.ArwenError.{ArwenError}
use Rattle.arwen_cli_faults.specs.declared.error.ArwenError.TheVariants.{Elf, Macho}

-- ## What stands in brackets

-- Of an ELF file that isn't read, for these bytes, what they are, or the rule that they break; how a rule is put into words isn't said.
-- Where two blocks overlap, these, or nothing.
abbrev pub IsElfBracket : List GroupEdit → ElfError → List ℕ → Option Text → Type 0
IsElfBracket edits (elf.Parse fault) file bracket =
    (reason : Option Told) × TellsWords (elf_words (elf.Parse fault) file) file reason × IsToldBracket reason bracket
IsElfBracket edits (elf.Modify cause.Overlap) file bracket = IfSome bracket (TellsOverlap edits file)
IsElfBracket edits e file bracket = bracket ≡ None

-- of a Mach-O file what it is, where that says why; nothing of any other fault
abbrev pub IsBracketOf : List GroupEdit → ArwenError → List ℕ → Option Text → Type 0
IsBracketOf edits (Elf e) file bracket = IsElfBracket edits e file bracket
IsBracketOf edits (Macho e) file bracket = bracket ≡ macho_words e file
IsBracketOf edits e file bracket = bracket ≡ None

-- what bytes say that the file has, where these are known; nothing, where it isn't read
abbrev pub IsBracket : Option (List ℕ) → List GroupEdit → ArwenError → Option Text → Type 0
IsBracket known edits error None = ⊤
IsBracket known edits error (Some text) = (file : List ℕ) × IsAll known file × IsBracketOf edits error file (Some text)

-- ## The line

-- The line that tells a fault of the file at a path, of which these edits were asked.
pub record IsFileFault (known : Option (List ℕ)) (edits : List GroupEdit) (path : Text) (error : ArwenError) (line : Text) : Type 0 where
  pub causes : Text
  pub causes_are : AreCauses error causes
  pub bracket : Option Text
  pub bracket_is : IsBracket known edits error bracket
  pub line_is : line ≡ file_line path causes bracket
