-- What the program says of a fault.
use Rattle.std.specs.Prelude.{ℕ, ◌≡◌, ◌∷◌, [], Bool, true, false, if◌then◌else◌, List, Option, Some, None}
use Rattle.command_words.specs.Rows.{Text}
use Rattle.arwen_cli_faults.specs.Asked.{AreEditsOf}
use Rattle.arwen_cli_faults.specs.Causes.{AreCauses}
use Rattle.arwen_cli_faults.specs.ElfAsked.{elf_asked}
use Rattle.arwen_cli_faults.specs.Groups.{GroupEdit}
use Rattle.arwen_cli_faults.specs.Meaning.{elf_file_of}
use Rattle.arwen_cli_faults.specs.Telling.{IsFileFault}
use Rattle.arwen_cli_faults.specs.declared.error.ArwenError.{ArwenError}
use Rattle.arwen_cli_faults.specs.declared.error.ArwenError.TheVariants.{Edits, Line}
use Rattle.macho_commands.specs.Meaning.{file_of as macho_file_of}
use Rattle.arwen_cli.specs.Line.{meaning_of}
use Rattle.arwen_cli_parser.specs.Asked.{has_option}
use Rattle.arwen_cli.specs.Meaning.{Meaning, of_elf, of_macho, of_show}

-- the file that is named, unless by the empty word; none where files are shown, of which each has a line of its own
abbrev pub path_if : Text → Option Text
path_if [] = None
path_if (c ∷ cs) = Some (c ∷ cs)

abbrev pub path_of : Meaning → Option Text
path_of (of_macho meaning) = path_if (macho_file_of meaning)
path_of (of_elf meaning) = path_if (elf_file_of meaning)
path_of (of_show meaning) = None

abbrev pub path_in : Option Meaning → Option Text
path_in None = None
path_in (Some meaning) = path_of meaning

-- a fault of the line itself, or of its edit list, is no file's
abbrev pub is_of_line : ArwenError → Bool
is_of_line (Line text status) = true
is_of_line (Edits fault) = true
is_of_line e = false

abbrev pub path_for : ArwenError → Option Meaning → Option Text
path_for e meaning = if is_of_line e then None else path_in meaning

-- edits of ELF files that are asked for
abbrev pub AreEditsFor : Option Meaning → List GroupEdit → Type 0
AreEditsFor (Some (of_elf meaning)) edits = AreEditsOf (elf_asked meaning) edits
AreEditsFor meaning edits = edits ≡ []

-- the line that tells a fault of what is asked for: the causes, or all that is said of the file at a path that is named
abbrev pub IsLineWith : (Text → Option (List ℕ)) → Option Text → Option Meaning → ArwenError → Text → Type 0
IsLineWith contents None meaning error line = AreCauses error line
IsLineWith contents (Some path) meaning error line =
    (edits : List GroupEdit) × AreEditsFor meaning edits × IsFileFault (contents path) edits path error line

-- the line that tells the fault of a line's words, of which none is an option, for files whose bytes may be known
abbrev pub IsFaultLine : (Text → Option (List ℕ)) → List Text → ArwenError → Text → Type 0
IsFaultLine contents words error line =
    has_option words ≡ false → IsLineWith contents (path_for error (meaning_of words)) (meaning_of words) error line
