-- What the words of a line mean, those behind the program's name.
use Rattle.std.specs.Prelude.{◌==◌, ◌≡◌, Bool, false, List, [], ◌∷◌, Option, Some, None, codes}
use Rattle.std.specs.Prelude.{if◌then◌else◌, option_and_then, option_map}
use Rattle.std.specs.List.{list_any}
use Rattle.std.specs.Result.{result_ok}
use Rattle.std.specs.Str.{bytes_eq}
use Rattle.arwen_cli_faults.specs.ElfEngine.{ElfMayFail as CommandMayFail}
use Rattle.arwen_cli_faults.specs.Meaning.{ElfMeaning, Reading, elf_lines}
use Rattle.arwen_cli_faults.specs.ElfCommandError.{ElfCommandError}
use Rattle.macho_commands.specs.Engine.{MayFail}
use Rattle.macho_commands.specs.Meaning.{MachoMeaning, macho_lines}
use Rattle.macho_commands.specs.declared.error.MachoCommandError.{MachoCommandError}
use Rattle.arwen_cli_faults.specs.Args.{meaning_of_args}
use Rattle.arwen_cli_faults.specs.ShowCommandError.{ShowCommandError}
use Rattle.arwen_cli_faults.specs.Fault.{answer_to_elf_command, answer_to_macho_command, answer_to_show_command}
use Rattle.arwen_cli.specs.Fault.{IsOfLine}
use Rattle.arwen_cli.specs.Meaning.{Meaning, of_elf, of_macho, of_show}
use Rattle.command_words.specs.Rows.{Text, meant_by}
use Rattle.arwen_cli_faults.specs.declared.error.ArwenError.{ArwenError}

-- ---- what words mean

-- what a command for ELF files asks for; nothing where a value is not what the command takes
abbrev pub if_taken : Option Reading → Option ElfMeaning
if_taken asked = option_and_then result_ok asked

-- the first word names the commands, the second a command, and those behind it are its values in order; or the first word
-- is that of the command that shows files
abbrev pub meaning_of : List Text → Option Meaning
meaning_of (first ∷ name ∷ words) =
    if bytes_eq first (codes "macho") then option_map of_macho (meant_by macho_lines name words)
    else (if bytes_eq first (codes "elf")
    then option_map of_elf (if_taken (meant_by elf_lines name words))
    else (if bytes_eq first (codes "show")
    then option_map of_show (meaning_of_args (name ∷ words))
    else None))
meaning_of _ = None

-- ---- what comes of words

-- the error of a command: the program's answer to one that the command may have
abbrev pub MachoMayFail : MachoMeaning → ArwenError → Type 0
MachoMayFail meaning e =
    (cause : MachoCommandError) × MayFail meaning cause × (e ≡ answer_to_macho_command cause)

abbrev pub ElfMayFail : ElfMeaning → ArwenError → Type 0
ElfMayFail meaning e =
    (cause : ElfCommandError) × CommandMayFail meaning cause × (e ≡ answer_to_elf_command cause)

abbrev pub ShowMayFail : ArwenError → Type 0
ShowMayFail e = (cause : ShowCommandError) × (e ≡ answer_to_show_command cause)

abbrev pub MeaningMayFail : Meaning → ArwenError → Type 0
MeaningMayFail (of_macho meaning) e = MachoMayFail meaning e
MeaningMayFail (of_elf meaning) e = ElfMayFail meaning e
MeaningMayFail (of_show meaning) e = ShowMayFail e

-- the error of a line: that of the command that it means, or else of the line
abbrev pub LineMayFail : Option Meaning → ArwenError → Type 0
LineMayFail (Some meaning) e = MeaningMayFail meaning e
LineMayFail None e = IsOfLine e
