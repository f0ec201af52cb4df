-- What a line asks for: a command of either kind of file, or to show files.
use Rattle.arwen_cli.specs.declared.cli.command.Command.{Command}
use Rattle.arwen_cli.specs.declared.cli.command.Command.TheVariants.{Elf, Macho, Show}
use Rattle.arwen_cli_faults.specs.Args.{ShowMeaning, args_model}
use Rattle.arwen_cli_faults.specs.Meaning.{ElfMeaning, elf_command_model}
use Rattle.macho_commands.specs.Meaning.{MachoMeaning, macho_command_model}

-- what is asked for
pub data Meaning : Type 0 where
  of_macho : MachoMeaning → Meaning
  of_elf : ElfMeaning → Meaning
  of_show : ShowMeaning → Meaning

-- what a value of the program stands for
abbrev pub shown : Command → Meaning
shown (Macho command) = of_macho (macho_command_model command)
shown (Elf command) = of_elf (elf_command_model command)
shown (Show args) = of_show (args_model args)
