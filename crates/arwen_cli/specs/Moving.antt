-- What a line asks for with which the dynamic section of an edited ELF file may move.
use Rattle.std.specs.Prelude.{◌≡◌, ◌||◌, Bool, true, List, Some, codes, map}
use Rattle.std.specs.Str.{bytes_eq}
use Rattle.command_words.specs.Rows.{Given, Text, named, named_of}
use Rattle.elf_format.specs.Options.{is_some_and}
use Rattle.arwen_cli_faults.specs.Meaning.{ElfMeaning, elf_lines}
use Rattle.arwen_cli_faults.specs.Moving.{meant_moving}
use Rattle.arwen_cli_parser.specs.Parser.{IsTaken}
use Rattle.arwen_cli_options.specs.Lines.{without_move}

-- the command of a name is `apply`, or an edit that it takes
abbrev pub takes_leave : Text → Bool
takes_leave name = bytes_eq name (codes "apply") || is_some_and (λ row. row.is_edit) (named (map named_of elf_lines) name)

-- the parser takes the words without the option, and the values that it finds ask for this with the leave
abbrev pub MeansMoving : List Text → ElfMeaning → Type 0
MeansMoving words meaning = (taken : Text × Given)
    × IsTaken (codes "elf") (map named_of elf_lines) (without_move words) taken
    × (takes_leave taken.0 ≡ true)
    × (meant_moving taken.0 taken.1 ≡ Some meaning)
