-- The edits that a command for ELF files asks for.
use Rattle.std.specs.Prelude.{◌≡◌, ◌⊎◌, List, [], Some}
use Rattle.elf_commands.specs.ElfAsked.{ElfAsked, edits_asked}
use Rattle.elf_commands.specs.Groups.{GroupEdit}

-- they are those that are asked for, or none
abbrev pub AreEditsOf : ElfAsked → List GroupEdit → Type 0
AreEditsOf a edits = (edits ≡ []) ⊎ (edits_asked a ≡ Some edits)
