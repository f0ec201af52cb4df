-- Why nothing is told of a file.
use Rattle.std.specs.Prelude.{ℕ, ◌≡◌, true, false, List}
use Rattle.arwen_elf.specs.Causes.{RefusesRead}
use Rattle.arwen_elf.specs.ElfError.{ElfError}
use Rattle.arwen_elf.specs.ElfError.TheVariants.{Memory as elf_memory}
use Rattle.elf_image.specs.Image.{image_of}
use Rattle.elf_image.specs.Rules.{has_magic}
use Rattle.macho_edits.specs.declared.error.MachoError.{MachoError}
use Rattle.macho_edits.specs.declared.error.MachoError.TheVariants.{Memory as macho_memory}
use Rattle.arwen_macho.specs.Found.{Finds, container_found}
use Rattle.arwen_cli_facts.specs.FileFacts.{begins_macho}
use Rattle.arwen_cli_facts.specs.declared.error.ShowError.{ShowError}
use Rattle.arwen_cli_facts.specs.declared.error.ShowError.TheVariants.{Elf, Io, Macho, Memory, UnknownFormat}

-- an error of a library, as it is answered: want of memory is its own kind
abbrev pub of_elf : ElfError → ShowError
of_elf elf_memory = Memory
of_elf other = Elf other

abbrev pub of_macho : MachoError → ShowError
of_macho macho_memory = Memory
of_macho other = Macho other

-- an error tells why the bytes are refused, unless memory ran out
abbrev pub Refuses : List ℕ → ShowError → Type 0
Refuses bytes (Elf e) = (has_magic bytes ≡ true) × RefusesRead e (image_of bytes)
Refuses bytes (Macho e) = (has_magic bytes ≡ false) × (begins_macho bytes ≡ true) × Finds e (container_found bytes)
Refuses bytes UnknownFormat = (has_magic bytes ≡ false) × (begins_macho bytes ≡ false)
Refuses bytes Memory = Unit {0}
Refuses bytes (Io fault) = ⊥
