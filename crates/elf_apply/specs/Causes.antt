-- Which error stands for which fault. Want of memory is its own kind in each type.
use Rattle.std.specs.Prelude.{◌≡◌, Err, Result}
use Rattle.elf_image.specs.Image.{Image}
use Rattle.elf_format.specs.declared.fault.ElfFault.{ElfFault}
use Rattle.elf_format.specs.declared.fault.ElfFault.TheVariants.{Memory as fault_memory}
use Rattle.elf_apply.specs.declared.error.ElfError.{ElfError}
use Rattle.elf_apply.specs.declared.error.ElfError.TheVariants.{Memory, Parse}

abbrev pub of_fault : ElfFault → ElfError
of_fault fault_memory = Memory
of_fault other = Parse other

-- an error of reading is that of the fault that reading answers, unless memory ran out
abbrev pub RefusesRead : ElfError → Result Image ElfFault → Type 0
RefusesRead Memory answer = Unit {0}
RefusesRead (Parse fault) answer = answer ≡ Err fault
RefusesRead other answer = ⊥
