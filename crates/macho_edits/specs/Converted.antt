-- Which error of an edit stands for one of a part of it. Want of memory is its own kind in each.
use Rattle.macho_image.specs.declared.format.MachFault.{MachFault}
use Rattle.macho_image.specs.declared.format.MachFault.TheVariants.{Memory as fault_memory}
use Rattle.macho_edits.specs.declared.commands.CommandBuilderError.{CommandBuilderError as BuilderError}
use Rattle.macho_edits.specs.declared.commands.CommandBuilderError.TheVariants.{Memory as builder_memory}
use Rattle.macho_edits.specs.declared.error.MachoError.{MachoError}
use Rattle.macho_edits.specs.declared.error.MachoError.TheVariants.{CommandBuilderError, Memory, Parsing}

-- for a builder's error
abbrev pub of_builder : BuilderError → MachoError
of_builder builder_memory = Memory
of_builder refused = CommandBuilderError refused

-- for a fault of a parse
abbrev pub of_fault : MachFault → MachoError
of_fault fault_memory = Memory
of_fault other = Parsing other
