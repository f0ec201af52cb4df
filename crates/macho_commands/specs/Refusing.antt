-- What comes of edits of a file that was read.
use Rattle.std.specs.Prelude.{◌≡◌, ◌⊎◌, List}
use Rattle.arwen_macho.specs.Container.{container_bytes, container_step}
use Rattle.arwen_macho.specs.ContainerShown.{StepShows}
use Rattle.arwen_macho.specs.Fronts.{LeadOn}
use Rattle.arwen_macho.specs.declared.front.Front.{Front}
use Rattle.arwen_macho.specs.declared.macho.MachoType.{MachoType}
use Rattle.macho_edits.specs.Batch.{RefusesAt}
use Rattle.macho_edits.specs.Call.{Call}
use Rattle.macho_edits.specs.Refused.{cause_of}
use Rattle.macho_edits.specs.declared.batch.MachoBatchError.{MachoBatchError}
use Rattle.macho_commands.specs.Engine.{Asked, refused_answer}
use Rattle.macho_commands.specs.declared.error.MachoCommandError.{MachoCommandError}
use Rattle.macho_commands.specs.declared.error.MachoCommandError.TheVariants.{Memory}

-- fronts lead the file on to what these edits make of it, which shows them
abbrev pub LeadsWith : List Call → MachoType → List Front → Type 0
LeadsWith calls file fronts = LeadOn container_bytes file (container_step calls file) fronts
    × StepShows (container_step calls file)

-- why edits are not made: there was no memory, or one of them is refused
abbrev pub IsRefusal : Asked → List Call → MachoType → MachoCommandError → Type 0
IsRefusal a calls file e = (e ≡ Memory)
    ⊎ ((batch : MachoBatchError) × RefusesAt batch.index (cause_of batch.fault) (container_step calls file)
    × (e ≡ refused_answer a batch))
