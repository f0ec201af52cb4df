-- What options of install_name_tool mean of the bytes of a file.
use Rattle.std.specs.Prelude.{ℕ, ◌≡◌, List, [], ◌∷◌, None, map, is_some}
use Rattle.std.specs.List.{AllByRecursion}
use Rattle.std.specs.Str.Lossy.{utf8_lossy}
use Rattle.arwen_macho.specs.Container.{first_container}
use Rattle.arwen_macho.specs.FatState.{Slice}
use Rattle.arwen_macho.specs.Found.{Finds, container_found}
use Rattle.arwen_macho.specs.declared.macho.MachoType.{MachoType}
use Rattle.arwen_macho.specs.declared.macho.MachoType.TheVariants.{Fat, SingleArch}
use Rattle.macho_commands.specs.Errors.{answer_to}
use Rattle.macho_commands.specs.declared.error.MachoCommandError.{MachoCommandError}
use Rattle.macho_commands.specs.declared.error.MachoCommandError.TheVariants.{Memory}
use Rattle.macho_edits.specs.Call.{Call}
use Rattle.macho_edits.specs.State.{laid_bytes}
use Rattle.macho_edits.specs.declared.error.MachoError.{MachoError}
use Rattle.macho_image.specs.Commands.{id_of, libs_of, rpaths_of}
use Rattle.arwen_cli_options.specs.Options.{Asked}
use Rattle.arwen_cli_install_names.specs.NameEdits.{FileNames, name_calls}
use Rattle.arwen_cli_install_names.specs.declared.naming.NamingFault.{NamingFault}
use Rattle.arwen_cli_install_names.specs.declared.naming.NamingFault.TheVariants.{Command, Unlike}

-- what the bytes of a thin file have before its edits
abbrev pub names_in : List ℕ → FileNames
names_in bytes = record {
  has_id = is_some (id_of bytes);
  libraries = map utf8_lossy (libs_of bytes);
  run_paths = map utf8_lossy (rpaths_of bytes);
}

-- the edits that options mean of it
abbrev pub calls_in : List ℕ → List Asked → List Call
calls_in bytes given = name_calls (names_in bytes) given

-- ## Files of either shape

abbrev pub slice_bytes : Slice → List ℕ
slice_bytes slice = laid_bytes slice.state

-- the thin files that a file is: itself, or its slices
abbrev pub parts_of : MachoType → List (List ℕ)
parts_of (SingleArch held) = laid_bytes held.state ∷ []
parts_of (Fat held) = map slice_bytes held.state.slices

-- options mean these edits of each thin file
abbrev pub AreCalls : List Asked → List (List ℕ) → List Call → Type 0
AreCalls given parts calls = AllByRecursion (λ part. calls ≡ calls_in part given) parts

-- the same, where there are no edits if there is no thin file
abbrev pub AreCallsOfAll : List Asked → List (List ℕ) → List Call → Type 0
AreCallsOfAll given [] calls = calls ≡ []
AreCallsOfAll given (part ∷ parts) calls = AreCalls given (part ∷ parts) calls

-- The bytes are a Mach-O file that is read, and options mean these edits of it, of each slice the same.
pub record AreCallsOf (given : List Asked) (file : List ℕ) (calls : List Call) : Type 0 where
  pub read : container_found file ≡ None
  pub are : AreCallsOfAll given (parts_of (first_container file)) calls

-- ## Why there are no edits

-- no edits are those that options mean of each of these thin files
abbrev pub AreUnlike : List Asked → List (List ℕ) → Type 0
AreUnlike given parts = (calls : List Call) → AreCalls given parts calls → ⊥

-- an error of thin files that were read
abbrev pub TellsPartsUnnamed : List Asked → List (List ℕ) → NamingFault → Type 0
TellsPartsUnnamed given parts (Command e) = e ≡ Memory
TellsPartsUnnamed given parts Unlike = AreUnlike given parts

-- the error of bytes that are no Mach-O file that is read; want of memory may be answered in any case
abbrev pub TellsUnread : List ℕ → MachoCommandError → Type 0
TellsUnread file e = (fault : MachoError) × Finds fault (container_found file) × (e ≡ answer_to fault)

-- The bytes are a Mach-O file that is read, and options mean unlike edits of its slices.
pub record IsUnlike (given : List Asked) (file : List ℕ) : Type 0 where
  pub read : container_found file ≡ None
  pub unlike : AreUnlike given (parts_of (first_container file))

-- an error of the bytes of a file
abbrev pub TellsUnnamed : List Asked → List ℕ → NamingFault → Type 0
TellsUnnamed given file (Command e) = TellsUnread file e
TellsUnnamed given file Unlike = IsUnlike given file
