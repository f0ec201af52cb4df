-- Whether a Mach-O file bears a code signature.
use Rattle.std.specs.Prelude.{ℕ, ◌==◌, List, Bool, false}
use Rattle.std.specs.List.{list_any}
use Rattle.arwen_macho.specs.FatState.{Slice}
use Rattle.arwen_macho.specs.declared.macho.MachoType.{MachoType}
use Rattle.arwen_macho.specs.declared.macho.MachoType.TheVariants.{Fat, SingleArch}
use Rattle.macho_edits.specs.Held.{image_model}
use Rattle.macho_edits.specs.State.{laid_bytes}
use Rattle.macho_image.specs.Commands.{load_commands_of}
use Rattle.macho_image.specs.declared.command.CommandVariant.{CommandVariant}
use Rattle.macho_image.specs.declared.command.CommandVariant.TheVariants.{Other}
use Rattle.macho_image.specs.declared.command.LoadCommand.{LoadCommand}

-- LC_CODE_SIGNATURE (loader.h)
abbrev pub is_signature_kind : CommandVariant → Bool
is_signature_kind (Other header) = header.cmd == 0x1d
is_signature_kind _ = false

abbrev pub is_signature : LoadCommand → Bool
is_signature command = is_signature_kind command.command

-- a thin file of these bytes is signed
abbrev pub is_signed : List ℕ → Bool
is_signed bytes = list_any is_signature (load_commands_of bytes)

abbrev pub is_signed_slice : Slice → Bool
is_signed_slice slice = is_signed (laid_bytes slice.state)

-- a file is, or a slice of a fat one
abbrev pub is_signed_file : MachoType → Bool
is_signed_file (SingleArch held) = is_signed (image_model held).bytes
is_signed_file (Fat held) = list_any is_signed_slice held.state.slices
