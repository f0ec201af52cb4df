-- The checks of a thin file, in their order: the first that fails.
use Rattle.std.specs.Prelude.{ℕ, ◌-◌, ◌^◌, ◌||◌, ◌&&◌, zero, suc, nat_lt, List, [], ◌∷◌, length, take, drop, Option, Some, None, if◌then◌else◌}
use Rattle.patch_bytes.specs.declared.number.ByteOrder2.{ByteOrder2}
use Rattle.macho_image.specs.declared.command.TheConstants.{LOAD_COMMAND_SIZE}
use Rattle.macho_image.specs.declared.format.Ctx.{Ctx}
use Rattle.macho_image.specs.declared.format.MachFault.{MachFault}
use Rattle.macho_image.specs.declared.format.MachFault.TheVariants.{BadCommandSize, BadMagic, BadNameOffset, CountsDisagree, TooLong, Truncated}
use Rattle.macho_image.specs.Command.{cmd_of, cmdsize_of, is_text_kind, least_size, text_offset}
use Rattle.macho_image.specs.Form.{area_of, commands_end, form_of, header_size, ncmds_of}
pub use Rattle.patch_bytes.specs.Memory.{first_there}

-- the checks of a command that has as many bytes as it says
unfoldable pub fields_fault : ByteOrder2 → List ℕ → Option MachFault
fields_fault order c =
    if nat_lt (length c) (least_size order c) then Some BadCommandSize
    else (if is_text_kind (cmd_of order c) && nat_lt (length c) (text_offset order c) then Some BadNameOffset else None)

-- the checks of the command at the head of what is left of the area
unfoldable pub command_fault : ByteOrder2 → List ℕ → Option MachFault
command_fault order rest =
    if nat_lt (length rest) LOAD_COMMAND_SIZE then Some BadCommandSize
    else (if nat_lt (cmdsize_of order rest) LOAD_COMMAND_SIZE || nat_lt (length rest) (cmdsize_of order rest) then Some BadCommandSize
    else fields_fault order (take (cmdsize_of order rest) rest))

-- the checks of n commands that are to fill an area
abbrev pub area_fault : ByteOrder2 → ℕ → List ℕ → Option MachFault
area_fault order zero [] = None
area_fault order zero (b ∷ rest) = Some CountsDisagree
area_fault order (suc n) rest = first_there (command_fault order rest) (area_fault order n (drop (cmdsize_of order rest) rest))

-- the checks of a file of a known form
unfoldable pub form_fault : Ctx → List ℕ → Option MachFault
form_fault ctx bytes =
    if nat_lt (length bytes) (header_size ctx.container) then Some Truncated
    else (if nat_lt (length bytes) (commands_end ctx bytes) then Some Truncated
    else area_fault ctx.le (ncmds_of ctx bytes) (area_of ctx bytes))

abbrev pub magic_fault : Option Ctx → List ℕ → Option MachFault
magic_fault None bytes = Some BadMagic
magic_fault (Some ctx) bytes = form_fault ctx bytes

-- the checks of a thin file
unfoldable pub file_fault : List ℕ → Option MachFault
file_fault bytes =
    if nat_lt (2 ^ 32 - 1) (length bytes) then Some TooLong
    else (if nat_lt (length bytes) 4 then Some Truncated
    else magic_fault (form_of bytes) bytes)
