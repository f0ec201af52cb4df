-- What the patcher makes of a file's bytes, and what it finds in a list of commands.
use Rattle.std.specs.Prelude.{ℕ, ◌+◌, ◌-◌, ◌≤◌, List, ◌++◌, length, take, drop, replicate, Option, Some, None}
use Rattle.std.specs.List.{filter_map}
use Rattle.std.specs.Option.{option_map}
use Rattle.patch_bytes.specs.declared.number.ByteOrder2.{ByteOrder2}
use Rattle.patch_bytes.specs.Number.{with_number}
use Rattle.macho_edits.specs.declared.patcher.HeaderContainer.{HeaderContainer}
use Rattle.macho_image.specs.declared.command.CommandVariant.{CommandVariant}
use Rattle.macho_image.specs.declared.command.CommandVariant.TheVariants.{IdDylib, LazyLoadDylib, LoadDylib, LoadUpwardDylib, LoadWeakDylib, ReexportDylib, Rpath}
use Rattle.macho_image.specs.declared.command.DylibCommand.{DylibCommand}
use Rattle.macho_image.specs.declared.command.LoadCommand.{LoadCommand}
use Rattle.macho_image.specs.declared.command.RpathCommand.{RpathCommand}
use Rattle.macho_image.specs.declared.format.Ctx.{Ctx}
use Rattle.macho_image.specs.declared.format.TheConstants.{NCMDS_AT, SIZEOFCMDS_AT}
use Rattle.macho_image.specs.Command.{variant_size}
use Rattle.macho_image.specs.Form.{area_of, commands_end, header_of, header_size, ncmds_of}
use Rattle.macho_image.specs.Image.{with_area}

-- the bytes with a command put in at this offset: the commands behind it stand behind the new one, and
-- one command more is counted
unfoldable pub inserted_command : Ctx → List ℕ → ℕ → List ℕ → List ℕ
inserted_command ctx buffer offset command =
    with_area ctx buffer (ncmds_of ctx buffer + 1)
    (take (offset - header_size ctx.container) (area_of ctx buffer) ++ (command ++ drop (offset - header_size ctx.container) (area_of ctx buffer)))
    (commands_end ctx buffer + length command)

-- bytes with a command put in at this offset, where those from there to the end make room behind it
abbrev pub bytes_of_prepared : List ℕ → ℕ → ℕ → List ℕ → List ℕ
bytes_of_prepared bytes offset end command =
    take offset bytes ++ (command ++ (take (end - offset) (drop offset bytes) ++ drop (end + length command) bytes))

-- where a command is put in: among the commands, with room for it behind them
pub record InsertsAt (ctx : Ctx) (bytes : List ℕ) (at size : ℕ) : Type 0 where
  pub from : header_size ctx.container ≤ at
  pub to : at ≤ commands_end ctx bytes
  pub room : commands_end ctx bytes + size ≤ length bytes

-- the bytes with the command of this offset and this size taken out: the commands behind it close up,
-- zeros stand behind them, and one command less is counted
unfoldable pub removed_bytes : Ctx → List ℕ → ℕ → ℕ → List ℕ
removed_bytes ctx buffer offset size =
    with_area ctx buffer (ncmds_of ctx buffer - 1)
    (take (offset - header_size ctx.container) (area_of ctx buffer) ++ drop (offset - header_size ctx.container + size) (area_of ctx buffer))
    (commands_end ctx buffer)

-- bytes without so many of them from this offset on: those up to the end close up, zeros stand behind them
abbrev pub bytes_without : List ℕ → ℕ → ℕ → ℕ → List ℕ
bytes_without bytes offset size end =
    take offset bytes ++ (take (end - (offset + size)) (drop (offset + size) bytes) ++ (replicate size 0 ++ drop end bytes))

-- the bytes with this load command taken out
abbrev pub removed_command : Ctx → List ℕ → LoadCommand → List ℕ
removed_command ctx buffer c = removed_bytes ctx buffer c.offset (variant_size c.command)

-- the header that these bytes show
abbrev pub header_model : HeaderContainer → List ℕ → HeaderContainer
header_model header bytes = record header { inner = header_of header.ctx bytes }

-- bytes with both counts of the header written
abbrev pub bytes_with_counts : ByteOrder2 → ℕ → ℕ → List ℕ → List ℕ
bytes_with_counts order ncmds sizeofcmds bytes = with_number order 4 SIZEOFCMDS_AT sizeofcmds (with_number order 4 NCMDS_AT ncmds bytes)

-- where a command is taken out: it lies among the commands
pub record RemovesAt (ctx : Ctx) (bytes : List ℕ) (at size : ℕ) : Type 0 where
  pub from : header_size ctx.container ≤ at
  pub to : at + size ≤ commands_end ctx bytes
  pub room : commands_end ctx bytes ≤ length bytes

-- the fields of an rpath command, of one of the five kinds that load a library, and of one that holds
-- the library's own name
abbrev pub rpath_in : CommandVariant → Option RpathCommand
rpath_in (Rpath fields) = Some fields
rpath_in _ = None

abbrev pub load_dylib_in : CommandVariant → Option DylibCommand
load_dylib_in (LoadDylib fields) = Some fields
load_dylib_in (LoadUpwardDylib fields) = Some fields
load_dylib_in (ReexportDylib fields) = Some fields
load_dylib_in (LoadWeakDylib fields) = Some fields
load_dylib_in (LazyLoadDylib fields) = Some fields
load_dylib_in _ = None

abbrev pub id_in : CommandVariant → Option DylibCommand
id_in (IdDylib fields) = Some fields
id_in _ = None

-- a command that holds an rpath, or the name of a library, with its fields
abbrev pub as_rpath : LoadCommand → Option (LoadCommand × RpathCommand)
as_rpath c = option_map (λ fields. (c, fields)) (rpath_in c.command)

abbrev pub as_load_dylib : LoadCommand → Option (LoadCommand × DylibCommand)
as_load_dylib c = option_map (λ fields. (c, fields)) (load_dylib_in c.command)

abbrev pub as_id : LoadCommand → Option (LoadCommand × DylibCommand)
as_id c = option_map (λ fields. (c, fields)) (id_in c.command)

-- all commands of a list that hold an rpath, the name of a library or the library's own name, in order
abbrev pub rpaths_in : List LoadCommand → List (LoadCommand × RpathCommand)
rpaths_in commands = filter_map as_rpath commands

abbrev pub load_dylibs_in : List LoadCommand → List (LoadCommand × DylibCommand)
load_dylibs_in commands = filter_map as_load_dylib commands

abbrev pub ids_in : List LoadCommand → List (LoadCommand × DylibCommand)
ids_in commands = filter_map as_id commands
