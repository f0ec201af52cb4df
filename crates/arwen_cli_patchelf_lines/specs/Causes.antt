-- Why a value isn't read from a file, by what refused it.
use Rattle.byte_store.specs.declared.reading.ReadError.{ReadError}
use Rattle.byte_store.specs.declared.reading.ReadError.TheVariants as read
use Rattle.arwen_cli_patchelf_lines.specs.declared.name_maps.MapFault.{MapFault}
use Rattle.arwen_cli_patchelf_lines.specs.declared.name_maps.MapFault.TheVariants as map
use Rattle.arwen_cli_patchelf_lines.specs.declared.values.ValueCause.{ValueCause}
use Rattle.arwen_cli_patchelf_lines.specs.declared.values.ValueCause.TheVariants.{Io, Map, Memory}

-- the cause that an error of reading the file is
abbrev pub cause_of_read : ReadError → ValueCause
cause_of_read read.Memory = Memory
cause_of_read (read.Io e) = Io e

-- the cause that a fault of a map of names is
abbrev pub cause_of_map : MapFault → ValueCause
cause_of_map map.Memory = Memory
cause_of_map (map.Line wrong line) = Map wrong line
