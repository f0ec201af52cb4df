-- The header of a thin file: its form by the magic, and what it says of the load commands
-- (loader.h, `mach_header` and `mach_header_64`).
use Rattle.std.specs.Prelude.{ℕ, ◌+◌, ◌==◌, Bool, List, take, drop, Option, Some, None, unwrap_or, if◌then◌else◌}
use Rattle.patch_bytes.specs.declared.number.ByteOrder2.{ByteOrder2}
use Rattle.patch_bytes.specs.declared.number.ByteOrder2.TheVariants.{Little, Big}
use Rattle.patch_bytes.specs.declared.number.Wide.{Wide}
use Rattle.patch_bytes.specs.declared.number.Wide.TheVariants.{W32, W64}
use Rattle.patch_bytes.specs.Number.{number_at}
use Rattle.macho_image.specs.declared.format.Ctx.{Ctx}
use Rattle.macho_image.specs.declared.format.Header.{Header}
use Rattle.macho_image.specs.declared.format.TheConstants.{MH_MAGIC, MH_MAGIC_64, NCMDS_AT, SIZEOFCMDS_AT}

-- the magic of each width
abbrev pub magic_of : Wide → ℕ
magic_of W32 = MH_MAGIC
magic_of W64 = MH_MAGIC_64

-- how many bytes the header of each width has
abbrev pub header_size : Wide → ℕ
header_size W32 = 28
header_size W64 = 32

-- the form of this width and this order
abbrev pub form : Wide → ByteOrder2 → Ctx
form wide order = record { container = wide; le = order }

-- whether the first four bytes, read in the form's order, are the magic of its width
abbrev pub has_form : Ctx → List ℕ → Bool
has_form ctx bytes = number_at ctx.le 4 0 bytes == magic_of ctx.container

-- the form that the first four bytes tell, if any
unfoldable pub form_of : List ℕ → Option Ctx
form_of bytes =
    if has_form (form W32 Little) bytes then Some (form W32 Little)
    else (if has_form (form W32 Big) bytes then Some (form W32 Big)
    else (if has_form (form W64 Little) bytes then Some (form W64 Little)
    else (if has_form (form W64 Big) bytes then Some (form W64 Big) else None)))

-- the form of a file that has one
unfoldable pub ctx_of : List ℕ → Ctx
ctx_of bytes = unwrap_or (form_of bytes) (form W64 Little)

-- how many load commands the header says that there are
abbrev pub ncmds_of : Ctx → List ℕ → ℕ
ncmds_of ctx bytes = number_at ctx.le 4 NCMDS_AT bytes

-- how many bytes the header says that the load commands have
abbrev pub sizeofcmds_of : Ctx → List ℕ → ℕ
sizeofcmds_of ctx bytes = number_at ctx.le 4 SIZEOFCMDS_AT bytes

-- where the load commands end, by the header
abbrev pub commands_end : Ctx → List ℕ → ℕ
commands_end ctx bytes = header_size ctx.container + sizeofcmds_of ctx bytes

-- the bytes of the load commands, by the header
abbrev pub area_of : Ctx → List ℕ → List ℕ
area_of ctx bytes = take (sizeofcmds_of ctx bytes) (drop (header_size ctx.container) bytes)

-- the field behind the flags, which the narrow form lacks
abbrev pub reserved_of : Wide → ByteOrder2 → List ℕ → ℕ
reserved_of W32 order bytes = 0
reserved_of W64 order bytes = number_at order 4 28 bytes

-- the header's fields
unfoldable pub header_of : Ctx → List ℕ → Header
header_of ctx bytes = record {
  magic = number_at ctx.le 4 0 bytes;
  cputype = number_at ctx.le 4 4 bytes;
  cpusubtype = number_at ctx.le 4 8 bytes;
  filetype = number_at ctx.le 4 12 bytes;
  ncmds = ncmds_of ctx bytes;
  sizeofcmds = sizeofcmds_of ctx bytes;
  flags = number_at ctx.le 4 24 bytes;
  reserved = reserved_of ctx.container ctx.le bytes;
}
