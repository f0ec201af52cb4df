-- What it is to be a thin Mach-O file, apart from how it is cut and checked.
use Rattle.std.specs.Prelude.{ℕ, ◌+◌, ◌^◌, ◌<◌, ◌≤◌, ◌≡◌, List, length, take, drop, Some, All}
use Rattle.std.specs.List.{concat}
use Rattle.macho_image.specs.declared.format.Ctx.{Ctx}
use Rattle.macho_image.specs.Command.{IsCommand}
use Rattle.macho_image.specs.Form.{form_of, header_size, ncmds_of, sizeofcmds_of}

-- the bytes are a file of this form with these load commands: the magic tells the form, and behind the
-- header the commands stand end to end, as many and as long together as the header says
pub record IsFile (bytes : List ℕ) (ctx : Ctx) (commands : List (List ℕ)) : Type 0 where
  pub short : length bytes < 2 ^ 32
  pub magic : form_of bytes ≡ Some ctx
  pub room : header_size ctx.container + length (concat commands) ≤ length bytes
  pub count : ncmds_of ctx bytes ≡ length commands
  pub size : sizeofcmds_of ctx bytes ≡ length (concat commands)
  pub stand : take (length (concat commands)) (drop (header_size ctx.container) bytes) ≡ concat commands
  pub each : All (IsCommand ctx.le) commands
